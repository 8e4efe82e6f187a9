use Rattle.cell_words.specs.Hubs.{IsOwn}
use Rattle.word_bench.proofs.channels.waits.select.Given as goal

abbrev pub invariant-tries : goal.invariant-tries
invariant-tries l = IsOwn l.hub l.pass l.who
