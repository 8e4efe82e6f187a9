use Rattle.cell_words.specs.Hubs.{IsOwn}
use Rattle.word_bench.proofs.channels.by_one.give_up.Given as goal

abbrev pub invariant-loop : goal.invariant-loop
invariant-loop l = IsOwn l.hub l.pass 0
