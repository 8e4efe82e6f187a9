use Rattle.cell_words.specs.Hubs.{IsOwn}
use Rattle.word_bench.proofs.channels.by_one.try_offers.Given as goal

abbrev pub invariant-loop-i : goal.invariant-loop-i
invariant-loop-i l = IsOwn l.hub l.pass 0
