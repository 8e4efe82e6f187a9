use Rattle.cell_words.specs.Hubs.{IsOwn}
use Rattle.word_bench.specs.Waits.{HoldsWait}
use Rattle.word_bench.proofs.channels.apart.await_end.Given as goal

abbrev pub invariant-looks : goal.invariant-looks
invariant-looks l = record { own : IsOwn l.hub l.pass l.who; holds : HoldsWait l.who 0 l.place l.pass }
