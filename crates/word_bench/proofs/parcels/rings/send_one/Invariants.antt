use Rattle.word_bench.specs.Rings.{IsPass}
use Rattle.word_bench.proofs.parcels.rings.send_one.Given as goal

abbrev pub invariant-loop : goal.invariant-loop
invariant-loop l = IsPass l.ring l.tag l.pass
