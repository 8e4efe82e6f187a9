use Rattle.bridge_tests.specs.RingPasses.{IsPass}
use Rattle.bridge_tests.proofs.rings.ring_lines.left_of.Given as goal

abbrev pub invariant-loop : goal.invariant-loop
invariant-loop l = IsPass l.ring 0 l.pass
