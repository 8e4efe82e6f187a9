use Rattle.bridge_tests.specs.RingPasses.{IsPass}
use Rattle.bridge_tests.proofs.rings.ring_lines.receive_part.Given as goal

abbrev pub invariant-loop : goal.invariant-loop
invariant-loop g l = IsPass l.ring l.tag l.pass
