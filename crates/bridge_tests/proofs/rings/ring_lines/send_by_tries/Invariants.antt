use Rattle.bridge_tests.specs.RingPasses.{IsPass}
use Rattle.bridge_tests.proofs.rings.ring_lines.send_by_tries.Given as goal

abbrev pub invariant-loop : goal.invariant-loop
invariant-loop l = IsPass l.ring l.tag l.pass
