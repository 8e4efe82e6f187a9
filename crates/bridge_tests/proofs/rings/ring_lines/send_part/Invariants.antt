use Rattle.bridge_tests.specs.RingPasses.{IsPass}
use Rattle.bridge_tests.proofs.rings.ring_lines.send_part.Given as goal

abbrev pub invariant-loop-turn : goal.invariant-loop-turn
invariant-loop-turn g l = IsPass l.ring l.tag l.pass
