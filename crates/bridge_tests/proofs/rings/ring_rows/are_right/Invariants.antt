use Rattle.bridge_tests.specs.RingPasses.{AreThree}
use Rattle.bridge_tests.proofs.rings.ring_rows.are_right.Given as goal

abbrev pub invariant-loop-by : goal.invariant-loop-by
invariant-loop-by l = AreThree l.ring l.three.main l.three.one l.three.two
