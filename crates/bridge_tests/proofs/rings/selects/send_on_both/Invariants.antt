use Rattle.bridge_tests.specs.RingPasses.{IsPass}
use Rattle.bridge_tests.proofs.rings.selects.send_on_both.Given as goal

abbrev pub invariant-loop-number : goal.invariant-loop-number
invariant-loop-number g l = IsPass l.ring 2 l.pass × IsPass l.other 2 l.another
