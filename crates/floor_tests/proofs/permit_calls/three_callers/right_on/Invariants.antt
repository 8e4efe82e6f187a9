use Rattle.floor_tests.specs.AllThree.{AllKnow}
use Rattle.floor_tests.proofs.permit_calls.three_callers.right_on.Given as goal

abbrev pub invariant-loop-i : goal.invariant-loop-i
invariant-loop-i g l = AllKnow l.known (g.F.ChannelFloor.view l.floor)
