use Rattle.floor_tests.specs.AllThree.{AllHold}
use Rattle.floor_tests.proofs.permit_calls.three_callers.right_by.Given as goal

abbrev pub invariant-loop-i : goal.invariant-loop-i
invariant-loop-i l = AllHold l.hub l.a l.b l.c l.known
