use Rattle.floor_tests.proofs.CallsAdd.{untouched_adds}
use Rattle.floor_tests.proofs.permit_calls.known_calls.try_acquire_so.Goals as goal

pub returns-in-Err-clause-adds : goal.returns-in-Err-clause-adds
returns-in-Err-clause-adds g c = untouched_adds _ _ _ _ _ _ c.in-Err.ensures.answer
