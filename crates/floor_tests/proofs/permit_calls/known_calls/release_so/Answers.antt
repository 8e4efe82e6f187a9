use Rattle.floor_tests.proofs.CallsAdd.{release_adds, untouched_adds}
use Rattle.floor_tests.proofs.permit_calls.known_calls.release_so.Goals as goal

pub returns-in-Ok-clause-adds : goal.returns-in-Ok-clause-adds
returns-in-Ok-clause-adds g c = release_adds _ _ _ _ _ _ _ c.release.result c.release.ensures.answer

pub returns-in-Err-clause-adds : goal.returns-in-Err-clause-adds
returns-in-Err-clause-adds g c = untouched_adds _ _ _ _ _ _ c.in-Err.ensures.answer
