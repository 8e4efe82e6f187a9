use Rattle.floor_tests.proofs.CallsAdd.{cancel_adds}
use Rattle.floor_tests.proofs.permit_calls.known_calls.cancel_so.Goals as goal

pub returns-in-Ok-clause-adds : goal.returns-in-Ok-clause-adds
returns-in-Ok-clause-adds g c = cancel_adds _ _ _ _ _ _ _ _ c.cancel_acquire.result c.cancel_acquire.ensures.answer

pub returns-in-Err-clause-adds : goal.returns-in-Err-clause-adds
returns-in-Err-clause-adds g c = cancel_adds _ _ _ _ _ _ _ _ c.cancel_acquire.result c.cancel_acquire.ensures.answer
