use Rattle.job_tree.proofs.Looks.{looked_self, looked_made, looked_same}
use Rattle.job_tree.proofs.steps.room_for_cancel.Goals as goal

pub returns-in-Before-clause-looked : goal.returns-in-Before-clause-looked
returns-in-Before-clause-looked g c = λ who. looked_self who _

pub returns-in-Err-clause-looked : goal.returns-in-Err-clause-looked
returns-in-Err-clause-looked g c = λ who. looked_same who _ _ c.in-Err.ensures.same

pub returns-in-Ok-clause-looked : goal.returns-in-Ok-clause-looked
returns-in-Ok-clause-looked g c = λ who. looked_made who _ _ _ c.in-Ok.ensures.floor
