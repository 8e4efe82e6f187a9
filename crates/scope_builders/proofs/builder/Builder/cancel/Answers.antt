use Rattle.scope_builders.proofs.Starts.{cancelled_all, cancelled_part}
use Rattle.scope_builders.proofs.builder.Builder.cancel.Goals as goal

pub returns-in-Ok-clause-answer : goal.returns-in-Ok-clause-answer
returns-in-Ok-clause-answer g c = cancelled_all c.in-Ok.ensures.answer

pub returns-in-Err-clause-answer : goal.returns-in-Err-clause-answer
returns-in-Err-clause-answer g c = cancelled_part c.in-Err.ensures.answer.1
