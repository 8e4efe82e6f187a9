use Rattle.task_crew.proofs.TasksAtHand.{nothing_held}
use Rattle.task_crew.proofs.worker.leave_both.Goals as goal

pub returns-clause-held : goal.returns-clause-held
returns-clause-held g c = nothing_held _ _ c.leave-2.ensures.held
