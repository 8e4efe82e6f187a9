use Rattle.task_crew.proofs.TasksAtHand.{held_swapped}
use Rattle.task_crew.proofs.worker.keep.Goals as goal

pub leave-requires-clause-held : goal.leave-requires-clause-held
leave-requires-clause-held g c = held_swapped _ _ _ _ c.requires.held

pub returns-clause-held : goal.returns-clause-held
returns-clause-held g c = held_swapped _ _ _ _ c.leave.ensures.held
