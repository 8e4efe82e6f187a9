use Rattle.task_crew.proofs.TasksAtHand.{held_swapped}
use Rattle.task_crew.proofs.worker.fetch.Goals as goal

pub returns-then-is_of-clause-held : goal.returns-then-is_of-clause-held
returns-then-is_of-clause-held g c = held_swapped _ _ _ _ c.requires.held

pub leave-requires-clause-held : goal.leave-requires-clause-held
leave-requires-clause-held g c = held_swapped _ _ _ _ c.requires.held
