use Rattle.std.proofs.Common.{ap}
use Rattle.task_berths.specs.declared.rule.SeatView.{SeatView}
use Rattle.task_crew.proofs.TasksAtHand.{held_taken}
use Rattle.task_crew.proofs.worker.take.Goals as goal

pub returns-in-Task-clause-held : goal.returns-in-Task-clause-held
returns-in-Task-clause-held g c =
    held_taken _ _ _ _ _ _ c.requires.held c.requires.tag c.requires.lacks (ap (λ (v : SeatView). v.held) c.in-Task.ensures.taken.now)
    c.in-Task.ensures.taken.tagged
