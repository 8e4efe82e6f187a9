use Rattle.std.proofs.Common.{◌≡◌, ◌+◌, ◌≤◌}
use Rattle.std.specs.Prelude.{vec_len, vec_capacity}
use Rattle.task_berths.specs.Answers.{AllAtHome}
use Rattle.task_berths.proofs.TasksByTag.{Turned}
use Rattle.task_berths.proofs.closing.move_in.Given as goal

abbrev pub invariant-loop-task : goal.invariant-loop-task
invariant-loop-task g l = (vec_len l.tasks + vec_len l.slots ≡ vec_len l.fn.tasks)
    × ((vec_capacity l.tasks ≡ vec_capacity l.fn.tasks) × ((vec_len l.fn.tasks ≤ vec_capacity l.slots)
    × (AllAtHome g.T.Tagged.tag_of l.slots.items × Turned g.T.Tagged.tag_of (vec_len l.fn.tasks) l.tasks.items)))

abbrev pub decreases-loop-task : goal.decreases-loop-task
decreases-loop-task g l = goal.left-loop-task g l
