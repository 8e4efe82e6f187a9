use Rattle.std.proofs.Common.{◌≡◌}
use Rattle.engine_many.proofs.worker.poll_while_ready.Given as goal

abbrev pub invariant-loop : goal.invariant-loop
invariant-loop g l = l.task.0.tag ≡ l.initial.task.0.tag
