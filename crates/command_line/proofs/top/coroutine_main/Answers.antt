use Rattle.command_line.proofs.Completing.{completes}
use Rattle.command_line.proofs.top.coroutine_main.Goals as goal

pub returns-clause-completes : goal.returns-clause-completes
returns-clause-completes g c = rw c.number.ensures (completes _ _ _ _ _ _ (c.end.ensures.status _ _ _ c.answer.ensures.answers))
