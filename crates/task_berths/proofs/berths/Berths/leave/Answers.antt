use Rattle.std.proofs.Common.{rules, ◌∙◌}
use Rattle.task_berths.proofs.SeatsStayMain.{stays_left}
use Rattle.task_berths.proofs.berths.Berths.leave.Goals as goal

pub returns-clause-main : goal.returns-clause-main
returns-clause-main g c m = (search rules, stays_left _ _ _ _ c.put_back-old.ensures.left ∙ m.1, search rules)
