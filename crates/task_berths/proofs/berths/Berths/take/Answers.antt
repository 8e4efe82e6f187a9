use Rattle.std.proofs.Common.{rules, ◌∙◌}
use Rattle.task_berths.proofs.SeatsStayMain.{stays_taken}
use Rattle.task_berths.proofs.berths.Berths.take.Goals as goal

pub returns-clause-main : goal.returns-clause-main
returns-clause-main g c m = (search rules, stays_taken g.T.Tagged.tag_of _ _ _ _ c.take_at.ensures.taken ∙ m.1, search rules)
