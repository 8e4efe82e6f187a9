use Rattle.run_laws.proofs.Hearing.{looked_end}
use Rattle.engine_base.proofs.endings.end_of_root.Goals as goal

pub returns-clause-end : goal.returns-clause-end
returns-clause-end g c = looked_end 0 0 _ _ _ _ c.end_of.ensures c.look.ensures.answer
