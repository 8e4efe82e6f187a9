use Rattle.std.proofs.Common.{sym, subst}
use Rattle.job_model.proofs.Short.{attached_within}
use Rattle.scope_builders.specs.Parts.{OwnAnswer}
use Rattle.scope_builders.proofs.Bodies.{own_attached}
use Rattle.scope_builders.proofs.Looking.{own_answer}
use Rattle.scope_builders.proofs.joins.may_run.Goals as goal

pub look-requires-clause-row : goal.look-requires-clause-row
look-requires-clause-row g c = attached_within _ _ _ (g.met.J.JobFloor.shaped c.args.jobs.now) (g.met.J.JobFloor.legal c.args.jobs.now)
    (own_attached _ _ c.requires.own)

pub returns-clause-seen : goal.returns-clause-seen
returns-clause-seen g c =
    subst (OwnAnswer c.args.who c.args.own (g.J.JobFloor.view c.args.jobs.now) (g.J.JobFloor.view c.look.new.self)) (sym c.goes_on.ensures)
    (own_answer _ _ _ _ _ (g.met.J.JobFloor.legal c.look.new.self) c.requires.own c.look.ensures.answer)
