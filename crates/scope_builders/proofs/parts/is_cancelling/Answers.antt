use Rattle.job_model.proofs.Short.{attached_within}
use Rattle.scope_builders.proofs.parts.is_cancelling.Goals as goal

pub look-requires-clause-row : goal.look-requires-clause-row
look-requires-clause-row g c = attached_within _ _ _ (g.met.J.JobFloor.shaped c.args.jobs.now) (g.met.J.JobFloor.legal c.args.jobs.now)
    c.requires.can.attached
