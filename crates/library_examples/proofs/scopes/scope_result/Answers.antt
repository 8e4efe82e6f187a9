use Rattle.scope_builders.proofs.Bodies.{own_attached}
use Rattle.library_examples.proofs.AfterLaunches.{attached_later}
use Rattle.library_examples.proofs.scopes.scope_result.Goals as goal

pub result_of-requires-clause-row : goal.result_of-requires-clause-row
result_of-requires-clause-row g c =
    attached_later c.in-Ok.scope.row (g.J.JobFloor.view c.enter.new.self.jobs.now) (g.J.JobFloor.view c.end_job.new.self.jobs.now)
    (g.met.J.JobFloor.legal c.end_job.new.self.jobs.now) c.in-Ok-end_job.ensures.answer.noted.jobs.longer
    (own_attached _ _ c.in-Ok.ensures.answer.own)
