-- Who waits for the end of a Job.
use Rattle.future_bridge.specs.declared.jobs.JobFuture.{JobFuture}
use Rattle.future_bridge.specs.Jobs.{FutureStands, GivesNoMore}

-- the Job has not ended: its future may be polled again, and gives then what it might give before
pub record GoesOn (old new : JobFuture) : Type 0 where
  pub stands : FutureStands new
  pub same : GivesNoMore old new
