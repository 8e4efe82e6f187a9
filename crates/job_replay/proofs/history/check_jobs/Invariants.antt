use Rattle.std.proofs.Common.{◌+◌, length}
use Rattle.job_replay.proofs.Walks.{Walked}
use Rattle.job_replay.proofs.history.check_jobs.Given as goal

abbrev pub invariant-loop-rest : goal.invariant-loop-rest
invariant-loop-rest l = Walked (record { coroutines = l.coroutines; rows = l.coroutines + l.scopes }) l.entries l.number l.rest l.tree

abbrev pub decreases-loop-rest : goal.decreases-loop-rest
decreases-loop-rest l = length l.rest
