use Rattle.std.proofs.Common.{◌≡◌}
use Rattle.job_replay.specs.Tests.{any_failed}
use Rattle.job_replay.proofs.tests.any_failed.Given as goal

abbrev pub invariant-loop-left : goal.invariant-loop-left
invariant-loop-left l = any_failed l.left l.rows.items l.row ≡ any_failed l.count l.rows.items l.row

abbrev pub decreases-loop-left : goal.decreases-loop-left
decreases-loop-left l = l.left
