use Rattle.std.specs.Prelude.{suc}
use Rattle.std.proofs.Common.{◌≡◌, ◌-◌, ◌∙◌, arith}
use Rattle.job_replay.proofs.May.{any_less}
use Rattle.job_replay.proofs.tests.any_failed.Goals as goal

pub loop-left-preserved : goal.loop-left-preserved
loop-left-preserved c =
    let n = c.loop-left.left in
    let some = c.loop-left-test.true in
    let one : n ≡ suc (n - 1) = omega (arith, some) in
    any_less (n - 1) n c.args.rows.now.items c.args.row c.row_at.result one c.row_at.ensures c.if-ended_by_failure.ensures
    ∙ c.loop-left.invariant
