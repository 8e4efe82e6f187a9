use Rattle.std.proofs.Common.{◌≡◌}
use Rattle.run_report.specs.Counted.{rows_counted}
use Rattle.run_report.specs.Summaries.{HasJobsUpTo}
use Rattle.run_report.proofs.counts.count_jobs.Given as goal

abbrev pub invariant-loop-row : goal.invariant-loop-row
invariant-loop-row l = record {
  counted : l.counts ≡ rows_counted l.table l.row;
  fit : HasJobsUpTo l.row l.counts;
}
