-- The counts of Jobs, from what is said of each row.
use Rattle.std.specs.Prelude.{ℕ, List, if◌then◌else◌}
use Rattle.std.specs.List.{fold, range_with_len}
use Rattle.run_report.specs.declared.counts.JobCounts.{JobCounts}
use Rattle.run_report.specs.declared.job_facts.JobFacts.{JobFacts}
use Rattle.run_report.specs.JobFacts.{facts_at, is_attached_by}
use Rattle.run_report.specs.Summaries.{no_jobs, with_job}

-- with the Job of a row, if it is attached
abbrev pub with_row_by : JobCounts → ℕ → JobFacts → JobCounts
with_row_by n r facts = if is_attached_by r facts then with_job n facts.end else n

-- the Jobs of the first n rows of a table
abbrev pub rows_counted : List JobFacts → ℕ → JobCounts
rows_counted table n = fold (λ m r. with_row_by m r (facts_at table r)) no_jobs (range_with_len 0 n)
