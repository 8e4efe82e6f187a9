use Rattle.run_report.specs.Gatherings.{Adds}
use Rattle.run_report.specs.JobFacts.{lines_by}
use Rattle.run_report.proofs.job_lines.add_jobs.Given as goal

abbrev pub invariant-loop-row : goal.invariant-loop-row
invariant-loop-row l = Adds l.fn.text l.text (lines_by l.row l.table)
