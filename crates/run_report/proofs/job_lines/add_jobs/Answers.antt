use Rattle.run_report.specs.JobFacts.{facts_at, job_line_by}
use Rattle.run_report.proofs.Gathering.{adds_nothing, one_row}
use Rattle.run_report.proofs.job_lines.add_jobs.Goals as goal

pub loop-row-init : goal.loop-row-init
loop-row-init c = adds_nothing c.args.text.now

pub loop-row-preserved : goal.loop-row-preserved
loop-row-preserved c =
    one_row (λ r. job_line_by r (facts_at c.args.table.now r)) c.args.text.now c.loop-row.text c.add_row.new.text c.loop-row.row
    c.loop-row.invariant c.add_row.ensures
