use Rattle.run_report.specs.Counted.{with_row_by}
use Rattle.run_report.specs.JobFacts.{facts_at}
use Rattle.run_report.specs.Summaries.{no_jobs}
use Rattle.run_report.proofs.CountedOn.{one_more}
use Rattle.run_report.proofs.counts.count_jobs.Goals as goal

pub loop-row-preserved : goal.loop-row-preserved
loop-row-preserved c = record {
  counted = one_more (λ n r. with_row_by n r (facts_at c.args.table.now r)) no_jobs c.loop-row.counts c.add_row.new.self
      c.loop-row.row c.loop-row.invariant.counted c.add_row.ensures.counts;
  fit = c.add_row.ensures.most;
}
