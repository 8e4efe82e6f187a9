use Rattle.std.proofs.Common.{◌≡◌, drop}
use Rattle.tally_laws.specs.JobTallies.{both_added, jobs_tallied}
use Rattle.tally_book.specs.Totals.{AreJobsOf, job_counts_in}
use Rattle.tally_book.proofs.totals.job_totals.Given as goal

abbrev pub invariant-loop-at : goal.invariant-loop-at
invariant-loop-at l = record {
  sum : both_added (job_counts_in l.totals) (jobs_tallied (drop l.at l.tallies)) ≡ jobs_tallied l.tallies;
  fit : AreJobsOf l.at l.totals;
}
