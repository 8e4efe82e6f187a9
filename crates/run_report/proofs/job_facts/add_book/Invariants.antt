use Rattle.std.proofs.Common.{◌≡◌, ℕ, ◌<◌, drop, length}
use Rattle.note_book.specs.Items.{job_acts_in}
use Rattle.run_report.specs.JobFacts.{both_said, facts_at, job_facts_of}
use Rattle.run_report.proofs.job_facts.add_book.Given as goal

abbrev pub invariant-loop-item : goal.invariant-loop-item
invariant-loop-item l = (r : ℕ) → r < length l.fn.table
    → both_said (facts_at l.table r) (job_facts_of r (job_acts_in (drop l.item-index l.notes))) ≡
    both_said (facts_at l.fn.table r) (job_facts_of r (job_acts_in l.notes))
