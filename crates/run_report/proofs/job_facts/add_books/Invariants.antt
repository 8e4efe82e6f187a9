use Rattle.std.proofs.Common.{◌≡◌, ℕ, ◌<◌, drop, length, map}
use Rattle.note_book.specs.Books.{notes_of}
use Rattle.run_report.specs.Jobs.{job_acts_noted}
use Rattle.run_report.specs.JobFacts.{both_said, facts_at, job_facts_of}
use Rattle.run_report.proofs.job_facts.add_books.Given as goal

abbrev pub invariant-loop-book : goal.invariant-loop-book
invariant-loop-book l = (r : ℕ) → r < length l.fn.table
    → both_said (facts_at l.table r) (job_facts_of r (job_acts_noted (map notes_of (drop l.book-index l.books)))) ≡
    both_said (facts_at l.fn.table r) (job_facts_of r (job_acts_noted (map notes_of l.books)))
