use Rattle.std.proofs.Common.{List, ◌∷◌, ◌+◌, map, ap, sym, ◌∙◌, drop, arith}
use Rattle.std.proofs.lemmas.List.{at_drop_more}
use Rattle.note_book.specs.declared.notes.Notes.{Notes}
use Rattle.note_book.specs.Books.{notes_of}
use Rattle.note_book.specs.Items.{job_acts_in}
use Rattle.run_report.specs.Jobs.{job_acts_noted}
use Rattle.run_report.specs.JobFacts.{both_said, facts_at, job_facts_of}
use Rattle.run_report.proofs.Said.{said_more}
use Rattle.run_report.proofs.job_facts.add_books.Goals as goal

pub loop-book-preserved : goal.loop-book-preserved
loop-book-preserved c = λ r h.
    let books = c.args.books.now in
    let k = c.loop-book.book-index in
    let book = c.book-item.result in
    let before = facts_at c.loop-book.table r in
    let said_in = λ (l : List Notes). job_facts_of r (job_acts_noted (map notes_of l)) in
    said_more before (facts_at c.add_book.new.table r) (both_said (facts_at c.args.table.now r) (said_in books)) r
    (job_acts_in (notes_of book)) (job_acts_noted (map notes_of (drop (k + 1) books)))
    (c.add_book.ensures r (omega (arith, h)) ∙ ap (λ l. both_said before (job_facts_of r (job_acts_in l))) c.items.ensures)
    (ap (λ b. both_said before (said_in (b ∷ drop (k + 1) books))) c.book-item.is
    ∙ ap (both_said before) (sym (at_drop_more said_in books k book (omega arith)))
    ∙ c.loop-book.invariant r h)
