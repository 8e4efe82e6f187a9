use Rattle.std.proofs.Common.{◌++◌, length, map, ap, ◌∙◌}
use Rattle.note_book.specs.Books.{notes_of}
use Rattle.run_report.specs.JobFacts.{facts_at, lines_by}
use Rattle.run_report.specs.Jobs.{job_acts_noted}
use Rattle.run_report.proofs.Gathering.{adds}
use Rattle.run_report.proofs.Lines.{lines_by-table}
use Rattle.run_report.proofs.text.ends.Goals as goal

pub returns : goal.returns
returns c =
    let books = map notes_of c.args.books.now in
    let table = c.as_slice.result.now in
    let jobs = lines_by-table c.args.jobs table (job_acts_noted books) (ap length c.as_slice.ensures.value ∙ c.in_ok-table.ensures.rows)
    (λ r h. ap (λ t. facts_at t r) c.as_slice.ensures.value ∙ c.in_ok-table.ensures.facts r h) in
    let elements = c.as_str.ensures.value ∙ c.in_ok-elements.ensures in
    let all = adds _ _ _ _ _ c.add_jobs.ensures c.add.ensures in
    let held = c.in_ok-lines.ensures in
    held.1 ∙ all.behind held.0
    ∙ ap (λ l. l ++ (lines_by (length table) table ++ c.as_str.result.now)) c.in_ok-text.ensures
    ∙ (λ i. jobs i ++ elements i)
