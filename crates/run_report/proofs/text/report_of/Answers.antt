use Rattle.std.proofs.Common.{◌++◌, append_assoc, map, ap, sym, ◌∙◌}
use Rattle.note_book.specs.Books.{notes_of}
use Rattle.script_reader.specs.Programs.{declared_of}
use Rattle.run_report.specs.Elements.{channel_acts_noted, element_of, elements_text}
use Rattle.run_report.specs.Jobs.{job_acts_noted, jobs_text}
use Rattle.run_report.specs.Texts.{books_text}
use Rattle.run_report.proofs.Gathering.{adds}
use Rattle.run_report.proofs.text.report_of.Goals as goal

pub returns : goal.returns
returns c =
    let first = books_text (map declared_of c.args.channels.now) 0 (map notes_of c.args.books.now) in
    let acts = channel_acts_noted (map notes_of c.args.books.now) in
    let jobs = jobs_text c.args.jobs (job_acts_noted (map notes_of c.args.books.now)) in
    let elements = elements_text (element_of acts) 0 (map declared_of c.args.channels.now) in
    let all = adds _ _ _ _ _ c.add_books.ensures c.add.ensures in
    let held = c.in_ok-report.ensures in
    held.1 ∙ all.behind held.0
    ∙ ap (λ l. l ++ (first ++ c.as_str.result.now)) c.in_ok-text.ensures
    ∙ ap (λ l. first ++ l) (c.as_str.ensures.value ∙ c.in_ok-ends.ensures)
    ∙ sym (append_assoc first jobs elements)
