use Rattle.std.proofs.Common.{length, map, ap, ◌∙◌}
use Rattle.note_book.specs.Books.{notes_of}
use Rattle.script_reader.specs.Programs.{declared_of}
use Rattle.run_report.specs.Jobs.{job_acts_noted}
use Rattle.run_report.specs.JobFacts.{facts_at}
use Rattle.run_report.specs.Summaries.{no_elements, summary_line, with_channels}
use Rattle.run_report.proofs.CountedOn.{rows_counted-said}
use Rattle.run_report.proofs.totals.summary_of.Goals as goal

pub returns : goal.returns
returns c =
    let acts = job_acts_noted (map notes_of c.args.books.now) in
    let table = c.as_slice.ensures.value in
    let jobs = c.count_jobs.ensures ∙ rows_counted-said c.args.jobs c.as_slice.result.now acts (ap length table
    ∙ c.in_ok-table.ensures.rows) (λ r h. ap (λ t. facts_at t r) table ∙ c.in_ok-table.ensures.facts r h) in
    let elements = c.count_elements.ensures
    ∙ ap (λ known. with_channels known 0 no_elements (map declared_of c.args.channels.now)) (c.in_ok-known.ensures.elements) in
    let root = c.root_end.ensures ∙ ap (λ t. (facts_at t 0).end) c.as_slice-2.ensures.value
    ∙ ap (λ f. f.end) (c.in_ok-table.ensures.facts 0 c.requires.root) in
    c.in_ok-text.ensures ∙ (λ i. summary_line c.args.version (jobs i) (elements i) (root i))
