use Rattle.std.proofs.Common.{map, ◌∙◌}
use Rattle.note_book.specs.Books.{notes_of}
use Rattle.script_reader.specs.Scripts.{program_of}
use Rattle.run_claims.proofs.RunsAtRest.{ran}
use Rattle.log_check.proofs.report.reported_again.Goals as goal

pub returns-then-same : goal.returns-then-same
returns-then-same g c =
    let run = c.in_ok-run in
    record {
      run = ran (program_of c.args.script.now) (map notes_of run.run'.done.books.items) _ _ _ run.ensures.run;
      is_report = c.is_same-same.ensures c.if-same.true ∙ c.as_slice.ensures.value ∙ c.in_ok-told.ensures;
      order = c.args.order.now;
      made = run.ensures.made;
    }
