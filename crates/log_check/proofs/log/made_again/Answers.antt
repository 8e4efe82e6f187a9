use Rattle.std.proofs.Common.{map}
use Rattle.note_book.specs.Books.{notes_of}
use Rattle.script_reader.specs.Scripts.{program_of}
use Rattle.run_claims.proofs.RunsAtRest.{ran}
use Rattle.log_check.proofs.Judging.{books_same}
use Rattle.log_check.proofs.log.made_again.Goals as goal

pub returns-then-same : goal.returns-then-same
returns-then-same g c =
    let run = c.in_ok-run in
    record {
      of_script = c.requires.of_script;
      allowed = c.requires.allowed;
      run = ran (program_of c.args.script.now) (map notes_of run.run'.done.books.items) _ _ _ run.ensures.run;
      books_are = books_same run.run'.done.books.items c.in_ok-books.books.items c.as_slice.result.now c.as_slice-2.result.now
          c.coroutines.result _ c.args.lines.now (c.same_books-same.ensures c.if-same.true) c.as_slice.ensures.value
          c.as_slice-2.ensures.value c.in_ok-books.ensures c.coroutines.ensures;
      order = c.args.order.now;
      made = run.ensures.made;
    }
