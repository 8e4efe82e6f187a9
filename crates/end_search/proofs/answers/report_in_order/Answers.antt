use Rattle.std.proofs.Common.{map}
use Rattle.note_book.specs.Books.{notes_of}
use Rattle.script_reader.specs.Scripts.{program_of}
use Rattle.run_claims.proofs.RunsAtRest.{ran}
use Rattle.end_search.proofs.answers.report_in_order.Goals as goal

pub returns-clause-tells : goal.returns-clause-tells
returns-clause-tells g c = record {
  run = ran (program_of c.args.script.now) (map notes_of c.in_ok-left.left.done.books.items) _ _ _ c.in_ok-left.ensures.run;
  is_report = c.in_ok-text.ensures;
}

pub returns-clause-made : goal.returns-clause-made
returns-clause-made g c = record {
  tells = record {
    run = ran (program_of c.args.script.now) (map notes_of c.in_ok-left.left.done.books.items) _ _ _ c.in_ok-left.ensures.run;
    is_report = c.in_ok-text.ensures;
  };
  made = c.in_ok-left.ensures.made;
}
