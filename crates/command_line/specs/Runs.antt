-- What the run of a command leaves.
use Rattle.std.specs.Prelude.{List, map}
use Rattle.channel_model.specs.declared.acts.Entry.{Entry}
use Rattle.job_model.specs.declared.acts.JobEntry.{JobEntry}
use Rattle.note_book.specs.declared.book.Item.{Item}
use Rattle.script_grammar.specs.Programs.{Program}
use Rattle.poll_states.specs.declared.frame.Done.{Done}
use Rattle.run_laws.specs.Ends.{IsRunInOneOrder}

-- there are two histories whose entries have one order, and of which the books are those of a run of the script that came to rest; the
-- root has ended as is told
pub record LeftInOneOrder {B : Type 0} (items : B → List Item) (p : Program) (done : Done B) : Type 0 where
  pub channels : List Entry
  pub jobs : List JobEntry
  pub rests : IsRunInOneOrder p (map items done.books.items) channels jobs done.end
