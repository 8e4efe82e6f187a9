-- What a caller notes of its acts on Jobs.
use Rattle.std.specs.Prelude.{◌≡◌, List, [], ◌++◌, map}
use Rattle.job_model.specs.declared.acts.JobAct.{JobAct}
use Rattle.job_model.specs.declared.acts.JobNote.TheVariants as note
use Rattle.job_model.specs.Floors.{Looked, Added}
use Rattle.note_book.specs.declared.book.Item.{Item}
use Rattle.note_book.specs.declared.book.Item.TheVariants as item
use Rattle.call_meaning.specs.Seen.{SeenOnJobs}

-- the note of an act
abbrev pub made_note : JobAct → Item
made_note act = item.Job (note.Made act)

-- the caller added these acts to the history, claimed no row, and noted each act
pub record Noted (acts : List JobAct) (old new : SeenOnJobs) : Type 0 where
  pub who : new.who ≡ old.who
  pub appended : new.items ≡ old.items ++ map made_note acts
  pub added : Added old.who acts [] old.floor new.floor

-- the caller made no entry, claimed no row, and noted nothing
pub record OnlyLooked (old new : SeenOnJobs) : Type 0 where
  pub who : new.who ≡ old.who
  pub items : new.items ≡ old.items
  pub looked : Looked old.who [] old.floor new.floor
