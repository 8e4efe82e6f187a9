-- What it is that a coroutine goes on.
use Rattle.std.specs.Prelude.{ℕ, List, ◌++◌}
use Rattle.channel_model.specs.Floors.{entries_by}
use Rattle.channel_model.specs.Histories.{Legal}
use Rattle.job_model.specs.Floors.{entries_by as job_entries_by}
use Rattle.job_model.specs.Histories.{Legal as LegalJobs}
use Rattle.note_book.specs.declared.book.Item.{Item}
use Rattle.note_book.specs.Items.{channel_acts_in, job_acts_in}
use Rattle.call_meaning.specs.Telling.{Told, items_in}
use Rattle.call_meaning.specs.Stories.{Moment, IsTrue}
use Rattle.script_grammar.specs.Programs.{Program}
use Rattle.script_meaning.specs.Shapes.{floor_shape, job_shape}
use Rattle.script_meaning.specs.Configs.{Config}
use Rattle.script_meaning.specs.Books.{story}
use Rattle.script_meaning.specs.Moves.{Move}

-- the moment at which k has made the acts of these items too, and nobody another one
abbrev pub with_acts : ℕ → List Item → Moment → Moment
with_acts k items now = record {
  channels = now.channels ++ entries_by k (channel_acts_in items);
  jobs = now.jobs ++ job_entries_by k (job_acts_in items);
}

-- k, which is at x and has this book, makes a move from now on by itself: all that is told of the move is so, as the histories are
-- or with what k has added of its acts, and each of these acts may come
pub record GoesOn (p : Program) (k : ℕ) (x : Config) (book : List Item) (now : Moment) : Type 0 where
  pub told : List Told
  pub to : Config
  pub moves : Move p k x told to
  pub is_true : IsTrue (story p k (with_acts k (items_in told) now)) book now told
  pub legal_channels : Legal (floor_shape p) (with_acts k (items_in told) now).channels
  pub legal_jobs : LegalJobs (job_shape p) (with_acts k (items_in told) now).jobs
