-- What the book of a coroutine may be, and that the books of a run are the parts of one history of channels and one of
-- Jobs.
use Rattle.std.specs.Prelude.{◌≡◌, ◌≢◌, ℕ, ◌<◌, nat_le, Bool, true, false, List, [], ◌∷◌, ◌++◌, length, Some, None, slice_index_or}
use Rattle.std.specs.List.{list_any}
use Rattle.channel_model.specs.declared.acts.Entry.{Entry}
use Rattle.channel_model.specs.declared.acts.ChannelNote.{ChannelNote}
use Rattle.channel_model.specs.declared.acts.ChannelNote.TheVariants as heard
use Rattle.channel_model.specs.Histories.{acts_of, Legal}
use Rattle.job_model.specs.declared.acts.JobAct.TheVariants.{Attach}
use Rattle.job_model.specs.declared.acts.JobNote.{JobNote}
use Rattle.job_model.specs.declared.acts.JobNote.TheVariants as known
use Rattle.job_model.specs.declared.acts.JobEntry.{JobEntry}
use Rattle.job_model.specs.Histories.{acts_of as job_acts_of, Legal as LegalJobs}
use Rattle.note_book.specs.declared.book.Item.{Item}
use Rattle.note_book.specs.declared.book.Item.TheVariants as item
use Rattle.note_book.specs.Items.{channel_acts_in, job_acts_in}
use Rattle.call_meaning.specs.Telling.{Told, items_in, did}
use Rattle.call_meaning.specs.JobCalls.{child_kind, NotAttached}
use Rattle.call_meaning.specs.Stories.{Moment, beginning, Story, IsTrue, story_of}
use Rattle.script_grammar.specs.Programs.{Program}
use Rattle.script_grammar.specs.Tags.{coroutine_count, spawned}
use Rattle.script_meaning.specs.declared.stage.Stage.TheVariants.{Unwinding}
use Rattle.script_meaning.specs.Shapes.{base_of, floor_shape, job_shape}
use Rattle.script_meaning.specs.Configs.{Config, fresh, at_stage, past_launch}
use Rattle.script_meaning.specs.Moves.{Move}
use Rattle.call_meaning.specs.Endings.{ClosesAtOnce}

-- ---- one book

-- the root attaches the Jobs of these spawned blocks, in the order of their tags, up to one that is refused
pub data Spawns (p : Program) : List ℕ → Config → List Told → Config → Type 0 where
  -- none is left
  done : (x : Config) → Spawns p [] x [] x
  -- the next tag is attached to the root
  attaches : (block : ℕ) (blocks : List ℕ) (x y : Config) (now : Bool) (more : List Told)
      → Spawns p blocks (past_launch p block None x) more y
      → Spawns p (block ∷ blocks) x (did (Attach 0 x.free (child_kind false) x.free now) ∷ more) y
  -- that is refused
  refused : (block : ℕ) (blocks : List ℕ) (x : Config) (group : List Told) → NotAttached 0 false group
      → Spawns p (block ∷ blocks) x group (at_stage (Unwinding (Some 0)) x)

-- how a coroutine begins
pub data Begins (p : Program) : ℕ → List Told → Config → Type 0 where
  root : (group : List Told) (x : Config) → Spawns p (spawned p) (fresh 0) group x → Begins p 0 group x
  child : (k : ℕ) → k ≢ 0 → Begins p k [] (fresh k)

-- what is told is that of moves, one after the other, that lead from the beginning to this configuration
pub data Reaches (p : Program) (k : ℕ) : List Told → Config → Type 0 where
  begins : (group : List Told) (x : Config) → Begins p k group x → Reaches p k group x
  goes_on : (before group all : List Told) (x y : Config) → Reaches p k before x → Move p k x group y
      → all ≡ before ++ group
      → Reaches p k all y

-- the story of a coroutine of the script, in histories that are so far
abbrev pub story : Program → ℕ → Moment → Story
story p k now = story_of (floor_shape p) k now

-- the book is what this coroutine noted of what it told, which was so; it is now at x
pub record Runs (p : Program) (k : ℕ) (now : Moment) (book : List Item) (x : Config) : Type 0 where
  pub told : List Told
  pub written : items_in told ≡ book
  pub reaches : Reaches p k told x
  pub is_true : IsTrue (story p k now) [] beginning told

-- ---- the books of a run

-- the book of a tag
abbrev pub book_at : ℕ → List (List Item) → List Item
book_at k books = slice_index_or books k []

-- no place was left on a done channel; base is the first of them
abbrev pub is_channel_refusal : ℕ → ChannelNote → Bool
is_channel_refusal base (heard.Spent c) = nat_le base c
is_channel_refusal base other = false

-- no Job was attached
abbrev pub is_job_refusal : JobNote → Bool
is_job_refusal known.NoRow = true
is_job_refusal known.Used = true
is_job_refusal known.ParentEnded = true
is_job_refusal other = false

-- a refusal that no run of a script meets
abbrev pub is_refusal : ℕ → Item → Bool
is_refusal base (item.Channel n) = is_channel_refusal base n
is_refusal base (item.Job n) = is_job_refusal n

-- these are the books of a run of the script with these two histories
pub record BooksOf (p : Program) (books : List (List Item)) (channels : List Entry) (jobs : List JobEntry)
    : Type 0 where
  pub count : length books ≡ coroutine_count p
  pub legal_channels : Legal (floor_shape p) channels
  pub legal_jobs : LegalJobs (job_shape p) jobs
  -- each book has exactly its coroutine's entries, in their order; past the last book nobody made one
  pub channel_parts : (k : ℕ) → acts_of k channels ≡ channel_acts_in (book_at k books)
  pub job_parts : (k : ℕ) → job_acts_of k jobs ≡ job_acts_in (book_at k books)
  -- each book is one that its coroutine may write, and this is where the coroutine is
  pub ends_at : ℕ → Config
  pub runs : (k : ℕ) → k < coroutine_count p
      → Runs p k (record { channels = channels; jobs = jobs }) (book_at k books) (ends_at k)
  -- right after each Finish comes the Close of its done channel; where a script spells the program, this follows from the fields
  -- above: the law `a_done_channel_is_closed_at_once` of `run_laws`
  pub closes : (k : ℕ) → ClosesAtOnce (base_of p) (book_at k books)
  pub no_refusal : (k : ℕ) → list_any (is_refusal (base_of p)) (book_at k books) ≡ false
