-- That a run was made by polls in an order.
use Rattle.std.specs.Prelude.{◌≡◌, ◌≢◌, ℕ, ◌≤◌, ◌⊎◌, List, [], ◌∷◌, ◌++◌, length, Some, slice_get, map}
use Rattle.channel_model.specs.declared.acts.Entry.{Entry}
use Rattle.channel_model.specs.Floors.{Floor as ChannelFloor}
use Rattle.job_model.specs.declared.acts.JobEntry.{JobEntry}
use Rattle.job_model.specs.Floors.{Floor}
use Rattle.note_book.specs.declared.book.Item.{Item}
use Rattle.script_grammar.specs.Programs.{Program}
use Rattle.script_grammar.specs.Tags.{coroutine_count}
use Rattle.script_meaning.specs.declared.turn.Turn.{Turn}
use Rattle.script_meaning.specs.Configs.{fresh}
use Rattle.script_meaning.specs.Polls.{Frame, Begun, Polled, TurnAnswer}
use Rattle.engine_one.specs.Starting.{HasNoCalls, HasNoJobs}

-- a whole run between two polls: what was seen of its floors, and its coroutines in order of their tags
pub record GlobalState : Type 0 where
  pub channels : ChannelFloor
  pub jobs : Floor
  pub frames : List Frame

-- one whole poll of the coroutine k, and of no other, led from a to b
pub record IsPoll (p : Program) (k : ℕ) (a b : GlobalState) : Type 0 where
  pub old : Frame
  pub new : Frame
  pub answer : Turn
  pub was : slice_get a.frames k ≡ Some old
  pub becomes : slice_get b.frames k ≡ Some new
  pub polled : Polled p a.channels b.channels a.jobs b.jobs old new
  pub turn : TurnAnswer p a.channels b.channels a.jobs b.jobs old new polled.told answer
  pub others : (j : ℕ) → j ≢ k → slice_get b.frames j ≡ slice_get a.frames j

-- a poll; with a tag past the last coroutine nothing happens
abbrev pub IsTurn : Program → ℕ → GlobalState → GlobalState → Type 0
IsTurn p k a b = IsPoll p k a b ⊎ ((coroutine_count p ≤ k) × (b ≡ a))

-- turns of these tags, in this order, led from a to b
pub data InOrder (p : Program) : List ℕ → GlobalState → GlobalState → Type 0 where
  no_turn : (a : GlobalState) → InOrder p [] a a
  one_more : (order : List ℕ) (k : ℕ) (a b c : GlobalState) → InOrder p order a b → IsTurn p k b c → InOrder p (order ++ k ∷ []) a c

-- some turns led from a to b
abbrev pub AreTurns : Program → GlobalState → GlobalState → Type 0
AreTurns p a b = (order : List ℕ) × InOrder p order a b

-- a coroutine that was not polled
abbrev pub unpolled : ℕ → Frame
unpolled k = record { tag = k; config = fresh k; book = [] }

-- the root has attached what the script spawns, and no coroutine was polled
pub record IsBeginning (p : Program) (a : GlobalState) : Type 0 where
  pub count : length a.frames ≡ coroutine_count p
  pub channels : HasNoCalls p a.channels
  pub jobs : Floor
  pub no_jobs : HasNoJobs p jobs
  pub root : Frame
  pub root_is : slice_get a.frames 0 ≡ Some root
  pub begun : Begun p jobs a.jobs (unpolled 0) root
  pub others : (k : ℕ) (f : Frame) → k ≢ 0 → slice_get a.frames k ≡ Some f → f ≡ unpolled k

-- a run with these books and histories began with turns of these tags, in this order; what came then were turns too
pub record MadeInOrder (p : Program) (order : List ℕ) (books : List (List Item)) (channels : List Entry) (jobs : List JobEntry)
    : Type 0 where
  pub begun : GlobalState
  pub polled : GlobalState
  pub left : GlobalState
  pub is_beginning : IsBeginning p begun
  pub in_order : InOrder p order begun polled
  pub then_turns : AreTurns p polled left
  pub books_are : books ≡ map (λ f. f.book) left.frames
  pub channels_are : channels ≡ left.channels.seen
  pub jobs_are : jobs ≡ left.jobs.seen
