-- What a poll does, and what its answer says.
use Rattle.std.specs.Prelude.{◌≡◌, ◌≢◌, ℕ, ◌==◌, ◌<◌, ◌≤◌, ◌⊎◌, Bool, true, false, List, [], ◌∷◌, ◌++◌, Some, None, is_some, if◌then◌else◌}
use Rattle.std.specs.List.{list_any}
use Rattle.co_base.specs.declared.names.WaitId.{WaitId}
use Rattle.co_base.specs.Orders.{Side}
use Rattle.channel_model.specs.declared.floor.WaitState.TheVariants.{Standing}
use Rattle.channel_model.specs.Histories.{acts_of}
use Rattle.channel_model.specs.Floors.{Floor as ChannelFloor, Added as AddedToChannels, AtStep as AtChannelStep}
use Rattle.channel_model.specs.Answers.{state_of_wait}
use Rattle.job_model.specs.declared.acts.JobNote.TheVariants as known
use Rattle.job_model.specs.Trees.{is_among}
use Rattle.job_model.specs.Histories.{acts_of as job_acts_of}
use Rattle.job_model.specs.Floors.{Floor, Added, AtStep, is_claimed_by}
use Rattle.note_book.specs.declared.book.Item.{Item}
use Rattle.note_book.specs.declared.book.Item.TheVariants as item
use Rattle.note_book.specs.Items.{channel_acts_in, job_acts_in}
use Rattle.call_meaning.specs.Telling.{Told, items_in}
use Rattle.call_meaning.specs.Facts.{IsRunning, end_at}
use Rattle.call_meaning.specs.Stories.{Moment, IsTrue}
use Rattle.call_meaning.specs.Orders.{IsAt, WasSoAlong}
use Rattle.call_meaning.specs.Calls.{seen_by, rows_in}
use Rattle.script_grammar.specs.declared.instructions.Instruction.TheVariants as line
use Rattle.script_grammar.specs.Programs.{Program}
use Rattle.script_grammar.specs.Tags.{coroutine_count}
use Rattle.script_meaning.specs.declared.stage.Stage.{Stage}
use Rattle.script_meaning.specs.declared.stage.Stage.TheVariants.{Fresh, Running, Waiting, SeesJob, Leaving, SeesScope, Ended}
use Rattle.script_meaning.specs.declared.turn.Turn.{Turn}
use Rattle.script_meaning.specs.declared.turn.Turn.TheVariants as turn
use Rattle.script_meaning.specs.Shapes.{floor_shape, job_shape}
use Rattle.script_meaning.specs.Configs.{Config, innermost, scope_in, InScope, LineIs, Names}
use Rattle.script_meaning.specs.Moves.{Move}
use Rattle.script_meaning.specs.Books.{story, Begins, Runs}
use Rattle.script_meaning.specs.Idle.{IsNotStarted}

-- a frame as contracts see it: its tag, where it is, and its book
pub record Frame : Type 0 where
  pub tag : ℕ
  pub config : Config
  pub book : List Item

-- how far the floor of Jobs is seen, if no channel is called
abbrev pub jobs_by : Floor → Moment
jobs_by j = record { channels = []; jobs = j.seen }

-- ---- one turn

-- an end is still to be seen
abbrev pub is_seeing : Stage → Bool
is_seeing SeesJob = true
is_seeing SeesScope = true
is_seeing other = false

-- at most one line is run
pub data MovesOnce (p : Program) (k : ℕ) : Config → List Told → Config → Type 0 where
  -- one move is made
  once : (x y : Config) (group : List Told) → Move p k x group y → MovesOnce p k x group y
  -- before it that of a fresh coroutine which may run
  first : (x y z : Config) (group more all : List Told) → x.stage ≡ Fresh
      → Move p k x group y → y.stage ≡ Running → MovesOnce p k y more z
      → all ≡ group ++ more
      → MovesOnce p k x all z
  -- after it that which sees an end
  then_sees : (x y z : Config) (group more all : List Told)
      → Move p k x group y → is_seeing y.stage ≡ true → Move p k y more z
      → all ≡ group ++ more
      → MovesOnce p k x all z

-- nothing was done, or a turn was made
pub data Turned (p : Program) (k : ℕ) : Config → List Told → Config → Type 0 where
  still : (x : Config) → Turned p k x [] x
  moved : (x y : Config) (group : List Told) → MovesOnce p k x group y → Turned p k x group y

-- ---- claims

abbrev pub is_no_row : Item → Bool
is_no_row (item.Job known.NoRow) = true
is_no_row other = false

abbrev pub is_used : Item → Bool
is_used (item.Job known.Used) = true
is_used other = false

abbrev pub is_parent_ended : Item → Bool
is_parent_ended (item.Job known.ParentEnded) = true
is_parent_ended other = false

-- a refusal states what is claimed: all rows of scopes, or the row of the next tag; and no parent had ended, since the
-- parent is the coroutine's own innermost Job, whose body goes on
pub record RefusedByClaims (x : Config) (notes : List Item) (jobs : Floor) : Type 0 where
  pub no_row : list_any is_no_row notes ≡ true
      → (r : ℕ) → jobs.shape.coroutines ≤ r → r < jobs.shape.rows → is_some (jobs.claims r) ≡ true
  pub used : list_any is_used notes ≡ true → is_some (jobs.claims x.free) ≡ true
  pub none_ended : list_any is_parent_ended notes ≡ false

-- ---- what a poll begins with

-- the rows of a coroutine's Attach acts, and for the root also row 0
abbrev pub own_rows : ℕ → List Item → List ℕ
own_rows k book = (if k == 0 then 0 ∷ [] else []) ++ rows_in (job_acts_in book)

-- the frame of this coroutine, as it stands on the floors; an Ok of a poll keeps it
pub record StandsOn (p : Program) (c : ChannelFloor) (j : Floor) (f : Frame) : Type 0 where
  -- the floors are those of the script, and the tag is one of the script's that may call
  pub channels : c.shape ≡ floor_shape p
  pub jobs : j.shape ≡ job_shape p
  pub of_channels : c.callers f.tag ≡ true
  pub of_jobs : j.callers f.tag ≡ true
  pub in_run : f.tag < coroutine_count p
  -- its book is what it did, and one that it may write
  pub channel_acts : acts_of f.tag c.seen ≡ channel_acts_in f.book
  pub job_acts : job_acts_of f.tag j.seen ≡ job_acts_in f.book
  pub runs : Runs p f.tag (seen_by c j) f.book f.config
  -- the rows that it has claimed are those that it attached
  pub claims : (r : ℕ) → is_claimed_by f.tag (j.claims r) ≡ is_among r (own_rows f.tag f.book)

-- the root's frame after `begin`: what the script spawns is attached, or the first refusal is noted
pub record Begun (p : Program) (j j' : Floor) (f g : Frame) : Type 0 where
  pub tag : g.tag ≡ f.tag
  pub told : List Told
  pub begins : Begins p f.tag told g.config
  pub written : g.book ≡ items_in told
  pub is_true : IsTrue (story p f.tag (jobs_by j')) [] (jobs_by j) told
  pub jobs : Added f.tag (job_acts_in (items_in told)) (rows_in (job_acts_in (items_in told))) j j'
  pub refused : RefusedByClaims g.config (items_in told) j'

-- ---- what a poll did

-- what a poll appended to the book is what it told, by at most one line: the acts are the entries that its coroutine
-- added, and all of it was so at moments of this poll
pub record Polled (p : Program) (c c' : ChannelFloor) (j j' : Floor) (f g : Frame) : Type 0 where
  pub tag : g.tag ≡ f.tag
  pub told : List Told
  pub turned : Turned p f.tag f.config told g.config
  pub appended : g.book ≡ f.book ++ items_in told
  pub is_true : IsTrue (story p f.tag (seen_by c' j')) f.book (seen_by c j) told
  pub channels : AddedToChannels f.tag (channel_acts_in (items_in told)) c c'
  pub jobs : Added f.tag (job_acts_in (items_in told)) (rows_in (job_acts_in (items_in told))) j j'
  pub refused : RefusedByClaims f.config (items_in told) j'
  -- and so at points of the order of both histories, if there is one
  pub along : j.joint ≡ true → (point : List Side) → IsAt f.tag c j f.book point
      → WasSoAlong (floor_shape p) f.tag f.book c' j' told point

-- ---- its answer

-- the wait stood at a moment of the poll
abbrev pub HasStood : ChannelFloor → ChannelFloor → WaitId → Type 0
HasStood c c' w = AtChannelStep c c' (λ s. state_of_wait (s.waits w) ≡ Some Standing)

-- why a coroutine that is left at x waits
pub data WaitsFor (c c' : ChannelFloor) (j j' : Floor) (k : ℕ) (x : Config) : Type 0 where
  -- its wait stood, and its innermost Job might run
  waits : (w : WaitId) → x.stage ≡ Waiting w
      → HasStood c c' w → AtStep j j' (λ tree. IsRunning (tree (innermost k x)))
      → WaitsFor c c' j j' k x
  -- its wait at a scope's end stood
  leaves : (w : WaitId) → x.stage ≡ Leaving w
      → HasStood c c' w
      → WaitsFor c c' j j' k x
  -- it is fresh, and its Job was not attached or New
  not_started : x.stage ≡ Fresh
      → AtStep j j' (λ tree. IsNotStarted (tree k))
      → WaitsFor c c' j j' k x

-- the Job whose end it has to see: that which its await names, or its innermost scope
pub data HasToSee (p : Program) (k : ℕ) (x : Config) : ℕ → Type 0 where
  job : (job row : ℕ) → x.stage ≡ SeesJob → LineIs p k x (line.Await job) → Names x job row → HasToSee p k x row
  scope : (s : InScope) → x.stage ≡ SeesScope → scope_in x.entered ≡ Some s → HasToSee p k x s.row

-- that Job had not ended at a moment of the poll
pub record AsksAgain (p : Program) (j j' : Floor) (k : ℕ) (x : Config) : Type 0 where
  pub row : ℕ
  pub has_to_see : HasToSee p k x row
  pub not_ended : AtStep j j' (λ tree. end_at (tree row) ≡ None)

-- the answer of a poll of f that told this and left g
abbrev pub TurnAnswer : Program → ChannelFloor → ChannelFloor → Floor → Floor → Frame → Frame → List Told → Turn
    → Type 0
TurnAnswer p c c' j j' f g told turn.Ended = g.config.stage ≡ Ended
TurnAnswer p c c' j j' f g told turn.Waits = WaitsFor c c' j j' g.tag g.config
TurnAnswer p c c' j j' f g told turn.Ready =
    (g.config.stage ≢ Ended) × (MovesOnce p f.tag f.config told g.config ⊎ AsksAgain p j j' f.tag g.config)
