-- The done channels of Jobs, and how one is closed and received from.
use Rattle.std.specs.Prelude.{◌≡◌, ℕ, ◌+◌, ◌<◌, ◌≤◌, true, List, [], ◌∷◌, ◌++◌, length, Result, Ok, Err}
use Rattle.co_base.specs.declared.names.WaitId.{WaitId}
use Rattle.co_base.specs.declared.names.Memory.{Memory}
use Rattle.channel_model.specs.declared.acts.Act.TheVariants.{Await, Close}
use Rattle.channel_model.specs.declared.acts.ChannelNote.TheVariants.{AlreadyClosed, ReceiveClosed}
use Rattle.channel_model.specs.Channels.{places_at}
use Rattle.channel_model.specs.Histories.{replay as replay_channels}
use Rattle.channel_model.specs.Floors.{Floor as ChannelFloor}
use Rattle.channel_model.specs.Answers.{IsSeenClosed}
use Rattle.job_model.specs.declared.acts.End.{End}
use Rattle.job_model.specs.Done.{done_channel}
use Rattle.job_model.specs.Laws.{has_ended}
use Rattle.job_model.specs.Histories.{replay}
use Rattle.job_model.specs.Floors.{Floor}
use Rattle.note_book.specs.declared.book.Item.{Item}
use Rattle.call_meaning.specs.Orders.{HasHeard, IsToldOfJobs}
use Rattle.call_meaning.specs.Telling.{Told, items_in, made, heard}
use Rattle.call_meaning.specs.Facts.{IsClosedWith}
use Rattle.call_meaning.specs.ChannelCalls.{receives, wait_at, spent, Wakes, Closes}
use Rattle.call_meaning.specs.JobCalls.{value_of}
use Rattle.call_meaning.specs.Endings.{ClosesAtOnce}
use Rattle.call_meaning.specs.Seen.{SeenOnChannels, SeenOnBoth}
use Rattle.call_meaning.specs.Calls.{ToldOnChannels}
use Rattle.channel_calls.specs.Calls.{IsLeftWaiting}
use Rattle.scope_builders.specs.declared.builder.Joined.{Joined}
use Rattle.scope_builders.specs.declared.builder.Joined.TheVariants as joined

-- the tag may close the done channels of so many rows, each of one place; a channel's number is below 65,536
pub record MayClose (who base rows : ℕ) (channels : ChannelFloor) : Type 0 where
  pub caller : channels.callers who ≡ true
  pub done : base + rows ≤ length channels.shape
  pub one_place : (r : ℕ) → r < rows → places_at channels.shape (done_channel base r) ≡ 1
  pub few : length channels.shape ≤ 65536

-- ---- one close

-- this was told by a call on channels, whatever the book held before
abbrev pub IsTold : ℕ → ChannelFloor → ChannelFloor → List Told → Type 0
IsTold who old new told = (book : List Item)
    → ToldOnChannels (record { who = who; floor = old; items = book }) (record { who = who; floor = new; items = book ++ items_in told })
    told

-- the channel is closed with v, or had been closed
pub data ClosesFirst (c v : ℕ) : Told → Type 0 where
  now : ClosesFirst c v (made (Close c v))
  before : (u : ℕ) → ClosesFirst c v (heard (AlreadyClosed c u))

-- that was told and noted, and the channel is closed
pub record ClosedFirst (c v : ℕ) (old new : SeenOnChannels) : Type 0 where
  pub who : new.who ≡ old.who
  pub told : Told
  pub first : ClosesFirst c v told
  pub is_told : IsTold old.who old.floor new.floor (told ∷ [])
  pub noted : new.items ≡ old.items ++ items_in (told ∷ [])
  pub closed : IsSeenClosed c new.floor

-- a receiver of the closed channel was told, if one stood, and then none did
pub record WokenLast (c : ℕ) (old new : SeenOnChannels) (spare spare' : ℕ) : Type 0 where
  pub who : new.who ≡ old.who
  pub told : List Told
  pub wakes : Wakes c told
  pub is_told : IsTold old.who old.floor new.floor told
  pub noted : new.items ≡ old.items ++ items_in told
  pub few : length (items_in told) ≤ 1
  pub room : spare ≡ spare' + length (items_in told)

-- the done channel of a row was closed, or had been, where the channels were told of the Jobs before and the Jobs heard of the channels
-- then; past the last row nothing is done
pub data EndsDone (who base rows row : ℕ) (end : End) (old : ChannelFloor) (jobs : Floor) (new : ChannelFloor) (after : Floor)
    : List Item → Type 0 where
  closes : (told : List Told) (items : List Item) (between : ChannelFloor) → row < rows
      → Closes (done_channel base row) (value_of end) told → items ≡ items_in told
      → IsToldOfJobs who old between jobs → IsTold who between new told → IsSeenClosed (done_channel base row) new
      → (jobs.joint ≡ true → HasHeard new after) → EndsDone who base rows row end old jobs new after items
  outside : rows ≤ row → new ≡ old → after ≡ jobs → EndsDone who base rows row end old jobs new after []

-- ---- a receive

-- a wait of its own stands at a place of the channel
pub record WaitsAt (c : ℕ) (w : WaitId) (old new : SeenOnChannels) : Type 0 where
  pub place : ℕ
  pub named : w ≡ wait_at c place
  pub left : ToldOnChannels old new (made (Await c place (wait_at c place) 0) ∷ [])
  pub waits : IsLeftWaiting w (Await c place (wait_at c place) 0 ∷ []) old new

-- a receive on a channel that carries no element; without memory nothing was told
abbrev pub SignalAnswer : ℕ → SeenOnChannels → SeenOnChannels → Result Joined Memory → Type 0
SignalAnswer c old new (Ok (joined.Closed v)) = ToldOnChannels old new (heard (ReceiveClosed c v) ∷ [])
SignalAnswer c old new (Ok (joined.Waits w)) = WaitsAt c w old new
SignalAnswer c old new (Ok joined.Cancelled) = ⊥
SignalAnswer c old new (Ok joined.Spent) = ToldOnChannels old new (spent (receives c))
SignalAnswer c old new (Err m) = ToldOnChannels old new []

-- if the answer is that the channel is closed, its close was seen
abbrev pub ClosedIsSeen : ℕ → ChannelFloor → Result Joined Memory → Type 0
ClosedIsSeen c new (Ok (joined.Closed v)) = IsClosedWith c v (replay_channels new.seen)
ClosedIsSeen c new other = Unit {0}

-- ---- if nobody else makes entries

-- each done channel that is closed is that of an ended Job
abbrev pub OnlyEndedAreClosed : ℕ → ChannelFloor → Floor → Type 0
OnlyEndedAreClosed base c j = (r : ℕ) → r < j.shape.rows → IsSeenClosed (done_channel base r) c → has_ended (replay j.seen r) ≡ true

-- floors that nobody else calls keep that only done channels of ended Jobs are closed, and each Finish is closed at once
pub record KeepsDones (base : ℕ) (old new : SeenOnBoth) (group : List Item) : Type 0 where
  pub only : old.channels.alone ≡ true → old.jobs.alone ≡ true → OnlyEndedAreClosed base old.channels old.jobs
      → OnlyEndedAreClosed base new.channels new.jobs
  pub at_once : old.channels.alone ≡ true → old.jobs.alone ≡ true → OnlyEndedAreClosed base old.channels old.jobs
      → ClosesAtOnce base group
