-- What a coroutine tells of one move: its notes, in their order, and between them what was so.
use Rattle.std.specs.Prelude.{ℕ, List, [], ◌∷◌}
use Rattle.co_base.specs.declared.names.WaitId.{WaitId}
use Rattle.channel_model.specs.declared.acts.Act.{Act}
use Rattle.channel_model.specs.declared.acts.ChannelNote.{ChannelNote}
use Rattle.channel_model.specs.declared.acts.ChannelNote.TheVariants as of_channel
use Rattle.job_model.specs.declared.acts.End.{End}
use Rattle.job_model.specs.declared.acts.JobAct.{JobAct}
use Rattle.job_model.specs.declared.acts.JobNote.{JobNote}
use Rattle.job_model.specs.declared.acts.JobNote.TheVariants as of_job
use Rattle.note_book.specs.declared.book.Item.{Item}
use Rattle.note_book.specs.declared.book.Item.TheVariants as item

-- what may be said of the channels at a moment, beside what a note says itself (specs/Facts.antt has what each means)
pub data ChannelFact : Type 0 where
  -- before an act or an answer
  WasFull : (c : ℕ) → ChannelFact
  SpentForOffers : (c : ℕ) → ChannelFact
  SpentForReceives : (c : ℕ) → ChannelFact
  ReceiverAt : (c place : ℕ) → ChannelFact
  OfferAt : (c place : ℕ) → ChannelFact
  -- what a call leaves: nothing that it owed
  NextIs : (c mark : ℕ) → ChannelFact
  NoneToAdmit : (c mark : ℕ) → ChannelFact
  FitsUpTo : (c place : ℕ) → ChannelFact
  StandsWithRoom : (c place : ℕ) → ChannelFact
  NoReceiver : (c : ℕ) → ChannelFact
  IsVoided : (c : ℕ) → ChannelFact
  NothingQueued : (c : ℕ) → ChannelFact
  -- that a wait was resolved, and how
  IsResolved : (w : WaitId) → ChannelFact
  TakenBack : (w : WaitId) → ChannelFact

-- what may be said of the Jobs at a moment
pub data JobFact : Type 0 where
  MayRun : (row : ℕ) → JobFact
  NotNew : (row : ℕ) → JobFact
  IsCancelling : (row : ℕ) → JobFact
  HasEnded : (row : ℕ) → JobFact
  PassedBelow : (row : ℕ) → List JobAct → JobFact
  FailedUp : (row : ℕ) → List JobAct → JobFact
  ParentIs : (row parent : ℕ) → JobFact
  OwesNoEnd : (row : ℕ) → JobFact

pub data Told : Type 0 where
  note : Item → Told
  on_channels : ChannelFact → Told
  on_jobs : JobFact → Told

-- the notes alone
unfoldable pub items_in : List Told → List Item
items_in [] = []
items_in (note i ∷ more) = i ∷ items_in more
items_in (on_channels fact ∷ more) = items_in more
items_in (on_jobs fact ∷ more) = items_in more

-- ---- short names

-- an act on a channel, and an answer of a channel without an act
abbrev pub made : Act → Told
made act = note (item.Channel (of_channel.Made act))

abbrev pub heard : ChannelNote → Told
heard n = note (item.Channel n)

-- an act on a Job, and an answer without one
abbrev pub did : JobAct → Told
did act = note (item.Job (of_job.Made act))

abbrev pub knew : JobNote → Told
knew n = note (item.Job n)

abbrev pub saw : ℕ → Told
saw row = knew (of_job.Saw row)

abbrev pub saw_end : ℕ → End → Told
saw_end row end = knew (of_job.SawEnd row end)
