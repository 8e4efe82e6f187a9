-- The words of what holds of each book.
use Rattle.std.specs.Prelude.{◌≡◌, ◌↔◌, ℕ, ◌⊎◌, Bool, true, false, List, [], ◌∷◌, ◌++◌, Option, Some, None}
use Rattle.co_base.specs.declared.names.WaitId.{WaitId}
use Rattle.channel_model.specs.declared.acts.Act.TheVariants.{Withdraw, Settle}
use Rattle.channel_model.specs.declared.acts.Why.TheVariants as why
use Rattle.channel_model.specs.declared.acts.Settled.{Settled}
use Rattle.channel_model.specs.declared.acts.Settled.TheVariants.{Cancelled}
use Rattle.channel_model.specs.declared.acts.ChannelNote.TheVariants as of_channel
use Rattle.channel_model.specs.Channels.{State}
use Rattle.channel_model.specs.Answers.{IsUnsettledOf}
use Rattle.job_model.specs.declared.acts.JobKind.{JobKind}
use Rattle.job_model.specs.declared.acts.JobNote.TheVariants as of_job
use Rattle.job_model.specs.declared.acts.JobEntry.{JobEntry}
use Rattle.job_model.specs.Acts.{starts}
use Rattle.job_model.specs.Laws.{has}
use Rattle.note_book.specs.declared.book.Item.{Item}
use Rattle.note_book.specs.declared.book.Item.TheVariants as item
use Rattle.call_meaning.specs.Facts.{IsWithdrawnOrVoided}
use Rattle.call_meaning.specs.ChannelCalls.{is_given_up}
use Rattle.script_meaning.specs.declared.stage.Stage.{Stage}
use Rattle.script_meaning.specs.declared.stage.Stage.TheVariants.{Fresh, Running, Waiting, SeesJob, Unwinding, Leaving, SeesScope, Ended}
use Rattle.script_meaning.specs.Origins.{origin_of}

-- ---- waits

-- the wait for which a coroutine waits
abbrev pub wait_of : Stage → Option WaitId
wait_of Fresh = None
wait_of Running = None
wait_of (Waiting w) = Some w
wait_of SeesJob = None
wait_of (Unwinding failure) = None
wait_of (Leaving w) = Some w
wait_of SeesScope = None
wait_of Ended = None

-- of k's waits that one is unsettled for which it waits, and no other
abbrev pub HasJustTheWait : ℕ → Stage → State → Type 0
HasJustTheWait k stage s = (w : WaitId) → IsUnsettledOf k (s.waits w) ↔ (wait_of stage ≡ Some w)

-- ---- waits that are given up

-- the note that the wait ended so
abbrev pub settle_note : WaitId → Settled → Item
settle_note w outcome = item.Channel (of_channel.Made (Settle w outcome))

-- the last of these notes is that a Job was seen Cancelling, or after that one that this wait was withdrawn for it, or
-- that it was too late for that
pub data IsBehindSaw (w : WaitId) (notes : List Item) : Type 0 where
  seen : (before : List Item) (row : ℕ) → notes ≡ before ++ item.Job (of_job.Saw row) ∷ [] → IsBehindSaw w notes
  withdrawn : (before : List Item) (row : ℕ)
      → notes ≡ before ++ item.Job (of_job.Saw row) ∷ item.Channel (of_channel.Made (Withdraw w why.Cancelled)) ∷ []
      → IsBehindSaw w notes
  late : (before : List Item) (row : ℕ)
      → notes ≡ before ++ item.Job (of_job.Saw row) ∷ item.Channel (of_channel.Late w) ∷ []
      → IsBehindSaw w notes

-- the wait may be given up so after these notes
pub data MayGiveUp (w : WaitId) (s : State) (notes : List Item) : Settled → Type 0 where
  -- it was withdrawn or voided
  taken_back : IsWithdrawnOrVoided (s.waits w) → MayGiveUp w s notes Cancelled
  -- a cancellation was seen
  after_saw : (outcome : Settled) → IsBehindSaw w notes → MayGiveUp w s notes outcome

-- each wait that the book gives up was taken back, or a cancellation was seen before
abbrev pub GivesUpAfterSaw : State → List Item → Type 0
GivesUpAfterSaw s book = (before rest : List Item) (w : WaitId) (outcome : Settled)
    → book ≡ before ++ settle_note w outcome ∷ rest → is_given_up outcome ≡ true → MayGiveUp w s before outcome

-- ---- how a book begins

-- the first note is that the Job of this row was seen Cancelling
abbrev pub IsSawFirst : ℕ → List Item → Type 0
IsSawFirst k [] = ⊥
IsSawFirst k (i ∷ items) = i ≡ item.Job (of_job.Saw k)

-- a Job of this origin was cancelled as it was attached, or is lazy and was never started
abbrev pub NeverRuns : ℕ → List JobEntry → JobKind × Bool → Type 0
NeverRuns k jobs origin = (origin.1 ≡ true) ⊎ ((origin.0.lazy ≡ true) × (has starts k jobs ≡ false))

-- the Job of this coroutine was attached; where it never runs, the book begins so
pub record BeginsAsAttached (k : ℕ) (jobs : List JobEntry) (book : List Item) : Type 0 where
  pub origin : JobKind × Bool
  pub attached : origin_of k jobs ≡ Some origin
  pub saw_first : NeverRuns k jobs origin → IsSawFirst k book
