-- What one call on a Job tells.
use Rattle.std.specs.Prelude.{◌≡◌, ◌≢◌, ℕ, Bool, true, false, List, [], ◌∷◌, ◌++◌, map, Option, Some, None}
use Rattle.job_model.specs.declared.acts.End.{End}
use Rattle.job_model.specs.declared.acts.End.TheVariants as ends
use Rattle.job_model.specs.declared.acts.Reason.{Reason}
use Rattle.job_model.specs.declared.acts.Reason.TheVariants as reasons
use Rattle.job_model.specs.declared.acts.JobKind.{JobKind}
use Rattle.job_model.specs.declared.acts.JobAct.{JobAct}
use Rattle.job_model.specs.declared.acts.JobAct.TheVariants.{Start, EndBody, Finish, Gone}
use Rattle.job_model.specs.declared.acts.JobNote.TheVariants.{NoRow, Used, ParentEnded}
use Rattle.job_model.specs.Cancels.{own_cancel}
use Rattle.job_model.specs.Done.{done_channel}
use Rattle.call_meaning.specs.Telling.{Told, on_jobs, NotNew, IsCancelling, HasEnded, PassedBelow, FailedUp, ParentIs, OwesNoEnd, did, knew}
use Rattle.call_meaning.specs.ChannelCalls.{Closes}

-- ---- attach

abbrev pub child_kind : Bool → JobKind
child_kind lazy = record { supervisor = false; scoped = false; lazy = lazy }

abbrev pub scope_kind : Bool → JobKind
scope_kind supervisor = record { supervisor = supervisor; scoped = true; lazy = false }

-- no Job was attached to the parent: a scope found all rows claimed, or a coroutine its own; or the parent had ended
pub data NotAttached (parent : ℕ) : Bool → List Told → Type 0 where
  no_row : NotAttached parent true (knew NoRow ∷ [])
  used : NotAttached parent false (knew Used ∷ [])
  parent_ended : (scoped : Bool) → NotAttached parent scoped (on_jobs (HasEnded parent) ∷ knew ParentEnded ∷ [])

-- ---- start and cancel

-- a New Job is started; afterwards it is not New
pub data Starts (row : ℕ) : List Told → Type 0 where
  now : Starts row (did (Start row) ∷ on_jobs (NotNew row) ∷ [])
  before : Starts row (on_jobs (NotNew row) ∷ [])

-- a pass: Cancel of the row, if that was not cancelled before, then Cancels of Jobs below; afterwards all are
-- Cancelling or ended
pub record Passes (row : ℕ) (reason : Reason) (newly : Bool) (group : List Told) : Type 0 where
  pub below : List JobAct
  pub all : group ≡ map did (own_cancel newly row reason ++ below) ++ on_jobs (PassedBelow row below) ∷ []

-- why a body that unwinds cancels its Job
abbrev pub reason_for : Option ℕ → Reason
reason_for None = reasons.Request
reason_for (Some f) = reasons.Own f

-- the cancellations of k where it unwinds from the Job of this row. A failure goes up only from its own row, where it
-- is newly cancelled
pub data Breaks (k row : ℕ) : Option ℕ → List Told → Type 0 where
  -- the Job was seen Cancelling; whoever cancelled it cancels what is below
  seen : (failure : Option ℕ) → Breaks k row failure []
  -- or it was found so by the pass
  had_been : (failure : Option ℕ) (group : List Told) → Passes row (reason_for failure) false group
      → Breaks k row failure group
  -- it is cancelled as its coroutine was asked to, or a scope by its own failure
  asked : (group : List Told) → Passes row reasons.Request true group → Breaks k row None group
  scope_fails : (f : ℕ) (group : List Told) → row ≢ k → Passes row (reasons.Own f) true group
      → Breaks k row (Some f) group
  -- or a coroutine by its own failure, which goes up
  fails : (f : ℕ) (up : List JobAct) (pass all : List Told) → row ≡ k → Passes row (reasons.Own f) true pass
      → all ≡ pass ++ (map did up ++ on_jobs (FailedUp row up) ∷ []) → Breaks k row (Some f) all

-- ---- the ends of bodies

-- the value with which the done channel of a Job that ended so is closed
abbrev pub value_of : End → ℕ
value_of (ends.Completed v) = v
value_of (ends.Cancelled cause) = 0

-- a chain: the Job ends, its done channel is closed, its parent is told, and then the same of the parent; it stops
-- above the root, or at a Job that owes no end
pub data Chain (base : ℕ) : ℕ → List Told → Type 0 where
  stops : (row : ℕ) → Chain base row (on_jobs (OwesNoEnd row) ∷ [])
  root : (end : End) (closes : List Told) → Closes (done_channel base 0) (value_of end) closes
      → Chain base 0 (did (Finish 0 end) ∷ closes)
  goes_up : (row parent : ℕ) (end : End) (closes more all : List Told) → row ≢ 0
      → Closes (done_channel base row) (value_of end) closes → Chain base parent more
      → all ≡ did (Finish row end) ∷ (closes ++ did (Gone row) ∷ on_jobs (ParentIs row parent) ∷ more) → Chain base row all

-- the body ends with a value, and then what it owed
pub data EndsBody (base : ℕ) (row value : ℕ) : List Told → Type 0 where
  ends_body : (chain : List Told) → Chain base row chain → EndsBody base row value (did (EndBody row value) ∷ chain)

-- the body breaks off: its Job is cancelled, and then it ends with 0
pub record BreaksOff (base : ℕ) (k row : ℕ) (failure : Option ℕ) (group : List Told) : Type 0 where
  pub cancels : List Told
  pub end : List Told
  pub breaks : Breaks k row failure cancels
  pub ends : EndsBody base row 0 end
  pub all : group ≡ cancels ++ on_jobs (IsCancelling row) ∷ end
