-- What the parts of a call come to.
use Rattle.std.specs.Prelude.{◌≡◌, ℕ, Bool, true, false, List, [], ◌∷◌, ◌++◌, Option, Some, None, Result, Ok, Err, is_some}
use Rattle.std.specs.List.{list_all}
use Rattle.co_base.specs.declared.names.Memory.{Memory}
use Rattle.channel_model.specs.Floors.{Floor as ChannelFloor}
use Rattle.job_model.specs.declared.acts.JobAct.TheVariants.{Attach}
use Rattle.job_model.specs.declared.acts.JobNote.TheVariants.{NoRow, Used, ParentEnded}
use Rattle.job_model.specs.declared.acts.End.{End}
use Rattle.job_model.specs.declared.acts.End.TheVariants as ends
use Rattle.job_model.specs.declared.acts.JobKind.{JobKind}
use Rattle.job_model.specs.declared.acts.JobState.{JobState}
use Rattle.job_model.specs.declared.acts.JobState.TheVariants.{New, Active, Completing, Cancelling, Cancelled, Completed}
use Rattle.job_model.specs.declared.floor.Attached.{Attached}
use Rattle.job_model.specs.declared.floor.JobView.{JobView}
use Rattle.job_model.specs.Effects.{new_child}
use Rattle.job_model.specs.Trees.{state_of}
use Rattle.job_model.specs.Needs.{IsRowFor, OwnsBody, MayEndBody}
use Rattle.job_model.specs.Families.{IsCancellingOrEnded}
use Rattle.job_model.specs.Floors.{Floor, Looked, AtStep}
use Rattle.note_book.specs.declared.book.Item.{Item}
use Rattle.note_book.specs.Items.{job_acts_in}
use Rattle.call_meaning.specs.Telling.{Told, on_jobs, MayRun, IsCancelling, HasEnded, items_in, did, knew}
use Rattle.call_meaning.specs.Facts.{JobFactHolds}
use Rattle.call_meaning.specs.JobCalls.{Breaks, Chain}
use Rattle.call_meaning.specs.Prefixes.{PrefixOf}
use Rattle.call_meaning.specs.Seen.{SeenOnJobs, SeenOnBoth, seen_both, tree_in}
use Rattle.call_meaning.specs.Calls.{ToldOnJobs, ToldOnBoth}
use Rattle.job_tree.specs.declared.caller.JobCaller.{JobCaller}
use Rattle.job_tree.specs.Passes.{is_cancel}
use Rattle.scope_builders.specs.declared.builder.LaunchError.{LaunchError}
use Rattle.scope_builders.specs.declared.builder.LaunchError.TheVariants as launch
use Rattle.scope_builders.specs.Dones.{KeepsDones}
use Rattle.scope_builders.specs.Calls.{NoneLeft, BeginsToBreak}

-- ---- attach

-- the Attach of a child, whose row was claimed, and which is as it was attached
pub record HasAttached (parent : ℕ) (kind : JobKind) (tag : ℕ) (old new : SeenOnJobs) (child : Attached) : Type 0 where
  pub row_for : IsRowFor old.floor.shape old.who kind tag child.row
  pub noted : ToldOnJobs (child.row ∷ []) old new (did (Attach parent child.row kind tag child.cancelled) ∷ [])
  pub here : tree_in new child.row ≡ Some (new_child parent kind tag child.cancelled)

-- a row for the child was claimed, and the parent had ended
pub record MetParentEnded (parent : ℕ) (kind : JobKind) (tag : ℕ) (old new : SeenOnJobs) : Type 0 where
  pub row : ℕ
  pub row_for : IsRowFor old.floor.shape old.who kind tag row
  pub noted : ToldOnJobs (row ∷ []) old new (on_jobs (HasEnded parent) ∷ knew ParentEnded ∷ [])

abbrev pub AttachedAnswer : ℕ → JobKind → ℕ → SeenOnJobs → SeenOnJobs → Result Attached LaunchError → Type 0
AttachedAnswer parent kind tag old new (Ok child) = HasAttached parent kind tag old new child
AttachedAnswer parent kind tag old new (Err launch.NoRow) =
    (kind.scoped ≡ true) × NoneLeft new.floor × ToldOnJobs [] old new (knew NoRow ∷ [])
AttachedAnswer parent kind tag old new (Err launch.Used) =
    (kind.scoped ≡ false) × (is_some (new.floor.claims tag) ≡ true) × ToldOnJobs [] old new (knew Used ∷ [])
AttachedAnswer parent kind tag old new (Err launch.ParentEnded) = MetParentEnded parent kind tag old new
AttachedAnswer parent kind tag old new (Err launch.Memory) = ToldOnJobs [] old new []

-- ---- looks

-- the Job was seen Cancelling, or nothing is said
abbrev pub SeenAnswer : ℕ → ℕ → Floor → Floor → Bool → Type 0
SeenAnswer who row old new true = Looked who [] old new × AtStep old new (λ tree. state_of (tree row) ≡ Some Cancelling)
SeenAnswer who row old new false = Looked who [] old new

-- the Job was seen neither New nor Cancelling nor ended, or it was seen Cancelling
abbrev pub OwnAnswer : ℕ → ℕ → Floor → Floor → Bool → Type 0
OwnAnswer who row old new true = Looked who [] old new × AtStep old new (JobFactHolds (MayRun row))
OwnAnswer who row old new false = Looked who [] old new × AtStep old new (λ tree. state_of (tree row) ≡ Some Cancelling)

-- a Job that is seen in this state goes on: it is not Cancelling
abbrev pub goes_on_in : JobState → Bool
goes_on_in New = true
goes_on_in Active = true
goes_on_in Completing = true
goes_on_in Cancelling = false
goes_on_in Cancelled = true
goes_on_in Completed = true

abbrev pub goes_on : Option JobView → Bool
goes_on None = false
goes_on (Some v) = goes_on_in v.state

-- how a Job that is seen so has ended, if it has
abbrev pub end_in_state : JobState → JobView → Option End
end_in_state New v = None
end_in_state Active v = None
end_in_state Completing v = None
end_in_state Cancelling v = None
end_in_state Cancelled v = Some (ends.Cancelled v.cause)
end_in_state Completed v = Some (ends.Completed v.value)

abbrev pub end_in : Option JobView → Option End
end_in None = None
end_in (Some v) = end_in_state v.state v

-- ---- to break a body off

-- what was told has no act but Cancels
abbrev pub AreCancels : List Told → Type 0
AreCancels told = list_all is_cancel (job_acts_in (items_in told)) ≡ true

-- the cancellations with which a body breaks off were told; in the end its Job is Cancelling, and the body may end
pub record IsBroken (row : ℕ) (failure : Option ℕ) (old new : SeenOnJobs) : Type 0 where
  pub told : List Told
  pub breaks : Breaks old.who row failure told
  pub cancels : AreCancels told
  pub noted : ToldOnJobs [] old new told
  pub owned : OwnsBody old.who (tree_in new row)
  pub here : IsCancellingOrEnded (tree_in new row)

-- these cancellations were begun
pub record HasBegunToBreak (row : ℕ) (failure : Option ℕ) (old new : SeenOnJobs) : Type 0 where
  pub told : List Told
  pub begun : BeginsToBreak old.who row (tree_in new) failure told
  pub cancels : AreCancels told
  pub noted : ToldOnJobs [] old new told

-- the body broke off so, or as far as there was memory
abbrev pub BreakAnswer : ℕ → Option ℕ → SeenOnJobs → SeenOnJobs → Result (Unit {0}) Memory → Type 0
BreakAnswer row failure old new (Ok done) = IsBroken row failure old new
BreakAnswer row failure old new (Err m) = HasBegunToBreak row failure old new

-- the Job was cancelled so, or was seen Cancelling
pub record IsCancelledFirst (row : ℕ) (failure : Option ℕ) (old new : SeenOnJobs) : Type 0 where
  pub told : List Told
  pub breaks : Breaks old.who row failure told
  pub cancels : AreCancels told
  pub noted : ToldOnJobs [] old new (told ++ on_jobs (IsCancelling row) ∷ [])
  pub may : MayEndBody old.who (tree_in new row)

-- ---- to end Jobs

-- a chain, or a beginning of one
abbrev pub ChainAnswer : ℕ → ℕ → List Told → Result (Unit {0}) Memory → Type 0
ChainAnswer base row told (Ok done) = Chain base row told
ChainAnswer base row told (Err m) = PrefixOf (Chain base row) told

-- the chain of ends from a Job upwards; without memory it stops
pub record FinishedUp (base row : ℕ) (old new : SeenOnBoth) (result : Result (Unit {0}) Memory) : Type 0 where
  pub told : List Told
  pub chain : ChainAnswer base row told result
  pub noted : ToldOnBoth [] old new told
  pub dones : KeepsDones base old new (items_in told)

-- what a caller of Jobs sees, with the channels that it closes
abbrev pub seen_closing : {C J B W : Type 0} → (C → ChannelFloor) → (J → Floor) → (B → List Item) → JobCaller J B W → C → SeenOnBoth
seen_closing channels_view jobs_view items caller channels =
    seen_both channels_view jobs_view items caller.who channels caller.floor.now caller.book.now
