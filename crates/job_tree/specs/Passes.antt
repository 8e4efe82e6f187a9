-- Passes: a Job is cancelled with all below it.
use Rattle.std.specs.Prelude.{◌≡◌, ℕ, ◌+◌, ◌==◌, ◌<◌, ◌≤◌, Bool, true, false, List, [], ◌++◌, length, Option, Some, None, Result, Ok, Err}
use Rattle.co_base.specs.declared.names.Memory.{Memory}
use Rattle.job_model.specs.declared.acts.JobAct.{JobAct}
use Rattle.job_model.specs.declared.acts.JobAct.TheVariants.{Attach, Start, EndBody, Cancel, Finish, Gone}
use Rattle.job_model.specs.declared.acts.Reason.{Reason}
use Rattle.job_model.specs.declared.acts.Reason.TheVariants as reasons
use Rattle.job_model.specs.Trees.{Job, Tree, parent_of, is_ended, is_failure}
use Rattle.job_model.specs.Families.{IsCancellingOrEnded, newest, older_sibling}
use Rattle.job_model.specs.Cancels.{IsAllCancelled, own_cancel, AreCancelsBelow}
use Rattle.job_model.specs.Floors.{AtStep}
use Rattle.call_meaning.specs.Telling.{Told, items_in}
use Rattle.call_meaning.specs.JobCalls.{Passes}
use Rattle.call_meaning.specs.Seen.{SeenOnJobs, tree_in}
use Rattle.call_meaning.specs.Calls.{ToldOnJobs}
use Rattle.job_tree.specs.Notes.{Noted}
use Rattle.job_tree.specs.Rooms.{uncancelled}
use Rattle.job_tree.specs.declared.caller.Reserve.{Reserve}
use Rattle.job_tree.specs.declared.caller.Reserve.TheVariants.{AsItGoes}
use Rattle.job_tree.specs.declared.passes.Passed.{Passed}
use Rattle.job_tree.specs.declared.steps.WalkStep.{WalkStep}
use Rattle.job_tree.specs.declared.steps.WalkStep.TheVariants.{To, Over, Up}

-- a Cancel for this reason makes the cause a failure
abbrev pub is_for_failure : Reason → Bool
is_for_failure reasons.Request = false
is_for_failure reasons.Parent = false
is_for_failure (reasons.Child c) = true
is_for_failure (reasons.Own f) = true

-- its cause is a failure
abbrev pub IsFailure : Option Job → Type 0
IsFailure None = ⊥
IsFailure (Some j) = is_failure j.cause ≡ true

-- ---- answers

-- whether the Cancel of one Job was made; in the end the Job is Cancelling or ended
pub record CancelledJob (row : ℕ) (reason : Reason) (old new : SeenOnJobs) (now : Bool) : Type 0 where
  pub noted : Noted (own_cancel now row reason) old new
  pub fewer : length (own_cancel now row reason) + uncancelled new.floor ≤ uncancelled old.floor
  pub cancelled : IsCancellingOrEnded (tree_in new row)
  pub failed : now ≡ true → is_for_failure reason ≡ true → IsFailure (tree_in new row)

-- the Cancel of one Job; without memory nothing was cancelled
abbrev pub CancelAnswer : ℕ → Reason → Reserve → SeenOnJobs → SeenOnJobs → Result Bool Memory → Type 0
CancelAnswer row reason reserve old new (Ok now) = CancelledJob row reason old new now
CancelAnswer row reason reserve old new (Err m) = (reserve ≡ AsItGoes) × Noted [] old new

-- the Jobs below the row were cancelled, so many by this call, and are all Cancelling or ended
pub record IsPassBelow (row : ℕ) (old new : SeenOnJobs) (count : ℕ) : Type 0 where
  pub acts : List JobAct
  pub noted : Noted acts old new
  pub cancels : AreCancelsBelow (tree_in new) row acts
  pub counted : count ≡ length acts
  pub all : IsAllCancelled (tree_in new) row

-- some Jobs below the row were cancelled
pub record IsPartBelow (row : ℕ) (old new : SeenOnJobs) : Type 0 where
  pub acts : List JobAct
  pub noted : Noted acts old new
  pub cancels : AreCancelsBelow (tree_in new) row acts

-- all of them, or as far as there was memory
abbrev pub BelowAnswer : ℕ → Reserve → SeenOnJobs → SeenOnJobs → Result ℕ Memory → Type 0
BelowAnswer row reserve old new (Ok count) = IsPassBelow row old new count × (count < 65536)
BelowAnswer row reserve old new (Err m) = (reserve ≡ AsItGoes) × IsPartBelow row old new

-- a pass is told and noted: the Job was cancelled for this reason, or had been, and then those below it; in the end all are Cancelling or
-- ended
pub record IsPass (row : ℕ) (reason : Reason) (newly : Bool) (old new : SeenOnJobs) (count : ℕ) : Type 0 where
  pub told : List Told
  pub group : Passes row reason newly told
  pub noted : ToldOnJobs [] old new told
  pub counted : count ≡ length (items_in told)
  pub cancels : AreCancelsBelow (tree_in new) row group.below
  pub all : IsAllCancelled (tree_in new) row
  pub failed : newly ≡ true → is_for_failure reason ≡ true → IsFailure (tree_in new row)

-- a pass, whether it cancelled the Job itself or that had been cancelled
pub record IsSomePass (row : ℕ) (reason : Reason) (old new : SeenOnJobs) (count : ℕ) : Type 0 where
  pub newly : Bool
  pub pass : IsPass row reason newly old new count

-- a part of a pass: the Job was cancelled for this reason, or was not by this call, and some Jobs below it were
pub record IsPartOfPass (row : ℕ) (reason : Reason) (old new : SeenOnJobs) : Type 0 where
  pub newly : Bool
  pub below : List JobAct
  pub noted : Noted (own_cancel newly row reason ++ below) old new
  pub cancels : AreCancelsBelow (tree_in new) row below

-- a whole pass, or as far as there was memory
abbrev pub PassAnswer : ℕ → Reason → Reserve → SeenOnJobs → SeenOnJobs → Result Passed Memory → Type 0
PassAnswer row reason reserve old new (Ok passed) = IsPass row reason passed.newly old new passed.count
PassAnswer row reason reserve old new (Err m) = (reserve ≡ AsItGoes) × IsPartOfPass row reason old new

-- the covered row and all below it are Cancelling or ended
abbrev pub IsCovered : Tree → Option ℕ → Type 0
IsCovered tree None = Unit {0}
IsCovered tree (Some c) = IsAllCancelled tree c

-- whether this is the covered row
abbrev pub covers : Option ℕ → ℕ → Bool
covers None row = false
covers (Some c) row = c == row

-- ---- Cancels

abbrev pub is_cancel : JobAct → Bool
is_cancel (Attach p r kind tag cancelled) = false
is_cancel (Start r) = false
is_cancel (EndBody r v) = false
is_cancel (Cancel r reason) = true
is_cancel (Finish r end) = false
is_cancel (Gone r) = false

-- ---- the walk

-- the Job has not ended, and this is its newest child
abbrev pub IsNewestOf : ℕ → Option Job → Type 0
IsNewestOf c None = ⊥
IsNewestOf c (Some j) = (is_ended j.state ≡ false) × (newest j.children ≡ Some c)

-- the Job has ended, or has no child
abbrev pub HasNoneBelow : Option Job → Type 0
HasNoneBelow None = ⊥
HasNoneBelow (Some j) = is_ended j.state ≡ false → j.children ≡ []

-- to the newest child, or where all below the row was passed, to the child that is next in age; up from the oldest
abbrev pub WalkStepAnswer : ℕ → Bool → SeenOnJobs → SeenOnJobs → WalkStep → Type 0
WalkStepAnswer at false old new (To c) = AtStep old.floor new.floor (λ tree. IsNewestOf c (tree at))
WalkStepAnswer at true old new (To c) = AtStep old.floor new.floor (λ tree. older_sibling tree at ≡ Some c)
WalkStepAnswer at false old new Over = AtStep old.floor new.floor (λ tree. HasNoneBelow (tree at))
WalkStepAnswer at true old new Over = ⊥
WalkStepAnswer at false old new (Up p) = ⊥
WalkStepAnswer at true old new (Up p) =
    AtStep old.floor new.floor (λ tree. (parent_of (tree at) ≡ Some p) × (older_sibling tree at ≡ None))
