-- When an entry may come.
use Rattle.std.specs.Prelude.{◌≡◌, ◌≢◌, ℕ, zero, suc, ◌==◌, ◌<◌, ◌≤◌, Bool, true, false, ◌&&◌, ◌||◌, Option, Some, None, MatchBool}
use Rattle.job_model.specs.declared.acts.JobState.{JobState}
use Rattle.job_model.specs.declared.acts.JobState.TheVariants.{New, Active, Completing, Cancelling, Cancelled, Completed}
use Rattle.job_model.specs.declared.acts.JobKind.{JobKind}
use Rattle.job_model.specs.declared.acts.Reason.{Reason}
use Rattle.job_model.specs.declared.acts.Reason.TheVariants as reasons
use Rattle.job_model.specs.declared.acts.End.{End}
use Rattle.job_model.specs.declared.acts.End.TheVariants as ends
use Rattle.job_model.specs.declared.acts.JobAct.{JobAct}
use Rattle.job_model.specs.declared.acts.JobAct.TheVariants.{Attach, Start, EndBody, Cancel, Finish, Gone}
use Rattle.job_model.specs.Trees.{Shape, Job, Tree, is_new, is_cancellable, is_cancelling, is_cancelled, is_ended, is_failure, is_failure_of, state_of, tag_of, is_supervisor, parent_row, is_none_left, was_told, living}

-- ---- parts of the needs

-- the row of a coroutine is its tag; a scope of who has one of the rows after the last coroutine's
abbrev pub IsRowFor : Shape → ℕ → JobKind → ℕ → ℕ → Type 0
IsRowFor shape who kind tag r = MatchBool kind.scoped ((tag ≡ who) × (shape.coroutines ≤ r) × (r < shape.rows)) (r ≡ tag)

-- it is attached and has not ended, and is Cancelling exactly if the child is cancelled at once
abbrev pub MayHaveChild : Bool → Option Job → Type 0
MayHaveChild cancelled None = ⊥
MayHaveChild cancelled (Some j) = (is_ended j.state ≡ false) × (is_cancelling j.state ≡ cancelled)

-- the body is that of who, and has not ended
abbrev pub OwnsBody : ℕ → Option Job → Type 0
OwnsBody who None = ⊥
OwnsBody who (Some j) = (j.tag ≡ who) × (j.body_ended ≡ false)

-- the body is that of who, may run, and has not ended
abbrev pub MayEndBody : ℕ → Option Job → Type 0
MayEndBody who None = ⊥
MayEndBody who (Some j) = (j.tag ≡ who) × (is_new j.state ≡ false) × (j.body_ended ≡ false)

abbrev pub MayBeCancelled : Option Job → Type 0
MayBeCancelled None = ⊥
MayBeCancelled (Some j) = is_cancellable j.state ≡ true

-- the end of a Job that is Completing or Cancelling
abbrev pub end_of : JobState → Job → Option End
end_of New j = None
end_of Active j = None
end_of Completing j = Some (ends.Completed j.value)
end_of Cancelling j = Some (ends.Cancelled j.cause)
end_of Cancelled j = None
end_of Completed j = None

-- the body has ended, no child lives, and the Job ends so
abbrev pub MayFinish : End → Option Job → Type 0
MayFinish end None = ⊥
MayFinish end (Some j) = (j.body_ended ≡ true) × (is_none_left (living j) ≡ true) × (end_of j.state j ≡ Some end)

abbrev pub IsFinishedBy : ℕ → Option Job → Type 0
IsFinishedBy who None = ⊥
IsFinishedBy who (Some j) = j.finisher ≡ Some who

-- who finished this Job, which is not the root, and nobody told its parent
abbrev pub MayTell : ℕ → ℕ → Tree → Type 0
MayTell who r tree = IsFinishedBy who (tree r) × (was_told r (parent_row tree r) ≡ false) × (r ≢ 0)

-- ---- reasons

-- the test passes for a number below this one
abbrev pub any_below : ℕ → (ℕ → Bool) → Bool
any_below zero test = false
any_below (suc n) test = test n || any_below n test

-- the Job has ended by the failure of f
abbrev pub ended_by_failure : ℕ → Option Job → Bool
ended_by_failure f None = false
ended_by_failure f (Some j) = is_ended j.state && is_failure_of f j.cause

abbrev pub IsCancelled : Option Job → Type 0
IsCancelled None = ⊥
IsCancelled (Some j) = is_cancelled j.state ≡ true

-- a child of r that is no scope, and was cancelled by a failure
abbrev pub IsFailedChild : ℕ → Option Job → Type 0
IsFailedChild r None = ⊥
IsFailedChild r (Some j) = (j.parent ≡ Some r) × (is_failure j.cause ≡ true) × (j.kind.scoped ≡ false)

-- who may cancel the Job of r for this reason
abbrev pub Holds : Shape → Tree → ℕ → ℕ → Reason → Type 0
Holds shape tree who r reasons.Request = Unit {0}
Holds shape tree who r reasons.Parent = IsCancelled (parent_row tree r)
Holds shape tree who r (reasons.Child c) = IsFailedChild r (tree c) × (is_supervisor (tree r) ≡ false)
Holds shape tree who r (reasons.Own f) =
    (tag_of (tree r) ≡ Some who) × (((f == r) || ((f == who) || any_below shape.rows (λ q. ended_by_failure f (tree q)))) ≡ true)

-- ---- the acts

-- who may make this act now
abbrev pub Needs : Shape → Tree → ℕ → JobAct → Type 0
Needs shape tree who (Attach p r kind tag cancelled) =
    (tree r ≡ None) × MayHaveChild cancelled (tree p) × (tag < shape.coroutines) × IsRowFor shape who kind tag r
Needs shape tree who (Start r) = state_of (tree r) ≡ Some New
Needs shape tree who (EndBody r v) = MayEndBody who (tree r)
Needs shape tree who (Cancel r reason) = MayBeCancelled (tree r) × Holds shape tree who r reason
Needs shape tree who (Finish r end) = MayFinish end (tree r)
Needs shape tree who (Gone r) = MayTell who r tree
