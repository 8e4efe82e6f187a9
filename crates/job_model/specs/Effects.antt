-- What an entry leaves.
use Rattle.std.specs.Prelude.{ℕ, ◌==◌, Bool, true, false, [], ◌∷◌, ◌++◌, Option, Some, None, option_map, if◌then◌else◌}
use Rattle.job_model.specs.declared.acts.JobState.{JobState}
use Rattle.job_model.specs.declared.acts.JobState.TheVariants.{New, Active, Completing, Cancelling, Cancelled, Completed}
use Rattle.job_model.specs.declared.acts.JobKind.{JobKind}
use Rattle.job_model.specs.declared.acts.Cause.{Cause}
use Rattle.job_model.specs.declared.acts.Cause.TheVariants as because
use Rattle.job_model.specs.declared.acts.Reason.{Reason}
use Rattle.job_model.specs.declared.acts.Reason.TheVariants as reasons
use Rattle.job_model.specs.declared.acts.End.{End}
use Rattle.job_model.specs.declared.acts.End.TheVariants as ends
use Rattle.job_model.specs.declared.acts.JobAct.{JobAct}
use Rattle.job_model.specs.declared.acts.JobAct.TheVariants.{Attach, Start, EndBody, Cancel, Finish, Gone}
use Rattle.job_model.specs.Trees.{Job, Tree, parent_of}

-- ---- parts of the effects

-- only this row becomes another
abbrev pub put_row : ℕ → Option Job → Tree → Tree
put_row r x tree q = if r == q then x else tree q

-- the Job of this row becomes what f makes of it
abbrev pub change : ℕ → (Job → Job) → Tree → Tree
change r f tree = put_row r (option_map f (tree r)) tree

abbrev pub change_parent : Option ℕ → (Job → Job) → Tree → Tree
change_parent None f tree = tree
change_parent (Some p) f tree = change p f tree

abbrev pub first_state : Bool → Bool → JobState
first_state true lazy = Cancelling
first_state false true = New
first_state false false = Active

abbrev pub first_cause : Bool → Cause
first_cause true = because.Request
first_cause false = because.None

-- a child as it is attached
abbrev pub new_child : ℕ → JobKind → ℕ → Bool → Job
new_child p kind tag cancelled =
    record {
      parent = Some p;
      kind = kind;
      tag = tag;
      state = first_state cancelled kind.lazy;
      body_ended = false;
      cause = first_cause cancelled;
      value = 0;
      children = [];
      told = [];
      finisher = None;
    }

abbrev pub with_child : ℕ → Job → Job
with_child r j = record j { children = j.children ++ r ∷ [] }

abbrev pub started : Job → Job
started j = record j { state = Active }

-- Active becomes Completing, with the value; Cancelling stays
abbrev pub state_after_body : JobState → JobState
state_after_body New = New
state_after_body Active = Completing
state_after_body Completing = Completing
state_after_body Cancelling = Cancelling
state_after_body Cancelled = Cancelled
state_after_body Completed = Completed

abbrev pub value_after_body : JobState → ℕ → ℕ → ℕ
value_after_body New v old = old
value_after_body Active v old = v
value_after_body Completing v old = old
value_after_body Cancelling v old = old
value_after_body Cancelled v old = old
value_after_body Completed v old = old

abbrev pub without_body : ℕ → Job → Job
without_body v j = record j { body_ended = true; state = state_after_body j.state; value = value_after_body j.state v j.value }

abbrev pub cause_of : Option Job → Cause
cause_of None = because.None
cause_of (Some j) = j.cause

-- the cause of a Job that is cancelled for this reason
abbrev pub cause_of_reason : Tree → Reason → Cause
cause_of_reason tree reasons.Request = because.Request
cause_of_reason tree reasons.Parent = because.Request
cause_of_reason tree (reasons.Child c) = cause_of (tree c)
cause_of_reason tree (reasons.Own f) = because.Failure f

abbrev pub cancelled_for : Cause → Job → Job
cancelled_for cause j = record j { state = Cancelling; cause = cause; value = 0 }

abbrev pub state_of_end : End → JobState
state_of_end (ends.Completed v) = Completed
state_of_end (ends.Cancelled cause) = Cancelled

abbrev pub ended_by : ℕ → End → Job → Job
ended_by who end j = record j { state = state_of_end end; finisher = Some who }

abbrev pub with_told : ℕ → Job → Job
with_told c j = record j { told = j.told ++ c ∷ [] }

-- ---- the acts

-- the tree after this act of who
abbrev pub after : Tree → ℕ → JobAct → Tree
after tree who (Attach p r kind tag cancelled) = put_row r (Some (new_child p kind tag cancelled)) (change p (with_child r) tree)
after tree who (Start r) = change r started tree
after tree who (EndBody r v) = change r (without_body v) tree
after tree who (Cancel r reason) = change r (cancelled_for (cause_of_reason tree reason)) tree
after tree who (Finish r end) = change r (ended_by who end) tree
after tree who (Gone r) = change_parent (parent_of (tree r)) (with_told r) tree
