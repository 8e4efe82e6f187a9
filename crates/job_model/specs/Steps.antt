-- Steps: the tree after an act that may be made, and nothing after one that may not.
use Rattle.std.specs.Prelude.{ℕ, ◌==◌, nat_lt, nat_le, Bool, true, false, not, ◌&&◌, ◌||◌, List, [], ◌∷◌, Option, Some, None, is_some, option_and_then, if◌then◌else◌}
use Rattle.job_model.specs.declared.acts.JobKind.{JobKind}
use Rattle.job_model.specs.declared.acts.Cause.{Cause}
use Rattle.job_model.specs.declared.acts.Cause.TheVariants as because
use Rattle.job_model.specs.declared.acts.Reason.{Reason}
use Rattle.job_model.specs.declared.acts.Reason.TheVariants as reasons
use Rattle.job_model.specs.declared.acts.End.{End}
use Rattle.job_model.specs.declared.acts.End.TheVariants as ends
use Rattle.job_model.specs.declared.acts.JobAct.{JobAct}
use Rattle.job_model.specs.declared.acts.JobAct.TheVariants.{Attach, Start, EndBody, Cancel, Finish, Gone}
use Rattle.job_model.specs.declared.acts.JobEntry.{JobEntry}
use Rattle.job_model.specs.Trees.{Shape, Job, Tree, is_new, is_cancellable, is_cancelling, is_cancelled, is_ended, is_failure, is_supervisor, tag_of, parent_row, is_none_left, was_told, living}
use Rattle.job_model.specs.Effects.{after}
use Rattle.job_model.specs.Needs.{end_of, any_below, ended_by_failure}

-- ---- the needs as tests

abbrev pub is_same : Bool → Bool → Bool
is_same true b = b
is_same false b = not b

abbrev pub is_number : ℕ → Option ℕ → Bool
is_number n None = false
is_number n (Some m) = m == n

-- the row of a coroutine is its tag; a scope of who has one of the rows after the last coroutine's
abbrev pub is_row_for : Shape → ℕ → JobKind → ℕ → ℕ → Bool
is_row_for shape who kind tag r =
    if kind.scoped then (tag == who) && (nat_le shape.coroutines r && nat_lt r shape.rows) else r == tag

-- it is attached and has not ended, and is Cancelling exactly if the child is cancelled at once
abbrev pub may_have_child : Bool → Option Job → Bool
may_have_child cancelled None = false
may_have_child cancelled (Some j) = not (is_ended j.state) && is_same (is_cancelling j.state) cancelled

abbrev pub may_start : Option Job → Bool
may_start None = false
may_start (Some j) = is_new j.state

-- the body is that of who, may run, and has not ended
abbrev pub may_end_body : ℕ → Option Job → Bool
may_end_body who None = false
may_end_body who (Some j) = (j.tag == who) && (not (is_new j.state) && not j.body_ended)

abbrev pub may_be_cancelled : Option Job → Bool
may_be_cancelled None = false
may_be_cancelled (Some j) = is_cancellable j.state

abbrev pub same_cause : Cause → Cause → Bool
same_cause because.None because.None = true
same_cause because.None because.Request = false
same_cause because.None (because.Failure g) = false
same_cause because.Request because.None = false
same_cause because.Request because.Request = true
same_cause because.Request (because.Failure g) = false
same_cause (because.Failure f) because.None = false
same_cause (because.Failure f) because.Request = false
same_cause (because.Failure f) (because.Failure g) = f == g

abbrev pub same_end : End → End → Bool
same_end (ends.Completed v) (ends.Completed w) = v == w
same_end (ends.Completed v) (ends.Cancelled d) = false
same_end (ends.Cancelled c) (ends.Completed w) = false
same_end (ends.Cancelled c) (ends.Cancelled d) = same_cause c d

abbrev pub is_end : End → Option End → Bool
is_end end None = false
is_end end (Some e) = same_end e end

-- the body has ended, no child lives, and the Job ends so
abbrev pub may_finish : End → Option Job → Bool
may_finish end None = false
may_finish end (Some j) = j.body_ended && (is_none_left (living j) && is_end end (end_of j.state j))

abbrev pub is_finished_by : ℕ → Option Job → Bool
is_finished_by who None = false
is_finished_by who (Some j) = is_number who j.finisher

-- who finished this Job, which is not the root, and nobody told its parent
abbrev pub may_tell : ℕ → ℕ → Tree → Bool
may_tell who r tree = is_finished_by who (tree r) && (not (was_told r (parent_row tree r)) && not (r == 0))

abbrev pub was_cancelled : Option Job → Bool
was_cancelled None = false
was_cancelled (Some j) = is_cancelled j.state

-- a child of r that is no scope, and was cancelled by a failure
abbrev pub is_failed_child : ℕ → Option Job → Bool
is_failed_child r None = false
is_failed_child r (Some j) = is_number r j.parent && (is_failure j.cause && not j.kind.scoped)

-- who may cancel the Job of r for this reason
abbrev pub does_hold : Shape → Tree → ℕ → ℕ → Reason → Bool
does_hold shape tree who r reasons.Request = true
does_hold shape tree who r reasons.Parent = was_cancelled (parent_row tree r)
does_hold shape tree who r (reasons.Child c) = is_failed_child r (tree c) && not (is_supervisor (tree r))
does_hold shape tree who r (reasons.Own f) =
    is_number who (tag_of (tree r)) && ((f == r) || ((f == who) || any_below shape.rows (λ q. ended_by_failure f (tree q))))

-- who may make this act now
abbrev pub may_make : Shape → Tree → ℕ → JobAct → Bool
may_make shape tree who (Attach p r kind tag cancelled) =
    not (is_some (tree r))
    && (may_have_child cancelled (tree p) && (nat_lt tag shape.coroutines && is_row_for shape who kind tag r))
may_make shape tree who (Start r) = may_start (tree r)
may_make shape tree who (EndBody r v) = may_end_body who (tree r)
may_make shape tree who (Cancel r reason) = may_be_cancelled (tree r) && does_hold shape tree who r reason
may_make shape tree who (Finish r end) = may_finish end (tree r)
may_make shape tree who (Gone r) = may_tell who r tree

-- ---- steps

-- the tree after an entry, or nothing if a need of it fails
abbrev pub step : Shape → Tree → JobEntry → Option Tree
step shape tree e = if may_make shape tree e.who e.act then Some (after tree e.who e.act) else None

-- the tree after a history, or nothing if a step of it is none
unfoldable pub steps_from : Shape → Tree → List JobEntry → Option Tree
steps_from shape tree [] = Some tree
steps_from shape tree (e ∷ es) = option_and_then (λ (next : Tree). steps_from shape next es) (step shape tree e)
