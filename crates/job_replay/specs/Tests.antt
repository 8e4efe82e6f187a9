-- Which acts may come now, by the rows.
use Rattle.std.specs.Prelude.{ℕ, ◌==◌, nat_lt, Bool, true, false, not, ◌&&◌, ◌||◌, List, Option, Some, None, is_some}
use Rattle.job_model.specs.declared.acts.Reason.{Reason}
use Rattle.job_model.specs.declared.acts.Reason.TheVariants as reasons
use Rattle.job_model.specs.declared.acts.End.{End}
use Rattle.job_model.specs.declared.acts.JobAct.{JobAct}
use Rattle.job_model.specs.declared.acts.JobAct.TheVariants.{Attach, Start, EndBody, Cancel, Finish, Gone}
use Rattle.job_model.specs.Trees.{Shape, is_new, is_cancellable, is_cancelling, is_cancelled, is_ended, is_failure, is_failure_of}
use Rattle.job_model.specs.Needs.{any_below}
use Rattle.job_model.specs.Steps.{is_same, is_number, is_row_for, is_end}
use Rattle.job_replay.specs.declared.job_row.JobRow.{JobRow}
use Rattle.job_replay.specs.Rows.{bit_in, end_of_row, item_in, parent_in, parent_item, tag_in}

abbrev pub may_have_child : Bool → Option JobRow → Bool
may_have_child cancelled None = false
may_have_child cancelled (Some x) = not (is_ended x.state) && is_same (is_cancelling x.state) cancelled

abbrev pub may_start : Option JobRow → Bool
may_start None = false
may_start (Some x) = is_new x.state

abbrev pub may_end_body : ℕ → Option JobRow → Bool
may_end_body who None = false
may_end_body who (Some x) = (x.tag == who) && (not (is_new x.state) && not x.body_ended)

abbrev pub may_be_cancelled : Option JobRow → Bool
may_be_cancelled None = false
may_be_cancelled (Some x) = is_cancellable x.state

abbrev pub may_finish : End → Option JobRow → Bool
may_finish end None = false
may_finish end (Some x) = x.body_ended && ((x.living == 0) && is_end end (end_of_row x.state x))

abbrev pub is_finished_by : ℕ → Option JobRow → Bool
is_finished_by who None = false
is_finished_by who (Some x) = is_number who x.finisher

-- of the Job that was told gone or not, whether who may tell it
abbrev pub may_tell : ℕ → ℕ → Bool → Option JobRow → Bool
may_tell who r gone row = is_finished_by who row && (not gone && not (r == 0))

abbrev pub was_cancelled : Option JobRow → Bool
was_cancelled None = false
was_cancelled (Some x) = is_cancelled x.state

abbrev pub is_failed_child : ℕ → Option JobRow → Bool
is_failed_child r None = false
is_failed_child r (Some x) = is_number r x.parent && (is_failure x.cause && not x.kind.scoped)

abbrev pub is_supervisor : Option JobRow → Bool
is_supervisor None = false
is_supervisor (Some x) = x.kind.supervisor

abbrev pub ended_by_failure : ℕ → Option JobRow → Bool
ended_by_failure f None = false
ended_by_failure f (Some x) = is_ended x.state && is_failure_of f x.cause

-- a Job has ended by the failure of f
abbrev pub any_failed : ℕ → List (Option JobRow) → ℕ → Bool
any_failed count rows f = any_below count (λ q. ended_by_failure f (item_in rows q))

abbrev pub does_hold : ℕ → List (Option JobRow) → ℕ → ℕ → Reason → Bool
does_hold count rows who r reasons.Request = true
does_hold count rows who r reasons.Parent = was_cancelled (parent_item rows (parent_in (item_in rows r)))
does_hold count rows who r (reasons.Child c) = is_failed_child r (item_in rows c) && not (is_supervisor (item_in rows r))
does_hold count rows who r (reasons.Own f) =
    is_number who (tag_in (item_in rows r)) && ((f == r) || ((f == who) || any_failed count rows f))

-- whether who may make this act now
abbrev pub may_in : Shape → List (Option JobRow) → List Bool → ℕ → JobAct → Bool
may_in shape rows gone who (Attach p r kind tag cancelled) =
    not (is_some (item_in rows r))
    && (may_have_child cancelled (item_in rows p) && (nat_lt tag shape.coroutines && is_row_for shape who kind tag r))
may_in shape rows gone who (Start r) = may_start (item_in rows r)
may_in shape rows gone who (EndBody r v) = may_end_body who (item_in rows r)
may_in shape rows gone who (Cancel r reason) = may_be_cancelled (item_in rows r) && does_hold shape.rows rows who r reason
may_in shape rows gone who (Finish r end) = may_finish end (item_in rows r)
may_in shape rows gone who (Gone r) = may_tell who r (bit_in gone r) (item_in rows r)
