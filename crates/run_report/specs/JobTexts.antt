-- What the report says of calls on Jobs.
use Rattle.std.specs.Prelude.{ℕ, Bool, List, ◌++◌, if◌then◌else◌}
use Rattle.std.specs.Fmt.{decimal}
use lib.Chars.{codes}
use Rattle.job_model.specs.declared.acts.Cause.{Cause}
use Rattle.job_model.specs.declared.acts.Cause.TheVariants as because
use Rattle.job_model.specs.declared.acts.End.{End}
use Rattle.job_model.specs.declared.acts.End.TheVariants as ends
use Rattle.job_model.specs.declared.acts.JobAct.{JobAct}
use Rattle.job_model.specs.declared.acts.JobAct.TheVariants.{Attach, Start, EndBody, Cancel, Finish, Gone}
use Rattle.job_model.specs.declared.acts.JobKind.{JobKind}
use Rattle.job_model.specs.declared.acts.JobNote.{JobNote}
use Rattle.job_model.specs.declared.acts.JobNote.TheVariants as note
use Rattle.job_model.specs.declared.acts.Reason.{Reason}
use Rattle.job_model.specs.declared.acts.Reason.TheVariants as reasons

-- ---- the parts of a line

-- what sort of Job it is
abbrev pub job_kind_text : JobKind → List ℕ
job_kind_text kind =
    if kind.scoped then (if kind.supervisor then codes "supervisor" else codes "scope")
    else if kind.lazy then codes "lazy"
    else codes "plain"

-- what sort of Job was attached, and whether it was cancelled at once
abbrev pub attached_text : JobKind → Bool → List ℕ
attached_text kind cancelled = if cancelled then job_kind_text kind ++ codes " cancelled" else job_kind_text kind

-- why a Cancel was made
abbrev pub reason_text : Reason → List ℕ
reason_text reasons.Request = codes "request"
reason_text reasons.Parent = codes "parent"
reason_text (reasons.Child child) = codes "child " ++ decimal child
reason_text (reasons.Own failed) = codes "own " ++ decimal failed

-- how a cancelled Job ended: by the failure of a row, or as cancelled
abbrev pub cause_text : Cause → List ℕ
cause_text because.None = codes "cancelled"
cause_text because.Request = codes "cancelled"
cause_text (because.Failure failed) = codes "failed " ++ decimal failed

-- how a Job ended
abbrev pub end_text : End → List ℕ
end_text (ends.Completed value) = codes "completed " ++ decimal value
end_text (ends.Cancelled cause) = cause_text cause

-- ---- the acts and the notes

-- an act: its word, and then what it names
abbrev pub job_act_text : JobAct → List ℕ
job_act_text (Attach parent row kind tag cancelled) =
    codes "attach " ++ decimal row ++ codes " to " ++ decimal parent ++ codes " tag " ++ decimal tag
    ++ codes " " ++ attached_text kind cancelled
job_act_text (Start row) = codes "start " ++ decimal row
job_act_text (EndBody row value) = codes "endbody " ++ decimal row ++ codes " " ++ decimal value
job_act_text (Cancel row reason) = codes "cancel " ++ decimal row ++ codes " " ++ reason_text reason
job_act_text (Finish row end) = codes "finish " ++ decimal row ++ codes " " ++ end_text end
job_act_text (Gone row) = codes "gone " ++ decimal row

-- a note: an act, or the answer of a call that made none
abbrev pub job_note_text : JobNote → List ℕ
job_note_text (note.Made act) = job_act_text act
job_note_text (note.Saw row) = codes "saw " ++ decimal row
job_note_text (note.SawEnd row end) = codes "sawend " ++ decimal row ++ codes " " ++ end_text end
job_note_text (note.Fail code) = codes "fail " ++ decimal code
job_note_text note.NoRow = codes "norow"
job_note_text note.Used = codes "used"
job_note_text note.ParentEnded = codes "parentended"
