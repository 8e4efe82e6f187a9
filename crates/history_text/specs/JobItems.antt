-- Which words are an item of a Job: an act, or the answer of a call that made none, as a report writes them.
use Rattle.std.specs.Prelude.{ℕ, Bool, true, false, List, [], ◌∷◌, Option, Some, None, if◌then◌else◌, option_map}
use Rattle.std.specs.Str.{bytes_eq}
use lib.Chars.{codes}
use Rattle.job_model.specs.declared.acts.Cause.TheVariants as because
use Rattle.job_model.specs.declared.acts.End.{End}
use Rattle.job_model.specs.declared.acts.End.TheVariants as ends
use Rattle.job_model.specs.declared.acts.JobAct.TheVariants.{Attach, Start, EndBody, Cancel, Finish, Gone}
use Rattle.job_model.specs.declared.acts.JobKind.{JobKind}
use Rattle.job_model.specs.declared.acts.JobNote.{JobNote}
use Rattle.job_model.specs.declared.acts.JobNote.TheVariants.{Made, Saw, SawEnd, Fail, NoRow, Used, ParentEnded}
use Rattle.job_model.specs.declared.acts.Reason.{Reason}
use Rattle.job_model.specs.declared.acts.Reason.TheVariants as reasons
use Rattle.report_reader.specs.Words.{value_at}
use Rattle.history_text.specs.Words.{row_at, tag_at}

-- ---- a Job that is attached

abbrev pub job_kind : Bool → Bool → Bool → JobKind
job_kind supervisor scoped lazy = record { supervisor = supervisor; scoped = scoped; lazy = lazy }

-- what sort of Job it is
unfoldable pub kind_at : List ℕ → Option JobKind
kind_at word =
    if bytes_eq word (codes "plain") then Some (job_kind false false false)
    else if bytes_eq word (codes "lazy") then Some (job_kind false false true)
    else if bytes_eq word (codes "scope") then Some (job_kind false true false)
    else if bytes_eq word (codes "supervisor") then Some (job_kind true true false)
    else None

-- whether it is cancelled at once
abbrev pub cancelled_by : List (List ℕ) → Option Bool
cancelled_by [] = Some false
cancelled_by (word ∷ []) = if bytes_eq word (codes "cancelled") then Some true else None
cancelled_by (word ∷ (other ∷ more)) = None

abbrev pub attach_with : Option ℕ → Option ℕ → Option ℕ → Option JobKind → Option Bool → Option JobNote
attach_with None p t kind cancelled = None
attach_with (Some r) None t kind cancelled = None
attach_with (Some r) (Some p) None kind cancelled = None
attach_with (Some r) (Some p) (Some t) None cancelled = None
attach_with (Some r) (Some p) (Some t) (Some kind) None = None
attach_with (Some r) (Some p) (Some t) (Some kind) (Some cancelled) = Some (Made (Attach p r kind t cancelled))

-- a row, that of its parent, a tag, what sort of Job it is, and whether it is cancelled at once
abbrev pub attach_by : List (List ℕ) → Option JobNote
attach_by (r ∷ (to ∷ (p ∷ (of ∷ (t ∷ (kind ∷ more)))))) =
    if bytes_eq to (codes "to") then
    (if bytes_eq of (codes "tag") then attach_with (row_at r) (row_at p) (tag_at t) (kind_at kind) (cancelled_by more) else None)
    else None
attach_by other = None

-- ---- a Job that is cancelled

unfoldable pub reason_alone : List ℕ → Option Reason
reason_alone how =
    if bytes_eq how (codes "request") then Some reasons.Request
    else if bytes_eq how (codes "parent") then Some reasons.Parent
    else None

unfoldable pub reason_of_row : List ℕ → ℕ → Option Reason
reason_of_row how r =
    if bytes_eq how (codes "child") then Some (reasons.Child r)
    else if bytes_eq how (codes "own") then Some (reasons.Own r)
    else None

abbrev pub reason_with : List ℕ → Option ℕ → Option Reason
reason_with how None = None
reason_with how (Some r) = reason_of_row how r

-- why a Job is cancelled
abbrev pub reason_by : List (List ℕ) → Option Reason
reason_by [] = None
reason_by (how ∷ []) = reason_alone how
reason_by (how ∷ (r ∷ [])) = reason_with how (row_at r)
reason_by (how ∷ (r ∷ (other ∷ more))) = None

abbrev pub cancel_with : Option ℕ → Option Reason → Option JobNote
cancel_with None reason = None
cancel_with (Some r) None = None
cancel_with (Some r) (Some reason) = Some (Made (Cancel r reason))

-- a row, and why it is cancelled
abbrev pub cancel_by : List (List ℕ) → Option JobNote
cancel_by [] = None
cancel_by (r ∷ why) = cancel_with (row_at r) (reason_by why)

-- ---- a Job that ends

abbrev pub end_body_with : Option ℕ → Option ℕ → Option JobNote
end_body_with None v = None
end_body_with (Some r) None = None
end_body_with (Some r) (Some v) = Some (Made (EndBody r v))

-- a row, and the result of its body
abbrev pub end_body_by : List (List ℕ) → Option JobNote
end_body_by (r ∷ (v ∷ [])) = end_body_with (row_at r) (value_at v)
end_body_by other = None

-- a Job ends cancelled, by a request; or with a result or by the failure of a row
unfoldable pub end_alone : List ℕ → Option End
end_alone how = if bytes_eq how (codes "cancelled") then Some (ends.Cancelled because.Request) else None

unfoldable pub end_with : List ℕ → Option ℕ → Option ℕ → Option End
end_with how v r =
    if bytes_eq how (codes "completed") then option_map (λ n. ends.Completed n) v
    else if bytes_eq how (codes "failed") then option_map (λ n. ends.Cancelled (because.Failure n)) r
    else None

-- how a Job ends
abbrev pub end_by : List (List ℕ) → Option End
end_by [] = None
end_by (how ∷ []) = end_alone how
end_by (how ∷ (n ∷ [])) = end_with how (value_at n) (row_at n)
end_by (how ∷ (n ∷ (other ∷ more))) = None

abbrev pub finish_with : Option ℕ → Option End → Option JobNote
finish_with None end = None
finish_with (Some r) None = None
finish_with (Some r) (Some end) = Some (Made (Finish r end))

-- a row, and how it ends
abbrev pub finish_by : List (List ℕ) → Option JobNote
finish_by [] = None
finish_by (r ∷ how) = finish_with (row_at r) (end_by how)

abbrev pub saw_end_with : Option ℕ → Option End → Option JobNote
saw_end_with None end = None
saw_end_with (Some r) None = None
saw_end_with (Some r) (Some end) = Some (SawEnd r end)

-- a row, of which it was seen how it ended
abbrev pub saw_end_by : List (List ℕ) → Option JobNote
saw_end_by [] = None
saw_end_by (r ∷ how) = saw_end_with (row_at r) (end_by how)

-- the code with which a body fails
abbrev pub fail_by : List (List ℕ) → Option JobNote
fail_by (v ∷ []) = option_map (λ n. Fail n) (value_at v)
fail_by other = None

-- ---- items with a row at most, and all items

unfoldable pub of_no_word : List ℕ → Option JobNote
of_no_word verb =
    if bytes_eq verb (codes "norow") then Some NoRow
    else if bytes_eq verb (codes "used") then Some Used
    else if bytes_eq verb (codes "parentended") then Some ParentEnded
    else None

unfoldable pub of_row : List ℕ → ℕ → Option JobNote
of_row verb r =
    if bytes_eq verb (codes "start") then Some (Made (Start r))
    else if bytes_eq verb (codes "gone") then Some (Made (Gone r))
    else if bytes_eq verb (codes "saw") then Some (Saw r)
    else None

abbrev pub with_row : List ℕ → Option ℕ → Option JobNote
with_row verb None = None
with_row verb (Some r) = of_row verb r

-- an item of which a row stands behind its verb, or nothing
abbrev pub plain_job_by : List ℕ → List (List ℕ) → Option JobNote
plain_job_by verb [] = of_no_word verb
plain_job_by verb (r ∷ []) = with_row verb (row_at r)
plain_job_by verb (r ∷ (other ∷ more)) = None

-- the item of a Job that a verb and the words behind it are
unfoldable pub job_item_by : List ℕ → List (List ℕ) → Option JobNote
job_item_by verb words =
    if bytes_eq verb (codes "attach") then attach_by words
    else if bytes_eq verb (codes "cancel") then cancel_by words
    else if bytes_eq verb (codes "endbody") then end_body_by words
    else if bytes_eq verb (codes "finish") then finish_by words
    else if bytes_eq verb (codes "sawend") then saw_end_by words
    else if bytes_eq verb (codes "fail") then fail_by words
    else plain_job_by verb words
