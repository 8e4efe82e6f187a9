-- What the report says: the lines of the Jobs.
use Rattle.std.specs.Prelude.{ℕ, ◌==◌, Bool, false, not, ◌&&◌, ◌||◌, List, [], ◌∷◌, ◌++◌, Option, Some, None, if◌then◌else◌}
use Rattle.std.specs.List.{list_any, flat_map, range_with_len}
use Rattle.std.specs.Option.{option_or}
use Rattle.std.specs.Fmt.{decimal}
use lib.Chars.{codes}
use Rattle.job_model.specs.declared.acts.End.{End}
use Rattle.job_model.specs.declared.acts.JobAct.{JobAct}
use Rattle.job_model.specs.declared.acts.JobAct.TheVariants.{Attach, Start, EndBody, Cancel, Finish, Gone}
use Rattle.job_model.specs.Acts.{attaches, starts, ends_body}
use Rattle.note_book.specs.declared.book.Item.{Item}
use Rattle.note_book.specs.Items.{job_acts_in}
use Rattle.run_report.specs.JobTexts.{end_text}

-- the acts on Jobs that are noted in all books
abbrev pub job_acts_noted : List (List Item) → List JobAct
job_acts_noted [] = []
job_acts_noted (book ∷ books) = job_acts_in book ++ job_acts_noted books

-- ---- words on one act

-- the act attaches the row as lazy
abbrev pub attaches_lazy : ℕ → JobAct → Bool
attaches_lazy r (Attach p q kind tag cancelled) = (r == q) && kind.lazy
attaches_lazy r (Start q) = false
attaches_lazy r (EndBody q v) = false
attaches_lazy r (Cancel q reason) = false
attaches_lazy r (Finish q end) = false
attaches_lazy r (Gone q) = false

-- the act cancels the row, or attaches it as cancelled
abbrev pub makes_cancelling : ℕ → JobAct → Bool
makes_cancelling r (Attach p q kind tag cancelled) = (r == q) && cancelled
makes_cancelling r (Start q) = false
makes_cancelling r (EndBody q v) = false
makes_cancelling r (Cancel q reason) = r == q
makes_cancelling r (Finish q end) = false
makes_cancelling r (Gone q) = false

-- how the act ends the Job of the row, if it does
abbrev pub ends_as : ℕ → JobAct → Option End
ends_as r (Attach p q kind tag cancelled) = None
ends_as r (Start q) = None
ends_as r (EndBody q v) = None
ends_as r (Cancel q reason) = None
ends_as r (Finish q end) = if r == q then Some end else None
ends_as r (Gone q) = None

-- ---- words on all acts

-- the row is the root's, or an act attaches it
abbrev pub is_attached : ℕ → List JobAct → Bool
is_attached r acts = (r == 0) || list_any (attaches r) acts

-- how the first Finish of the row ends its Job, if there is one
abbrev pub end_noted : ℕ → List JobAct → Option End
end_noted r [] = None
end_noted r (a ∷ acts) = option_or (ends_as r a) (end_noted r acts)

-- an act cancels the row, or attaches it as cancelled
abbrev pub was_cancelled : ℕ → List JobAct → Bool
was_cancelled r acts = list_any (makes_cancelling r) acts

-- an act ends the body of the row
abbrev pub has_ended_body : ℕ → List JobAct → Bool
has_ended_body r acts = list_any (ends_body r) acts

-- an act attaches the row as lazy, and none starts it
abbrev pub is_unstarted : ℕ → List JobAct → Bool
is_unstarted r acts = list_any (attaches_lazy r) acts && not (list_any (starts r) acts)

-- ---- the lines

-- how far the Job of a row is, if no Finish ends it
abbrev pub open_text : ℕ → List JobAct → List ℕ
open_text r acts =
    if was_cancelled r acts then codes "cancelling"
    else if has_ended_body r acts then codes "completing"
    else if is_unstarted r acts then codes "new"
    else codes "active"

-- how a Job ended; else this
abbrev pub end_or : Option End → List ℕ → List ℕ
end_or None other = other
end_or (Some end) other = end_text end

-- how the Job of a row ended, or how far it is
abbrev pub job_text : ℕ → List JobAct → List ℕ
job_text r acts = end_or (end_noted r acts) (open_text r acts)

-- the line of a row, with what is said of its Job
abbrev pub line_of_job : ℕ → List ℕ → List ℕ
line_of_job r text = codes "job " ++ decimal r ++ codes " " ++ text ++ codes "\n"

-- the line of a row; one that is not attached has none
abbrev pub job_line : ℕ → List JobAct → List ℕ
job_line r acts = if is_attached r acts then line_of_job r (job_text r acts) else []

-- the lines of the rows below n, in their order
abbrev pub jobs_text : ℕ → List JobAct → List ℕ
jobs_text n acts = flat_map (λ r. job_line r acts) (range_with_len 0 n)
