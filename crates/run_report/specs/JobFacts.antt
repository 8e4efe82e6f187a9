-- What the acts say of one row.
use Rattle.std.specs.Prelude.{ℕ, ◌==◌, Bool, true, false, not, ◌&&◌, ◌||◌, List, [], Option, Some, None, if◌then◌else◌, slice_index_or}
use Rattle.std.specs.List.{list_any, flat_map, range_with_len}
use Rattle.std.specs.Option.{option_or}
use lib.Chars.{codes}
use Rattle.job_model.specs.declared.acts.JobAct.{JobAct}
use Rattle.job_model.specs.declared.acts.JobAct.TheVariants.{Attach, Start, EndBody, Cancel, Finish, Gone}
use Rattle.job_model.specs.declared.acts.JobNote.TheVariants as note
use Rattle.job_model.specs.Acts.{attaches, starts, ends_body}
use Rattle.note_book.specs.declared.book.Item.{Item}
use Rattle.note_book.specs.declared.book.Item.TheVariants as item
use Rattle.run_report.specs.declared.job_facts.JobFacts.{JobFacts}
use Rattle.run_report.specs.Jobs.{attaches_lazy, makes_cancelling, end_noted, end_or, line_of_job}

-- what no act says anything of
abbrev pub nothing_said : JobFacts
nothing_said = record { attached = false; lazy = false; started = false; cancelled = false; body_ended = false; end = None }

-- what all these acts say of a row
abbrev pub job_facts_of : ℕ → List JobAct → JobFacts
job_facts_of r acts = record {
  attached = list_any (attaches r) acts;
  lazy = list_any (attaches_lazy r) acts;
  started = list_any (starts r) acts;
  cancelled = list_any (makes_cancelling r) acts;
  body_ended = list_any (ends_body r) acts;
  end = end_noted r acts;
}

-- what the one says and then the other
abbrev pub both_said : JobFacts → JobFacts → JobFacts
both_said x y = record {
  attached = x.attached || y.attached;
  lazy = x.lazy || y.lazy;
  started = x.started || y.started;
  cancelled = x.cancelled || y.cancelled;
  body_ended = x.body_ended || y.body_ended;
  end = option_or x.end y.end;
}

-- the act on a Job that an item notes, if it notes one
abbrev pub act_noted : Item → Option JobAct
act_noted (item.Channel of_channel) = None
act_noted (item.Job (note.Made act)) = Some act
act_noted (item.Job (note.Saw row)) = None
act_noted (item.Job (note.SawEnd row end)) = None
act_noted (item.Job (note.Fail code)) = None
act_noted (item.Job note.NoRow) = None
act_noted (item.Job note.Used) = None
act_noted (item.Job note.ParentEnded) = None

-- the row of which an act speaks
abbrev pub row_of : JobAct → ℕ
row_of (Attach p q kind tag cancelled) = q
row_of (Start q) = q
row_of (EndBody q v) = q
row_of (Cancel q reason) = q
row_of (Finish q end) = q
row_of (Gone q) = q

-- what an act says of its row
abbrev pub said : JobAct → JobFacts
said (Attach p q kind tag cancelled) = record nothing_said { attached = true; lazy = kind.lazy; cancelled = cancelled }
said (Start q) = record nothing_said { started = true }
said (EndBody q v) = record nothing_said { body_ended = true }
said (Cancel q reason) = record nothing_said { cancelled = true }
said (Finish q end) = record nothing_said { end = Some end }
said (Gone q) = nothing_said

-- what an act says of this row
abbrev pub said_of : ℕ → JobAct → JobFacts
said_of r act = if r == row_of act then said act else nothing_said

-- what a table says of a row
abbrev pub facts_at : List JobFacts → ℕ → JobFacts
facts_at table r = slice_index_or table r nothing_said

-- ---- the lines, from what is said

-- how far a Job is that has not ended
abbrev pub open_text_by : JobFacts → List ℕ
open_text_by facts =
    if facts.cancelled then codes "cancelling"
    else if facts.body_ended then codes "completing"
    else if facts.lazy && not facts.started then codes "new"
    else codes "active"

-- how a Job ended, or how far it is
abbrev pub job_text_by : JobFacts → List ℕ
job_text_by facts = end_or facts.end (open_text_by facts)

-- the row is the root's, or was attached
abbrev pub is_attached_by : ℕ → JobFacts → Bool
is_attached_by r facts = (r == 0) || facts.attached

-- the line of a row
abbrev pub job_line_by : ℕ → JobFacts → List ℕ
job_line_by r facts = if is_attached_by r facts then line_of_job r (job_text_by facts) else []

-- the lines of the first n rows of a table
abbrev pub lines_by : ℕ → List JobFacts → List ℕ
lines_by n table = flat_map (λ r. job_line_by r (facts_at table r)) (range_with_len 0 n)
