use Rattle.std.specs.Bool.{Decides}
use Rattle.std.proofs.Common.{subst, sym}
use Rattle.call_meaning.specs.Facts.{JobNoteHolds}
use Rattle.history_check.proofs.JobSteps.{saw_end_is, saw_is}
use Rattle.history_check.proofs.jobs.job_note_holds.Goals as goal

pub returns-in-Saw : goal.returns-in-Saw
returns-in-Saw c = λ jobs h.
    subst (λ n. Decides c.shows_cancelling.result (JobNoteHolds n jobs)) (sym c.in-Saw.is)
    (saw_is c.shows_cancelling.result c.look.result jobs c.in-Saw.row c.shows_cancelling.ensures (c.look.ensures jobs h))

pub returns-in-SawEnd : goal.returns-in-SawEnd
returns-in-SawEnd c = λ jobs h.
    subst (λ n. Decides c.is_end.result (JobNoteHolds n jobs)) (sym c.in-SawEnd.is)
    (saw_end_is c.is_end.result c.in-SawEnd.end c.end_shown.result c.look-in-SawEnd.result jobs c.in-SawEnd.row c.is_end.ensures
    c.end_shown.ensures (c.look-in-SawEnd.ensures jobs h))
