use Rattle.std.proofs.Common.{refl}
use Rattle.scope_builders.proofs.Rooms.{told_none, may_call_after, made_room}
use Rattle.scope_builders.proofs.Starts.{started_now, started_before, started_added}
use Rattle.scope_builders.proofs.builder.Builder.start.Goals as goal

pub returns-in-Err-clause-answer : goal.returns-in-Err-clause-answer
returns-in-Err-clause-answer g c = told_none c.in-Err.ensures.same refl c.make_room.ensures.items

pub returns-then-not-start-clause-answer : goal.returns-then-not-start-clause-answer
returns-then-not-start-clause-answer g c =
    started_before (made_room c.in_default.ensures.floor c.make_room.ensures.items) c.if-not-start.ensures.answer
    refl refl

pub wake_job-requires : goal.wake_job-requires
wake_job-requires g c = record {
  can = may_call_after c.requires.may c.requires.row (started_added _ _ _ _ _ _ c.in_default.ensures.floor c.if-not-start.ensures.answer)
      (g.met.J.JobFloor.legal c.start.new.self);
}

pub returns-clause-answer : goal.returns-clause-answer
returns-clause-answer g c =
    started_now (made_room c.in_default.ensures.floor c.make_room.ensures.items)
    (g.met.J.JobFloor.legal c.start.new.self) (g.met.J.JobFloor.legal c.wake_job.new.floor) c.if-not-start.ensures.answer
    c.wake_job.ensures.looked refl c.note.ensures.items
