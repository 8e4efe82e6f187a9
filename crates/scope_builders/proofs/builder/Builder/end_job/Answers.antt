use Rattle.std.proofs.Common.{refl}
use Rattle.scope_builders.proofs.Rooms.{told_none, may_call_after, made_room}
use Rattle.call_meaning.proofs.HeardCalls.{told_now}
use Rattle.scope_builders.proofs.Bodies.{body_as, ended_body, own_attached, body_added, did_none, ends_nothing, ended_alone, ended_up, ended_some}
use Rattle.scope_builders.proofs.builder.Builder.end_job.Goals as goal

pub returns-in-Err-clause-answer : goal.returns-in-Err-clause-answer
returns-in-Err-clause-answer g c =
    did_none (ends_nothing _ _ _) (g.met.J.JobFloor.legal c.make_room.new.floor) refl
    (told_none c.in-Err.ensures.same refl c.make_room.ensures.items)

pub finish_up-requires-clause-row : goal.finish_up-requires-clause-row
finish_up-requires-clause-row g c =
    let added = body_added c.in_default.ensures.floor (body_as _ _ _ _ _ c.tell.ensures.jobs c.in-Owes.ensures.answer) in
    (may_call_after c.requires.may (own_attached _ _ c.requires.own) added (g.met.J.JobFloor.legal c.tell.new.self)).attached

pub returns-in-Waits-clause-answer : goal.returns-in-Waits-clause-answer
returns-in-Waits-clause-answer g c =
    ended_alone (made_room c.in_default.ensures.floor c.make_room.ensures.items)
    (g.met.J.JobFloor.legal c.tell.new.self) refl
    (told_now c.tell.ensures.jobs (c.tell.ensures.looked c.args.self.now.who c.requires.may.of_channels) c.tell.ensures.told)
    (body_as _ _ _ _ _ c.tell.ensures.jobs c.in-Waits.ensures.answer) refl c.note.ensures.items

pub returns-in-Ok-clause-answer : goal.returns-in-Ok-clause-answer
returns-in-Ok-clause-answer g c =
    ended_up
    (record {
      legal = g.met.J.JobFloor.legal c.tell.new.self;
      same = told_now c.tell.ensures.jobs (c.tell.ensures.looked c.args.self.now.who c.requires.may.of_channels) c.tell.ensures.told;
      added = body_added c.in_default.ensures.floor (body_as _ _ _ _ _ c.tell.ensures.jobs c.in-Owes.ensures.answer);
      body = ended_body (made_room c.in_default.ensures.floor c.make_room.ensures.items)
          (body_as _ _ _ _ _ c.tell.ensures.jobs c.in-Owes.ensures.answer) refl c.note.ensures.items;
    })
    c.in-Ok.ensures.finished

pub returns-in-Err-finish_up-clause-answer : goal.returns-in-Err-finish_up-clause-answer
returns-in-Err-finish_up-clause-answer g c =
    ended_some
    (record {
      legal = g.met.J.JobFloor.legal c.tell.new.self;
      same = told_now c.tell.ensures.jobs (c.tell.ensures.looked c.args.self.now.who c.requires.may.of_channels) c.tell.ensures.told;
      added = body_added c.in_default.ensures.floor (body_as _ _ _ _ _ c.tell.ensures.jobs c.in-Owes.ensures.answer);
      body = ended_body (made_room c.in_default.ensures.floor c.make_room.ensures.items)
          (body_as _ _ _ _ _ c.tell.ensures.jobs c.in-Owes.ensures.answer) refl c.note.ensures.items;
    })
    c.in-Err-finish_up.ensures.finished
