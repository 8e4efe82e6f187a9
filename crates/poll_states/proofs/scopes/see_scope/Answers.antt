use Rattle.std.proofs.Common.{refl, ap, inl, inr, ◌∙◌}
use Rattle.script_reader.specs.Scripts.{program_of}
use Rattle.poll_states.specs.Frames.{noted}
use Rattle.poll_states.proofs.LineNeeds.{stands_build}
use Rattle.poll_states.proofs.Hearing.{told_first}
use Rattle.poll_states.proofs.Stepping.{cut_jobs}
use Rattle.poll_states.proofs.WaitsForEnds.{saw_scope, not_yet_seen}
use Rattle.poll_states.proofs.EndsNamed.{sees_in_scope, seen_attached, scope_to_see, scope_opens}
use Rattle.poll_states.proofs.scopes.see_scope.Goals as goal

pub unreachable-requires : goal.unreachable-requires
unreachable-requires g c = sees_in_scope (program_of c.args.script.now) _ _ _ (g.met.J.JobFloor.legal c.args.floors.now.jobs.now)
    c.requires.stands c.requires.sees (rw c.in_default.is at c.scope.ensures)

pub seen_end-requires-clause-may : goal.seen_end-requires-clause-may
seen_end-requires-clause-may g c = stands_build _ _ _ _ _ c.args.script.now.well_formed c.requires.stands c.first_done.ensures

pub seen_end-requires-clause-row : goal.seen_end-requires-clause-row
seen_end-requires-clause-row g c = seen_attached (program_of c.args.script.now) _ _ _ _ (g.met.J.JobFloor.legal c.args.floors.now.jobs.now)
    c.requires.stands (scope_to_see (program_of c.args.script.now) (noted g.B.NoteBook.items c.args.frame.now) c.in-Some.scope
    c.requires.sees c.in-Some.ensures)

pub leave_ended-requires-clause-opens : goal.leave_ended-requires-clause-opens
leave_ended-requires-clause-opens g c = scope_opens (program_of c.args.script.now) _ _ _ c.in-Some.scope c.requires.stands c.in-Some.ensures

pub returns-in-Ok-Some-clause-came : goal.returns-in-Ok-Some-clause-came
returns-in-Ok-Some-clause-came g c = rw c.tell.ensures.jobs (inl (saw_scope (program_of c.args.script.now) _ _ _ _ c.in-Some.scope _
    (told_first (ap g.C.ChannelFloor.view c.in-Ok-Some.ensures.channels)
    c.requires.stands.on.of_channels (c.tell.ensures.told _)) (g.met.J.JobFloor.legal c.seen_end.new.self.jobs.now) c.requires.stands
    c.requires.sees c.in-Some.ensures (rw c.in-Ok-Some.field-0-is at c.in-Ok-Some.ensures.answer) c.leave_ended.ensures.tag
    c.leave_ended.ensures.config c.leave_ended.ensures.items))

pub returns-in-Ok-None-clause-came : goal.returns-in-Ok-None-clause-came
returns-in-Ok-None-clause-came g c = inr (not_yet_seen
    (ap g.C.ChannelFloor.view c.in-Ok-None.ensures.channels)
    (scope_to_see (program_of c.args.script.now) (noted g.B.NoteBook.items c.args.frame.now) c.in-Some.scope c.requires.sees
    c.in-Some.ensures) (rw c.in-Ok-None.field-0-is at c.in-Ok-None.ensures.answer).0
    (rw c.in-Ok-None.field-0-is at c.in-Ok-None.ensures.answer).1 refl refl)

pub returns-in-Err-clause-came : goal.returns-in-Err-clause-came
returns-in-Err-clause-came g c = cut_jobs _ (ap g.C.ChannelFloor.view c.in-Err.ensures.channels) refl c.in-Err.ensures.answer

pub returns-in-Ok-Some-clause-same : goal.returns-in-Ok-Some-clause-same
returns-in-Ok-Some-clause-same g c = record {
  channels_lent = c.tell.ensures.same.channels_lent;
  jobs_lent = c.tell.ensures.same.jobs_lent;
  wakes_lent = c.tell.ensures.same.wakes_lent;
  channels_are = c.tell.ensures.same.channels_are ∙ c.in-Ok-Some.ensures.same.of_channels;
  jobs_are = c.tell.ensures.same.jobs_are ∙ c.in-Ok-Some.ensures.same.of_jobs;
}

pub returns-in-Ok-None-clause-same : goal.returns-in-Ok-None-clause-same
returns-in-Ok-None-clause-same g c = record {
  channels_lent = refl;
  jobs_lent = refl;
  wakes_lent = refl;
  channels_are = c.in-Ok-None.ensures.same.of_channels;
  jobs_are = c.in-Ok-None.ensures.same.of_jobs;
}

pub returns-in-Err-clause-same : goal.returns-in-Err-clause-same
returns-in-Err-clause-same g c = record {
  channels_lent = refl;
  jobs_lent = refl;
  wakes_lent = refl;
  channels_are = c.in-Err.ensures.same.of_channels;
  jobs_are = c.in-Err.ensures.same.of_jobs;
}
