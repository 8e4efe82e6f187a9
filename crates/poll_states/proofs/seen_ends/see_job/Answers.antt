use Rattle.std.proofs.Common.{refl, ap, arith, ◌∙◌}
use Rattle.script_reader.specs.Scripts.{program_of}
use Rattle.poll_states.proofs.Standing.{line_short}
use Rattle.poll_states.proofs.LineNeeds.{stands_build}
use Rattle.poll_states.proofs.Hearing.{told_first}
use Rattle.poll_states.proofs.Stepping.{cut_jobs}
use Rattle.poll_states.proofs.WaitsForEnds.{saw_job, not_yet_seen}
use Rattle.poll_states.proofs.EndsNamed.{awaits_named, seen_attached}
use Rattle.std.proofs.Common.{inl, inr}
use Rattle.poll_states.proofs.seen_ends.see_job.Goals as goal

pub awaited-row-requires : goal.awaited-row-requires
awaited-row-requires g c = awaits_named _ _ _ _ c.args.script.now.well_formed (g.met.J.JobFloor.legal c.args.floors.now.jobs.now)
    c.requires.stands c.requires.sees

pub seen_end-requires-clause-may : goal.seen_end-requires-clause-may
seen_end-requires-clause-may g c = stands_build _ _ _ _ _ c.args.script.now.well_formed c.requires.stands c.first_done.ensures

pub seen_end-requires-clause-row : goal.seen_end-requires-clause-row
seen_end-requires-clause-row g c = seen_attached (program_of c.args.script.now) _ _ _ _ (g.met.J.JobFloor.legal c.args.floors.now.jobs.now)
    c.requires.stands c.awaited-row.ensures

pub go_on_job_ended-requires : goal.go_on_job_ended-requires
go_on_job_ended-requires g c = let h = line_short c.args.script.now c.args.frame.now.tag _ _
    (awaits_named _ _ _ _ c.args.script.now.well_formed (g.met.J.JobFloor.legal c.args.floors.now.jobs.now) c.requires.stands
    c.requires.sees).line_is in omega (arith, h)

pub returns-in-Ok-Some-clause-came : goal.returns-in-Ok-Some-clause-came
returns-in-Ok-Some-clause-came g c = rw c.tell.ensures.jobs (inl (saw_job (program_of c.args.script.now) _ _ _ _ _ _
    (told_first (ap g.C.ChannelFloor.view c.in-Ok-Some.ensures.channels)
    c.requires.stands.on.of_channels (c.tell.ensures.told _)) (g.met.J.JobFloor.legal c.seen_end.new.self.jobs.now) c.requires.stands
    c.requires.sees c.awaited-row.ensures (rw c.in-Ok-Some.field-0-is at c.in-Ok-Some.ensures.answer) c.go_on_job_ended.ensures.tag
    c.go_on_job_ended.ensures.config c.go_on_job_ended.ensures.items))

pub returns-in-Ok-None-clause-came : goal.returns-in-Ok-None-clause-came
returns-in-Ok-None-clause-came g c = inr (not_yet_seen
    (ap g.C.ChannelFloor.view c.in-Ok-None.ensures.channels) c.awaited-row.ensures
    (rw c.in-Ok-None.field-0-is at c.in-Ok-None.ensures.answer).0 (rw c.in-Ok-None.field-0-is at c.in-Ok-None.ensures.answer).1 refl refl)

pub returns-in-Err-clause-came : goal.returns-in-Err-clause-came
returns-in-Err-clause-came g c = cut_jobs _ (ap g.C.ChannelFloor.view c.in-Err.ensures.channels) refl c.in-Err.ensures.answer

pub returns-in-Ok-Some-clause-same : goal.returns-in-Ok-Some-clause-same
returns-in-Ok-Some-clause-same g c = record {
  channels_lent = c.tell.ensures.same.channels_lent;
  jobs_lent = c.tell.ensures.same.jobs_lent;
  wakes_lent = c.tell.ensures.same.wakes_lent;
  channels_are = c.tell.ensures.same.channels_are ∙ c.in-Ok-Some.ensures.same.of_channels;
  jobs_are = c.tell.ensures.same.jobs_are ∙ c.in-Ok-Some.ensures.same.of_jobs;
}

pub returns-in-Ok-None-clause-same : goal.returns-in-Ok-None-clause-same
returns-in-Ok-None-clause-same g c = record {
  channels_lent = refl;
  jobs_lent = refl;
  wakes_lent = refl;
  channels_are = c.in-Ok-None.ensures.same.of_channels;
  jobs_are = c.in-Ok-None.ensures.same.of_jobs;
}

pub returns-in-Err-clause-same : goal.returns-in-Err-clause-same
returns-in-Err-clause-same g c = record {
  channels_lent = refl;
  jobs_lent = refl;
  wakes_lent = refl;
  channels_are = c.in-Err.ensures.same.of_channels;
  jobs_are = c.in-Err.ensures.same.of_jobs;
}
