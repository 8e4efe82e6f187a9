use Rattle.std.proofs.Common.{refl}
use Rattle.script_reader.specs.Scripts.{program_of}
use Rattle.poll_states.proofs.LineNeeds.{stands_build}
use Rattle.poll_states.proofs.Stepping.{cut_some}
use Rattle.poll_states.proofs.WaitsForEnds.{scope_owned, scope_reason, scope_body_broken}
use Rattle.poll_states.proofs.scopes.break_scope.Goals as goal

pub break_and_receive-requires-clause-may : goal.break_and_receive-requires-clause-may
break_and_receive-requires-clause-may g c = stands_build _ _ _ _ _ c.args.script.now.well_formed c.requires.stands c.first_done.ensures

pub break_and_receive-requires-clause-own : goal.break_and_receive-requires-clause-own
break_and_receive-requires-clause-own g c = scope_owned (program_of c.args.script.now) _ _ _ _ _
    (g.met.J.JobFloor.legal c.args.floors.now.jobs.now) c.requires.stands c.requires.unwinds c.requires.inside

pub break_and_receive-requires-clause-reason : goal.break_and_receive-requires-clause-reason
break_and_receive-requires-clause-reason g c = scope_reason (program_of c.args.script.now) _ _ _ _ _
    (g.met.J.JobFloor.legal c.args.floors.now.jobs.now) c.requires.stands c.requires.unwinds c.requires.inside

pub returns-in-Ok-clause-came : goal.returns-in-Ok-clause-came
returns-in-Ok-clause-came g c = scope_body_broken (program_of c.args.script.now) _ _ _ _ _ _ _ c.first_done.ensures
    (g.met.J.JobFloor.legal c.break_and_receive.new.builder.jobs.now) c.requires.stands c.requires.unwinds c.requires.inside
    c.in-Ok.ensures.answer c.in-Ok.ensures.same.who c.go_on_leaving.ensures.tag c.go_on_leaving.ensures.config c.go_on_leaving.ensures.items

pub returns-in-Err-clause-came : goal.returns-in-Err-clause-came
returns-in-Err-clause-came g c = cut_some _ _ _ refl c.in-Err.ensures.answer

pub returns-in-Ok-clause-same : goal.returns-in-Ok-clause-same
returns-in-Ok-clause-same g c = record {
  channels_lent = refl;
  jobs_lent = refl;
  wakes_lent = refl;
  channels_are = c.in-Ok.ensures.same.of_channels;
  jobs_are = c.in-Ok.ensures.same.of_jobs;
}

pub returns-in-Err-clause-same : goal.returns-in-Err-clause-same
returns-in-Err-clause-same g c = record {
  channels_lent = refl;
  jobs_lent = refl;
  wakes_lent = refl;
  channels_are = c.in-Err.ensures.same.of_channels;
  jobs_are = c.in-Err.ensures.same.of_jobs;
}
