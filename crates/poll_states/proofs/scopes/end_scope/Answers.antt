use Rattle.std.proofs.Common.{refl}
use Rattle.script_reader.specs.Scripts.{program_of}
use Rattle.poll_states.specs.Frames.{config_of}
use Rattle.poll_states.proofs.LineNeeds.{stands_build}
use Rattle.poll_states.proofs.Stepping.{cut_some}
use Rattle.poll_states.proofs.WaitsForEnds.{innermost_ends_here, top_is_innermost, scope_body_ended}
use Rattle.poll_states.proofs.scopes.end_scope.Goals as goal

pub end_and_receive-answer-requires-clause-may : goal.end_and_receive-answer-requires-clause-may
end_and_receive-answer-requires-clause-may g c = stands_build _ _ _ _ _ c.args.script.now.well_formed c.requires.stands c.first_done.ensures

pub end_and_receive-answer-requires-clause-own : goal.end_and_receive-answer-requires-clause-own
end_and_receive-answer-requires-clause-own g c = innermost_ends_here (program_of c.args.script.now) _ _ _ _
    (g.met.J.JobFloor.legal c.args.floors.now.jobs.now) c.requires.stands c.requires.at.stage
    (top_is_innermost c.args.frame.now.tag (config_of c.args.frame.now) c.args.scope c.requires.last)

pub returns-in-Ok-clause-came : goal.returns-in-Ok-clause-came
returns-in-Ok-clause-came g c = scope_body_ended (program_of c.args.script.now) _ _ _ _ _ _ c.first_done.ensures c.requires.stands
    c.requires.at c.requires.last c.in-Ok.ensures.answer c.in-Ok.ensures.same.who c.go_on_leaving.ensures.tag c.go_on_leaving.ensures.config
    c.go_on_leaving.ensures.items

pub returns-in-Err-clause-came : goal.returns-in-Err-clause-came
returns-in-Err-clause-came g c = cut_some _ _ _ refl c.in-Err.ensures.answer

pub returns-in-Ok-clause-same : goal.returns-in-Ok-clause-same
returns-in-Ok-clause-same g c = record {
  channels_lent = refl;
  jobs_lent = refl;
  wakes_lent = refl;
  channels_are = c.in-Ok.ensures.same.of_channels;
  jobs_are = c.in-Ok.ensures.same.of_jobs;
}

pub returns-in-Err-clause-same : goal.returns-in-Err-clause-same
returns-in-Err-clause-same g c = record {
  channels_lent = refl;
  jobs_lent = refl;
  wakes_lent = refl;
  channels_are = c.in-Err.ensures.same.of_channels;
  jobs_are = c.in-Err.ensures.same.of_jobs;
}
