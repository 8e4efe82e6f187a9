use Rattle.std.proofs.Common.{refl, ap}
use Rattle.script_reader.specs.Scripts.{program_of}
use Rattle.script_meaning.specs.Bodies.{is_over, is_fresh}
use Rattle.poll_states.proofs.Standing.{own_body, own_reason}
use Rattle.poll_states.proofs.LineNeeds.{stands_build}
use Rattle.poll_states.proofs.Stepping.{cut_some}
use Rattle.poll_states.proofs.JobLines.{has_broken}
use Rattle.poll_states.proofs.jobs.break_off.Goals as goal

pub break_job-requires-clause-may : goal.break_job-requires-clause-may
break_job-requires-clause-may g c = stands_build _ _ _ _ _ c.args.script.now.well_formed c.requires.stands c.first_done.ensures

pub break_job-requires-clause-own : goal.break_job-requires-clause-own
break_job-requires-clause-own g c = own_body _ _ _ _ (g.met.J.JobFloor.legal c.args.floors.now.jobs.now) c.requires.stands
    (ap is_fresh c.requires.unwinds) (ap is_over c.requires.unwinds)

pub break_job-requires-clause-reason : goal.break_job-requires-clause-reason
break_job-requires-clause-reason g c = own_reason _ _ _ _ _ (g.met.J.JobFloor.legal c.args.floors.now.jobs.now) c.requires.stands
    c.requires.no_scope c.requires.unwinds

pub returns-in-Ok-clause-came : goal.returns-in-Ok-clause-came
returns-in-Ok-clause-came g c = has_broken (program_of c.args.script.now) c.first_done.ensures
    (g.met.J.JobFloor.legal c.break_job.new.self.jobs.now) c.requires.stands c.requires.no_scope c.requires.unwinds c.in-Ok.ensures.answer
    refl refl

pub returns-in-Err-clause-came : goal.returns-in-Err-clause-came
returns-in-Err-clause-came g c = cut_some _ _ _ refl c.in-Err.ensures.answer

pub returns-in-Ok-clause-same : goal.returns-in-Ok-clause-same
returns-in-Ok-clause-same g c = record {
  channels_lent = refl;
  jobs_lent = refl;
  wakes_lent = refl;
  channels_are = c.in-Ok.ensures.same.of_channels;
  jobs_are = c.in-Ok.ensures.same.of_jobs;
}

pub returns-in-Err-clause-same : goal.returns-in-Err-clause-same
returns-in-Err-clause-same g c = record {
  channels_lent = refl;
  jobs_lent = refl;
  wakes_lent = refl;
  channels_are = c.in-Err.ensures.same.of_channels;
  jobs_are = c.in-Err.ensures.same.of_jobs;
}
