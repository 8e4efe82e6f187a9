use Rattle.std.proofs.Common.{◌∙◌}
use Rattle.poll_states.proofs.Moving.{step_stands}
use Rattle.poll_states.proofs.GoneOn.{poll_on, quiet_on}
use Rattle.poll_states.proofs.polls.last_turn.Goals as goal

pub go_on-requires : goal.go_on-requires
go_on-requires g c = step_stands c.requires.stands c.in-Ok.ensures.came

pub returns-in-Ok-clause-polled : goal.returns-in-Ok-clause-polled
returns-in-Ok-clause-polled g c = poll_on c.args.script.now _ c.go_on.result
    (g.met.J.JobFloor.legal c.go_on.new.floors.jobs.now) c.requires.stands c.in-Ok.ensures.came c.go_on.ensures.went

pub returns-in-Ok-clause-quiet : goal.returns-in-Ok-clause-quiet
returns-in-Ok-clause-quiet g c = quiet_on _ c.args.script.now _ c.go_on.result
    (g.met.J.JobFloor.legal c.go_on.new.floors.jobs.now) c.requires.stands c.in-Ok.ensures.came c.go_on.ensures.went

pub returns-in-Ok-clause-same : goal.returns-in-Ok-clause-same
returns-in-Ok-clause-same g c = record {
  channels_lent = c.go_on.ensures.same.channels_lent ∙ c.in-Ok.ensures.same.channels_lent;
  jobs_lent = c.go_on.ensures.same.jobs_lent ∙ c.in-Ok.ensures.same.jobs_lent;
  wakes_lent = c.go_on.ensures.same.wakes_lent ∙ c.in-Ok.ensures.same.wakes_lent;
  channels_are = c.go_on.ensures.same.channels_are ∙ c.in-Ok.ensures.same.channels_are;
  jobs_are = c.go_on.ensures.same.jobs_are ∙ c.in-Ok.ensures.same.jobs_are;
}

pub returns-in-Err-clause-same : goal.returns-in-Err-clause-same
returns-in-Err-clause-same g c = c.in-Err.ensures.same
