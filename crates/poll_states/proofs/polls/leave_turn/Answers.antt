use Rattle.std.proofs.Common.{refl, ap, ◌∙◌}
use Rattle.script_reader.specs.Scripts.{program_of}
use Rattle.poll_states.proofs.EndedWaits.{call_looked}
use Rattle.poll_states.proofs.Moving.{step_stands}
use Rattle.poll_states.proofs.GoneOn.{poll_on, quiet_on, scope_waited, cut_scope_wait, leave_waits}
use Rattle.script_meaning.specs.Laws.{wait_of}
use Rattle.poll_states.proofs.Standing.{wait_call, waits_unsettled}
use Rattle.poll_states.proofs.polls.leave_turn.Goals as goal

pub was_resolved-requires-clause-can : goal.was_resolved-requires-clause-can
was_resolved-requires-clause-can g c = wait_call _ _ _ _ _ (g.met.C.ChannelFloor.legal c.args.floors.now.channels.now) c.requires.stands
    (ap wait_of c.requires.leaves)

pub was_resolved-requires-clause-holds : goal.was_resolved-requires-clause-holds
was_resolved-requires-clause-holds g c = waits_unsettled _ _ _ _ _ (g.met.C.ChannelFloor.legal c.args.floors.now.channels.now)
    c.requires.stands (ap wait_of c.requires.leaves)

pub end_scope_wait-requires-clause-can : goal.end_scope_wait-requires-clause-can
end_scope_wait-requires-clause-can g c = call_looked _ _ _ _ c.was_resolved.ensures.seen.looked
    (wait_call _ _ _ _ _ (g.met.C.ChannelFloor.legal c.args.floors.now.channels.now) c.requires.stands (ap wait_of c.requires.leaves))

pub go_on-requires : goal.go_on-requires
go_on-requires g c = step_stands c.requires.stands
    (rw (← c.hear.ensures.channels) at
    (scope_waited (program_of c.args.script.now) _ _ _ _ _ _ _ _ (g.met.C.ChannelFloor.legal c.was_resolved.new.channels)
    (g.met.J.JobFloor.legal c.hear.new.self.jobs.now) c.requires.stands c.requires.leaves c.was_resolved.ensures.seen.looked
    c.in-Ok.ensures.answer c.end_scope_wait.ensures.tag
    ((rw c.end_scope_wait.ensures.jobs at c.hear.ensures.heard) _ c.requires.stands.on.of_jobs)))

pub returns-in-Ok-clause-polled : goal.returns-in-Ok-clause-polled
returns-in-Ok-clause-polled g c = poll_on c.args.script.now _ c.go_on.result
    (g.met.J.JobFloor.legal c.go_on.new.floors.jobs.now) c.requires.stands
    (rw (← c.hear.ensures.channels) at
    (scope_waited (program_of c.args.script.now) _ _ _ _ _ _ _ _ (g.met.C.ChannelFloor.legal c.was_resolved.new.channels)
    (g.met.J.JobFloor.legal c.hear.new.self.jobs.now) c.requires.stands c.requires.leaves c.was_resolved.ensures.seen.looked
    c.in-Ok.ensures.answer c.end_scope_wait.ensures.tag
    ((rw c.end_scope_wait.ensures.jobs at c.hear.ensures.heard) _ c.requires.stands.on.of_jobs))) c.go_on.ensures.went

pub returns-in-Ok-clause-quiet : goal.returns-in-Ok-clause-quiet
returns-in-Ok-clause-quiet g c = quiet_on _ c.args.script.now _ c.go_on.result
    (g.met.J.JobFloor.legal c.go_on.new.floors.jobs.now) c.requires.stands
    (rw (← c.hear.ensures.channels) at
    (scope_waited (program_of c.args.script.now) _ _ _ _ _ _ _ _ (g.met.C.ChannelFloor.legal c.was_resolved.new.channels)
    (g.met.J.JobFloor.legal c.hear.new.self.jobs.now) c.requires.stands c.requires.leaves c.was_resolved.ensures.seen.looked
    c.in-Ok.ensures.answer c.end_scope_wait.ensures.tag
    ((rw c.end_scope_wait.ensures.jobs at c.hear.ensures.heard) _ c.requires.stands.on.of_jobs))) c.go_on.ensures.went

pub returns-in-Err-clause-polled : goal.returns-in-Err-clause-polled
returns-in-Err-clause-polled g c = cut_scope_wait _ _ _ c.was_resolved.ensures.seen.looked
    (ap g.J.JobFloor.view c.end_scope_wait.ensures.jobs) c.in-Err.ensures.answer c.end_scope_wait.ensures.tag

pub returns-else-was_resolved-clause-polled : goal.returns-else-was_resolved-clause-polled
returns-else-was_resolved-clause-polled g c = leave_waits _ _ _ _ _ _ _ (g.met.J.JobFloor.legal c.args.floors.now.jobs.now)
    c.requires.stands c.requires.leaves (rw c.if-was_resolved.false at c.was_resolved.ensures.seen) refl refl refl

pub returns-in-Ok-clause-same : goal.returns-in-Ok-clause-same
returns-in-Ok-clause-same g c = record {
  channels_lent = c.go_on.ensures.same.channels_lent ∙ c.hear.ensures.same.channels_lent ∙ c.end_scope_wait.ensures.same.channels_lent;
  jobs_lent = c.go_on.ensures.same.jobs_lent ∙ c.hear.ensures.same.jobs_lent ∙ c.end_scope_wait.ensures.same.jobs_lent;
  wakes_lent = c.go_on.ensures.same.wakes_lent ∙ c.hear.ensures.same.wakes_lent ∙ c.end_scope_wait.ensures.same.wakes_lent;
  channels_are = c.go_on.ensures.same.channels_are ∙ c.hear.ensures.same.channels_are ∙ c.end_scope_wait.ensures.same.channels_are ∙ c.was_resolved.ensures.anchor;
  jobs_are = c.go_on.ensures.same.jobs_are ∙ c.hear.ensures.same.jobs_are ∙ ap g.J.JobFloor.anchor c.end_scope_wait.ensures.jobs;
}

pub returns-in-Err-clause-same : goal.returns-in-Err-clause-same
returns-in-Err-clause-same g c = record {
  channels_lent = c.end_scope_wait.ensures.same.channels_lent;
  jobs_lent = c.end_scope_wait.ensures.same.jobs_lent;
  wakes_lent = c.end_scope_wait.ensures.same.wakes_lent;
  channels_are = c.end_scope_wait.ensures.same.channels_are ∙ c.was_resolved.ensures.anchor;
  jobs_are = ap g.J.JobFloor.anchor c.end_scope_wait.ensures.jobs;
}

pub returns-else-was_resolved-clause-same : goal.returns-else-was_resolved-clause-same
returns-else-was_resolved-clause-same g c = record {
  channels_lent = refl;
  jobs_lent = refl;
  wakes_lent = refl;
  channels_are = c.was_resolved.ensures.anchor;
  jobs_are = refl;
}
