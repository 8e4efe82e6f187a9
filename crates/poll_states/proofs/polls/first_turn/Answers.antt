use Rattle.std.proofs.Common.{refl, ap, ◌∙◌}
use Rattle.script_reader.specs.Scripts.{program_of}
use Rattle.script_meaning.specs.Configs.{Config}
use Rattle.script_meaning.specs.Bodies.{is_over}
use Rattle.poll_states.proofs.Standing.{fresh_body}
use Rattle.poll_states.proofs.LineNeeds.{note_after}
use Rattle.poll_states.proofs.Moving.{step_stands}
use Rattle.poll_states.proofs.Stepping.{cut_nothing}
use Rattle.poll_states.proofs.JobLines.{never_begun}
use Rattle.poll_states.proofs.Turning.{polled_idle, polled_ready, first_stands, cut_first}
use Rattle.poll_states.proofs.GoneOn.{poll_first_on, quiet_first_on}
use Rattle.poll_states.proofs.polls.first_turn.Goals as goal

pub returns-in-Err-clause-polled : goal.returns-in-Err-clause-polled
returns-in-Err-clause-polled g c = cut_nothing refl refl refl c.room.ensures.items

pub own_state-requires : goal.own_state-requires
own_state-requires g c = fresh_body _ _ _ _ (g.met.J.JobFloor.legal c.args.floors.now.jobs.now) c.requires.stands
    (ap is_over c.requires.fresh)

pub run-requires-clause-stands : goal.run-requires-clause-stands
run-requires-clause-stands g c = rw c.tell-in-MayRun.ensures.jobs (first_stands (program_of c.args.script.now) _ _ _ _ _ _
    (c.tell-in-MayRun.ensures.told _ c.requires.stands.on.of_channels) (g.met.J.JobFloor.legal c.own_state.new.jobs)
    c.requires.stands c.requires.fresh (rw c.in-MayRun.is at c.own_state.ensures.seen) refl refl c.room.ensures.items)

pub go_on-requires : goal.go_on-requires
go_on-requires g c = step_stands (rw c.tell-in-MayRun.ensures.jobs (first_stands (program_of c.args.script.now) _ _ _ _ _ _
    (c.tell-in-MayRun.ensures.told _ c.requires.stands.on.of_channels)
    (g.met.J.JobFloor.legal c.own_state.new.jobs) c.requires.stands c.requires.fresh (rw c.in-MayRun.is at c.own_state.ensures.seen) refl
    refl c.room.ensures.items)) c.in-Ok.ensures.came

pub returns-in-NotStarted-clause-polled : goal.returns-in-NotStarted-clause-polled
returns-in-NotStarted-clause-polled g c = polled_idle _ _ _ _ _ _ (g.met.J.JobFloor.legal c.own_state.new.jobs) c.requires.stands
    c.requires.fresh (rw c.in-NotStarted.is at c.own_state.ensures.seen) refl refl c.room.ensures.items

pub returns-in-Cancelling-clause-polled : goal.returns-in-Cancelling-clause-polled
returns-in-Cancelling-clause-polled g c = rw c.tell.ensures.jobs
    (polled_ready c.requires.stands
    (never_begun (program_of c.args.script.now) _ _ _ _ _ _ (c.tell.ensures.told _ c.requires.stands.on.of_channels)
    (g.met.J.JobFloor.legal c.own_state.new.jobs) c.requires.fresh
    (rw c.in-Cancelling.is at c.own_state.ensures.seen) c.see_cancelling.ensures.tag c.see_cancelling.ensures.config
    (note_after _ _ _ _ c.see_cancelling.ensures.items c.room.ensures.items))
    (ap (λ (x : Config). x.stage) c.see_cancelling.ensures.config) refl)

pub returns-in-Ok-clause-polled : goal.returns-in-Ok-clause-polled
returns-in-Ok-clause-polled g c = poll_first_on c.args.script.now _ c.go_on.result (g.met.J.JobFloor.legal c.go_on.new.floors.jobs.now)
    c.requires.stands c.in-Ok.ensures.came c.go_on.ensures.went
    (record {
      heard = rw c.tell-in-MayRun.ensures.jobs (c.tell-in-MayRun.ensures.told _ c.requires.stands.on.of_channels);
      legal = g.met.J.JobFloor.legal c.tell-in-MayRun.new.self.jobs.now;
      fresh = c.requires.fresh;
      runs = rw c.tell-in-MayRun.ensures.jobs (rw c.in-MayRun.is at c.own_state.ensures.seen);
      tag = refl;
      config = refl;
      items = c.room.ensures.items;
    })

pub returns-in-Ok-clause-quiet : goal.returns-in-Ok-clause-quiet
returns-in-Ok-clause-quiet g c = quiet_first_on _ c.args.script.now _ c.go_on.result (g.met.J.JobFloor.legal c.go_on.new.floors.jobs.now)
    c.requires.stands c.in-Ok.ensures.came c.go_on.ensures.went
    (record {
      heard = rw c.tell-in-MayRun.ensures.jobs (c.tell-in-MayRun.ensures.told _ c.requires.stands.on.of_channels);
      legal = g.met.J.JobFloor.legal c.tell-in-MayRun.new.self.jobs.now;
      fresh = c.requires.fresh;
      runs = rw c.tell-in-MayRun.ensures.jobs (rw c.in-MayRun.is at c.own_state.ensures.seen);
      tag = refl;
      config = refl;
      items = c.room.ensures.items;
    })

pub returns-in-Err-run-clause-polled : goal.returns-in-Err-run-clause-polled
returns-in-Err-run-clause-polled g c = cut_first
    (rw c.tell-in-MayRun.ensures.jobs (rw c.in-MayRun.is at c.own_state.ensures.seen))
    (rw c.tell-in-MayRun.ensures.jobs (c.tell-in-MayRun.ensures.told _ c.requires.stands.on.of_channels)) refl c.room.ensures.items
    c.in-Err-run.ensures.came

pub returns-in-Cancelling-clause-same : goal.returns-in-Cancelling-clause-same
returns-in-Cancelling-clause-same g c = record {
  channels_lent = c.tell.ensures.same.channels_lent;
  jobs_lent = c.tell.ensures.same.jobs_lent;
  wakes_lent = c.tell.ensures.same.wakes_lent;
  channels_are = c.tell.ensures.same.channels_are;
  jobs_are = c.tell.ensures.same.jobs_are ∙ c.own_state.ensures.anchor;
}

pub returns-in-Ok-clause-same : goal.returns-in-Ok-clause-same
returns-in-Ok-clause-same g c = record {
  channels_lent = c.go_on.ensures.same.channels_lent ∙ c.in-Ok.ensures.same.channels_lent ∙ c.tell-in-MayRun.ensures.same.channels_lent;
  jobs_lent = c.go_on.ensures.same.jobs_lent ∙ c.in-Ok.ensures.same.jobs_lent ∙ c.tell-in-MayRun.ensures.same.jobs_lent;
  wakes_lent = c.go_on.ensures.same.wakes_lent ∙ c.in-Ok.ensures.same.wakes_lent ∙ c.tell-in-MayRun.ensures.same.wakes_lent;
  channels_are = c.go_on.ensures.same.channels_are ∙ c.in-Ok.ensures.same.channels_are ∙ c.tell-in-MayRun.ensures.same.channels_are;
  jobs_are = c.go_on.ensures.same.jobs_are ∙ c.in-Ok.ensures.same.jobs_are ∙ c.tell-in-MayRun.ensures.same.jobs_are ∙ c.own_state.ensures.anchor;
}

pub returns-in-Err-run-clause-same : goal.returns-in-Err-run-clause-same
returns-in-Err-run-clause-same g c = record {
  channels_lent = c.in-Err-run.ensures.same.channels_lent ∙ c.tell-in-MayRun.ensures.same.channels_lent;
  jobs_lent = c.in-Err-run.ensures.same.jobs_lent ∙ c.tell-in-MayRun.ensures.same.jobs_lent;
  wakes_lent = c.in-Err-run.ensures.same.wakes_lent ∙ c.tell-in-MayRun.ensures.same.wakes_lent;
  channels_are = c.in-Err-run.ensures.same.channels_are ∙ c.tell-in-MayRun.ensures.same.channels_are;
  jobs_are = c.in-Err-run.ensures.same.jobs_are ∙ c.tell-in-MayRun.ensures.same.jobs_are ∙ c.own_state.ensures.anchor;
}

pub returns-in-NotStarted-clause-same : goal.returns-in-NotStarted-clause-same
returns-in-NotStarted-clause-same g c = record {
  channels_lent = refl;
  jobs_lent = refl;
  wakes_lent = refl;
  channels_are = refl;
  jobs_are = c.own_state.ensures.anchor;
}
