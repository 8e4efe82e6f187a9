use Rattle.std.proofs.Common.{refl, ap, sym, subst, ◌∙◌}
use Rattle.script_reader.specs.Scripts.{program_of}
use Rattle.script_meaning.specs.Configs.{Config}
use Rattle.script_meaning.specs.Bodies.{is_over, is_fresh, is_leaving}
use Rattle.script_meaning.specs.Laws.{wait_of}
use Rattle.poll_states.specs.Frames.{noted}
use Rattle.poll_states.specs.Steps.{HasBody}
use Rattle.poll_states.proofs.Standing.{stands_body, never_new, waits_unsettled, wait_call, wait_line}
use Rattle.poll_states.proofs.BothSeen.{seen_ready, callers_since, channels_since, state_since}
use Rattle.poll_states.proofs.EndedWaits.{holds_looked, call_looked, wait_ended, gave_up, cut_end, cut_given}
use Rattle.poll_states.proofs.Stepping.{cut_nothing}
use Rattle.poll_states.proofs.Turning.{polled_ready, polled_waits, step_quiet}
use Rattle.poll_states.proofs.Moving.{step_stands}
use Rattle.poll_states.proofs.GoneOn.{poll_on, quiet_on}
use Rattle.poll_states.proofs.polls.wait_turn.Goals as goal

pub returns-in-Err-clause-polled : goal.returns-in-Err-clause-polled
returns-in-Err-clause-polled g c = cut_nothing refl refl refl c.room.ensures.items

pub look_at_both-resolved-requires-clause-can : goal.look_at_both-resolved-requires-clause-can
look_at_both-resolved-requires-clause-can g c = wait_call _ _ _ _ _ (g.met.C.ChannelFloor.legal c.args.floors.now.channels.now)
    c.requires.stands (ap wait_of c.requires.waits)

pub look_at_both-resolved-requires-clause-holds : goal.look_at_both-resolved-requires-clause-holds
look_at_both-resolved-requires-clause-holds g c = waits_unsettled _ _ _ _ _ (g.met.C.ChannelFloor.legal c.args.floors.now.channels.now)
    c.requires.stands (ap wait_of c.requires.waits)

pub look_at_both-resolved-requires-clause-body : goal.look_at_both-resolved-requires-clause-body
look_at_both-resolved-requires-clause-body g c =
    subst (λ r. HasBody c.args.frame.now.tag r (g.J.JobFloor.view c.args.floors.now.jobs.now)) (sym c.innermost-row.ensures)
    (stands_body _ _ _ _ (g.met.J.JobFloor.legal c.args.floors.now.jobs.now) c.requires.stands (ap is_fresh c.requires.waits)
    (ap is_leaving c.requires.waits) (ap is_over c.requires.waits))

pub unreachable-requires : goal.unreachable-requires
unreachable-requires g c = never_new _ _ _ _ _ (g.met.J.JobFloor.legal c.args.floors.now.jobs.now)
    (g.met.J.JobFloor.legal c.look_at_both-resolved.new.floors.jobs.now) c.requires.stands (ap is_fresh c.requires.waits)
    (rw c.innermost-row.ensures at (rw c.in-NotStarted.is at (state_since c.look_at_both-resolved.ensures.seen)))

pub give_up-requires-clause-can : goal.give_up-requires-clause-can
give_up-requires-clause-can g c = call_looked _ _ _ _ (channels_since c.look_at_both-resolved.ensures.seen)
    (wait_call _ _ _ _ _ (g.met.C.ChannelFloor.legal c.args.floors.now.channels.now) c.requires.stands (ap wait_of c.requires.waits))

pub give_up-requires-clause-holds : goal.give_up-requires-clause-holds
give_up-requires-clause-holds g c = holds_looked _ _ _ _ (g.met.C.ChannelFloor.legal c.look_at_both-resolved.new.floors.channels.now)
    (channels_since c.look_at_both-resolved.ensures.seen)
    (waits_unsettled _ _ _ _ _ (g.met.C.ChannelFloor.legal c.args.floors.now.channels.now) c.requires.stands (ap wait_of c.requires.waits))

pub give_up-requires-clause-ready : goal.give_up-requires-clause-ready
give_up-requires-clause-ready g c = λ resolved.
    seen_ready (g.met.C.ChannelFloor.legal c.look_at_both-resolved.new.floors.channels.now) c.look_at_both-resolved.ensures.seen resolved

pub end_wait-requires-clause-can : goal.end_wait-requires-clause-can
end_wait-requires-clause-can g c = call_looked _ _ _ _ (channels_since c.look_at_both-resolved.ensures.seen)
    (wait_call _ _ _ _ _ (g.met.C.ChannelFloor.legal c.args.floors.now.channels.now) c.requires.stands (ap wait_of c.requires.waits))

pub end_wait-requires-clause-ready : goal.end_wait-requires-clause-ready
end_wait-requires-clause-ready g c =
    seen_ready (g.met.C.ChannelFloor.legal c.look_at_both-resolved.new.floors.channels.now) c.look_at_both-resolved.ensures.seen
    c.if-resolved.true

pub end_wait-requires-clause-line : goal.end_wait-requires-clause-line
end_wait-requires-clause-line g c = wait_line _ _ _ _ _ c.requires.stands c.requires.waits

pub returns-in-Ok-clause-polled : goal.returns-in-Ok-clause-polled
returns-in-Ok-clause-polled g c = rw c.hear.ensures.channels
    (polled_ready c.requires.stands (gave_up (program_of c.args.script.now) _ _ _ _
    (record (noted g.B.NoteBook.items c.args.frame.now) { book = g.B.NoteBook.items c.room.new.self }) _ _
    (g.met.J.JobFloor.legal c.hear.new.self.jobs.now) c.requires.waits c.innermost-row.ensures
    (rw c.in-Cancelling.is at c.look_at_both-resolved.ensures.seen) refl refl c.room.ensures.items c.in-Ok.ensures.answer
    c.give_up.ensures.tag
    c.give_up.ensures.config ((rw c.give_up.ensures.jobs at c.hear.ensures.heard) _
    (callers_since c.look_at_both-resolved.ensures.seen c.requires.stands.on.of_jobs)))
    (ap (λ (x : Config). x.stage) c.give_up.ensures.config) refl)

pub returns-in-Ok-clause-quiet : goal.returns-in-Ok-clause-quiet
returns-in-Ok-clause-quiet g c = step_quiet c.args.script.now.well_formed c.requires.stands
    (gave_up (program_of c.args.script.now) _ _ _ _ (record (noted g.B.NoteBook.items c.args.frame.now)
    { book = g.B.NoteBook.items c.room.new.self }) _ _ (g.met.J.JobFloor.legal c.hear.new.self.jobs.now) c.requires.waits
    c.innermost-row.ensures (rw c.in-Cancelling.is at c.look_at_both-resolved.ensures.seen) refl refl
    c.room.ensures.items c.in-Ok.ensures.answer c.give_up.ensures.tag c.give_up.ensures.config
    ((rw c.give_up.ensures.jobs at c.hear.ensures.heard) _
    (callers_since c.look_at_both-resolved.ensures.seen c.requires.stands.on.of_jobs)))

pub returns-in-Err-give_up-clause-polled : goal.returns-in-Err-give_up-clause-polled
returns-in-Err-give_up-clause-polled g c = rw c.give_up.ensures.jobs
    (cut_given _ _ _ _ _ (channels_since c.look_at_both-resolved.ensures.seen) (state_since c.look_at_both-resolved.ensures.seen).looked
    refl
    c.room.ensures.items c.in-Err-give_up.ensures.answer c.give_up.ensures.tag)

pub go_on-requires : goal.go_on-requires
go_on-requires g c = step_stands c.requires.stands (rw (← c.hear-in-Ok-end_wait.ensures.channels) at
    (wait_ended (program_of c.args.script.now) c.args.script.now.well_formed
    (g.met.C.ChannelFloor.legal c.look_at_both-resolved.new.floors.channels.now)
    (g.met.J.JobFloor.legal c.hear-in-Ok-end_wait.new.self.jobs.now)
    c.requires.stands c.requires.waits
    (rw c.if-resolved.true at (rw c.innermost-row.ensures at (rw c.in-MayRun.is at c.look_at_both-resolved.ensures.seen))) refl refl
    c.room.ensures.items c.in-Ok-end_wait.ensures.answer c.end_wait.ensures.tag
    ((rw c.end_wait.ensures.jobs at c.hear-in-Ok-end_wait.ensures.heard) _
    (callers_since c.look_at_both-resolved.ensures.seen c.requires.stands.on.of_jobs))).0)

pub returns-in-Ok-end_wait-clause-polled : goal.returns-in-Ok-end_wait-clause-polled
returns-in-Ok-end_wait-clause-polled g c = poll_on c.args.script.now _ c.go_on.result
    (g.met.J.JobFloor.legal c.go_on.new.floors.jobs.now) c.requires.stands (rw (← c.hear-in-Ok-end_wait.ensures.channels) at
    (wait_ended (program_of c.args.script.now) c.args.script.now.well_formed
    (g.met.C.ChannelFloor.legal c.look_at_both-resolved.new.floors.channels.now)
    (g.met.J.JobFloor.legal c.hear-in-Ok-end_wait.new.self.jobs.now)
    c.requires.stands c.requires.waits
    (rw c.if-resolved.true at (rw c.innermost-row.ensures at (rw c.in-MayRun.is at c.look_at_both-resolved.ensures.seen))) refl refl
    c.room.ensures.items c.in-Ok-end_wait.ensures.answer c.end_wait.ensures.tag
    ((rw c.end_wait.ensures.jobs at c.hear-in-Ok-end_wait.ensures.heard) _
    (callers_since c.look_at_both-resolved.ensures.seen c.requires.stands.on.of_jobs))).0) c.go_on.ensures.went

pub returns-in-Ok-end_wait-clause-quiet : goal.returns-in-Ok-end_wait-clause-quiet
returns-in-Ok-end_wait-clause-quiet g c = quiet_on _ c.args.script.now _ c.go_on.result (g.met.J.JobFloor.legal c.go_on.new.floors.jobs.now)
    c.requires.stands (rw (← c.hear-in-Ok-end_wait.ensures.channels) at
    (wait_ended (program_of c.args.script.now) c.args.script.now.well_formed
    (g.met.C.ChannelFloor.legal c.look_at_both-resolved.new.floors.channels.now)
    (g.met.J.JobFloor.legal c.hear-in-Ok-end_wait.new.self.jobs.now)
    c.requires.stands c.requires.waits
    (rw c.if-resolved.true at (rw c.innermost-row.ensures at (rw c.in-MayRun.is at c.look_at_both-resolved.ensures.seen))) refl refl
    c.room.ensures.items c.in-Ok-end_wait.ensures.answer c.end_wait.ensures.tag
    ((rw c.end_wait.ensures.jobs at c.hear-in-Ok-end_wait.ensures.heard) _
    (callers_since c.look_at_both-resolved.ensures.seen c.requires.stands.on.of_jobs))).0) c.go_on.ensures.went

pub returns-in-Err-end_wait-clause-polled : goal.returns-in-Err-end_wait-clause-polled
returns-in-Err-end_wait-clause-polled g c = rw c.end_wait.ensures.jobs
    (cut_end _ _ _ _ (channels_since c.look_at_both-resolved.ensures.seen) (state_since c.look_at_both-resolved.ensures.seen).looked
    c.room.ensures.items
    c.in-Err-end_wait.ensures.answer c.end_wait.ensures.tag)

pub returns-else-resolved-clause-polled : goal.returns-else-resolved-clause-polled
returns-else-resolved-clause-polled g c =
    polled_waits (g.met.J.JobFloor.legal c.look_at_both-resolved.new.floors.jobs.now) c.requires.stands c.requires.waits
    (rw c.if-resolved.false at (rw c.innermost-row.ensures at (rw c.in-MayRun.is at c.look_at_both-resolved.ensures.seen))) refl refl
    c.room.ensures.items

pub returns-in-Ok-clause-same : goal.returns-in-Ok-clause-same
returns-in-Ok-clause-same g c = record {
  channels_lent = c.hear.ensures.same.channels_lent ∙ c.give_up.ensures.same.channels_lent ∙ c.look_at_both-resolved.ensures.same.channels_lent;
  jobs_lent = c.hear.ensures.same.jobs_lent ∙ c.give_up.ensures.same.jobs_lent ∙ c.look_at_both-resolved.ensures.same.jobs_lent;
  wakes_lent = c.hear.ensures.same.wakes_lent ∙ c.give_up.ensures.same.wakes_lent ∙ c.look_at_both-resolved.ensures.same.wakes_lent;
  channels_are = c.hear.ensures.same.channels_are ∙ c.give_up.ensures.same.channels_are ∙ c.look_at_both-resolved.ensures.same.channels_are;
  jobs_are = c.hear.ensures.same.jobs_are ∙ ap g.J.JobFloor.anchor c.give_up.ensures.jobs ∙ c.look_at_both-resolved.ensures.same.jobs_are;
}

pub returns-in-Err-give_up-clause-same : goal.returns-in-Err-give_up-clause-same
returns-in-Err-give_up-clause-same g c = record {
  channels_lent = c.give_up.ensures.same.channels_lent ∙ c.look_at_both-resolved.ensures.same.channels_lent;
  jobs_lent = c.give_up.ensures.same.jobs_lent ∙ c.look_at_both-resolved.ensures.same.jobs_lent;
  wakes_lent = c.give_up.ensures.same.wakes_lent ∙ c.look_at_both-resolved.ensures.same.wakes_lent;
  channels_are = c.give_up.ensures.same.channels_are ∙ c.look_at_both-resolved.ensures.same.channels_are;
  jobs_are = ap g.J.JobFloor.anchor c.give_up.ensures.jobs ∙ c.look_at_both-resolved.ensures.same.jobs_are;
}

pub returns-in-Ok-end_wait-clause-same : goal.returns-in-Ok-end_wait-clause-same
returns-in-Ok-end_wait-clause-same g c = record {
  channels_lent = c.go_on.ensures.same.channels_lent ∙ c.hear-in-Ok-end_wait.ensures.same.channels_lent ∙ c.end_wait.ensures.same.channels_lent ∙ c.look_at_both-resolved.ensures.same.channels_lent;
  jobs_lent = c.go_on.ensures.same.jobs_lent ∙ c.hear-in-Ok-end_wait.ensures.same.jobs_lent ∙ c.end_wait.ensures.same.jobs_lent ∙ c.look_at_both-resolved.ensures.same.jobs_lent;
  wakes_lent = c.go_on.ensures.same.wakes_lent ∙ c.hear-in-Ok-end_wait.ensures.same.wakes_lent ∙ c.end_wait.ensures.same.wakes_lent ∙ c.look_at_both-resolved.ensures.same.wakes_lent;
  channels_are = c.go_on.ensures.same.channels_are ∙ c.hear-in-Ok-end_wait.ensures.same.channels_are ∙ c.end_wait.ensures.same.channels_are ∙ c.look_at_both-resolved.ensures.same.channels_are;
  jobs_are = c.go_on.ensures.same.jobs_are ∙ c.hear-in-Ok-end_wait.ensures.same.jobs_are ∙ ap g.J.JobFloor.anchor c.end_wait.ensures.jobs ∙ c.look_at_both-resolved.ensures.same.jobs_are;
}

pub returns-in-Err-end_wait-clause-same : goal.returns-in-Err-end_wait-clause-same
returns-in-Err-end_wait-clause-same g c = record {
  channels_lent = c.end_wait.ensures.same.channels_lent ∙ c.look_at_both-resolved.ensures.same.channels_lent;
  jobs_lent = c.end_wait.ensures.same.jobs_lent ∙ c.look_at_both-resolved.ensures.same.jobs_lent;
  wakes_lent = c.end_wait.ensures.same.wakes_lent ∙ c.look_at_both-resolved.ensures.same.wakes_lent;
  channels_are = c.end_wait.ensures.same.channels_are ∙ c.look_at_both-resolved.ensures.same.channels_are;
  jobs_are = ap g.J.JobFloor.anchor c.end_wait.ensures.jobs ∙ c.look_at_both-resolved.ensures.same.jobs_are;
}

pub returns-else-resolved-clause-same : goal.returns-else-resolved-clause-same
returns-else-resolved-clause-same g c = c.look_at_both-resolved.ensures.same
