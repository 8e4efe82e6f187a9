use Rattle.std.proofs.Common.{refl, ap, sym, subst, arith, ◌∙◌}
use Rattle.script_reader.specs.Scripts.{program_of}
use Rattle.script_meaning.specs.Bodies.{is_over, is_fresh, is_leaving}
use Rattle.poll_states.specs.Steps.{HasBody}
use Rattle.poll_states.proofs.Standing.{line_short, stands_body, never_new}
use Rattle.poll_states.proofs.LineNeeds.{note_after}
use Rattle.poll_states.proofs.Stepping.{cut_nothing}
use Rattle.poll_states.proofs.JobLines.{stopped, yielded}
use Rattle.poll_states.proofs.jobs.look_up.Goals as goal

pub returns-in-Err-clause-came : goal.returns-in-Err-clause-came
returns-in-Err-clause-came g c = cut_nothing refl refl refl c.room.ensures.items

pub own_state-state-requires : goal.own_state-state-requires
own_state-state-requires g c =
    subst (λ r. HasBody c.args.frame.now.tag r (g.J.JobFloor.view c.args.floors.now.jobs.now)) (sym c.innermost-row.ensures)
    (stands_body _ _ _ _ (g.met.J.JobFloor.legal c.args.floors.now.jobs.now) c.requires.stands (ap is_fresh c.requires.at.stage)
    (ap is_leaving c.requires.at.stage) (ap is_over c.requires.at.stage))

pub unreachable-requires : goal.unreachable-requires
unreachable-requires g c = never_new _ _ _ _ _ (g.met.J.JobFloor.legal c.args.floors.now.jobs.now)
    (g.met.J.JobFloor.legal c.own_state-state.new.jobs) c.requires.stands (ap is_fresh c.requires.at.stage)
    (rw c.innermost-row.ensures at (rw c.in-NotStarted.is at c.own_state-state.ensures.seen))

pub next_line-requires : goal.next_line-requires
next_line-requires g c = let h = line_short c.args.script.now c.args.frame.now.tag _ _ c.requires.at.line_is in omega (arith, h)

pub returns-in-Cancelling-clause-came : goal.returns-in-Cancelling-clause-came
returns-in-Cancelling-clause-came g c = rw c.tell.ensures.jobs (stopped (program_of c.args.script.now) _ _ _ _ _ _
    (c.tell.ensures.told _ c.requires.stands.on.of_channels) (g.met.J.JobFloor.legal c.own_state-state.new.jobs)
    c.requires.at (rw c.innermost-row.ensures at (rw c.in-Cancelling.is at c.own_state-state.ensures.seen)) c.see_cancelling.ensures.tag
    c.see_cancelling.ensures.config
    (note_after _ _ _ _ (rw c.innermost-row.ensures at c.see_cancelling.ensures.items) c.room.ensures.items))

pub returns-in-MayRun-clause-came : goal.returns-in-MayRun-clause-came
returns-in-MayRun-clause-came g c = rw c.tell-in-MayRun.ensures.jobs (yielded (program_of c.args.script.now) _ _ _ _ _ _
    (c.tell-in-MayRun.ensures.told _ c.requires.stands.on.of_channels) (g.met.J.JobFloor.legal c.own_state-state.new.jobs)
    c.requires.at (rw c.innermost-row.ensures at (rw c.in-MayRun.is at c.own_state-state.ensures.seen)) c.next_line.ensures.tag
    c.next_line.ensures.config (c.next_line.ensures.items ∙ c.room.ensures.items))

pub returns-in-Cancelling-clause-same : goal.returns-in-Cancelling-clause-same
returns-in-Cancelling-clause-same g c = record {
  channels_lent = c.tell.ensures.same.channels_lent;
  jobs_lent = c.tell.ensures.same.jobs_lent;
  wakes_lent = c.tell.ensures.same.wakes_lent;
  channels_are = c.tell.ensures.same.channels_are;
  jobs_are = c.tell.ensures.same.jobs_are ∙ c.own_state-state.ensures.anchor;
}

pub returns-in-MayRun-clause-same : goal.returns-in-MayRun-clause-same
returns-in-MayRun-clause-same g c = record {
  channels_lent = c.tell-in-MayRun.ensures.same.channels_lent;
  jobs_lent = c.tell-in-MayRun.ensures.same.jobs_lent;
  wakes_lent = c.tell-in-MayRun.ensures.same.wakes_lent;
  channels_are = c.tell-in-MayRun.ensures.same.channels_are;
  jobs_are = c.tell-in-MayRun.ensures.same.jobs_are ∙ c.own_state-state.ensures.anchor;
}
