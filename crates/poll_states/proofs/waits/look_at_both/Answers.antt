use Rattle.std.proofs.Common.{ℕ, Bool, ap, ◌∙◌}
use Rattle.poll_states.proofs.Hearing.{told_first}
use Rattle.poll_states.proofs.BothSeen.{body_looked}
use Rattle.poll_states.proofs.waits.look_at_both.Goals as goal

pub own_state-state-requires : goal.own_state-state-requires
own_state-state-requires g c = body_looked _ _ _ _ (g.met.J.JobFloor.legal c.hear.new.self.jobs.now)
    (c.hear.ensures.heard _ c.requires.body.at.caller).looked c.requires.body

pub returns-clause-seen : goal.returns-clause-seen
returns-clause-seen g c = record {
  channels = g.C.ChannelFloor.view c.was_resolved-resolved.new.channels;
  jobs = g.J.JobFloor.view c.hear.new.self.jobs.now;
  wait = c.was_resolved-resolved.ensures.seen;
  heard = c.hear.ensures.heard _ c.requires.body.at.caller;
  job = rw c.tell.ensures.jobs c.own_state-state.ensures.seen;
  told = rw c.tell.ensures.jobs (told_first c.hear.ensures.channels
      (ap (λ (t : ℕ → Bool). t c.args.who) c.was_resolved-resolved.ensures.seen.looked.same.callers ∙ c.requires.can.caller)
      (c.tell.ensures.told _));
}
