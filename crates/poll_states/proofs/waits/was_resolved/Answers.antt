use Rattle.poll_states.proofs.EndedWaits.{settle_ready, never_settled}
use Rattle.poll_states.proofs.waits.was_resolved.Goals as goal

pub unreachable-requires : goal.unreachable-requires
unreachable-requires g c = never_settled _ _ _ _ (g.met.C.ChannelFloor.legal c.look.new.self) c.requires.holds c.in-Settled.ensures.answer

pub returns-in-Resolved-clause-seen : goal.returns-in-Resolved-clause-seen
returns-in-Resolved-clause-seen g c = record {
  looked = c.in-Resolved.ensures.answer.0;
  so =
      settle_ready _ _ _ _ (g.met.C.ChannelFloor.legal c.look.new.self) c.requires.holds c.in-Resolved.ensures.answer;
}
