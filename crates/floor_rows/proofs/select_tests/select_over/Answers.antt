use Rattle.floor_rows.proofs.SelectsOwnWaits.{may_select, waiting_leaves}
use Rattle.floor_rows.proofs.select_tests.select_over.Goals as goal

pub select_poll-requires-clause-may : goal.select_poll-requires-clause-may
select_poll-requires-clause-may g c = may_select _ c.requires.caller c.requires.channels

pub end_if_resolved-requires-clause-own : goal.end_if_resolved-requires-clause-own
end_if_resolved-requires-clause-own g c =
    (waiting_leaves _ _ _ _ _ _ _ c.select_poll.ensures.same.who c.in-Ok-Waiting.field-0-is
    (g.met.F.ChannelFloor.legal c.select_poll.new.x.floor.now) c.in-Ok-Waiting.ensures.answer (cc)).own
