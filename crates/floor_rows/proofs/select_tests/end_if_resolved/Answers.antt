use Rattle.floor_rows.proofs.WaitsBegun.{ready_seen}
use Rattle.floor_rows.proofs.select_tests.end_if_resolved.Goals as goal

pub dispatch-requires-clause-ready : goal.dispatch-requires-clause-ready
dispatch-requires-clause-ready g c =
    ready_seen _ _ _ _ (g.met.F.ChannelFloor.legal c.look.new.self) c.requires.own c.in-Resolved.ensures.answer
