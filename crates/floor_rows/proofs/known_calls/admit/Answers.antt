use Rattle.floor_rows.proofs.KnownLater.{admitted_then}
use Rattle.floor_rows.proofs.known_calls.admit.Goals as goal

pub returns-clause-then : goal.returns-clause-then
returns-clause-then g c =
    admitted_then c.args.known c.args.who c.args.mark (g.F.ChannelFloor.view c.args.floor.now) (g.F.ChannelFloor.view c.admit.new.self) c.admit.result
    (g.met.F.ChannelFloor.legal c.admit.new.self) c.requires.knows c.admit.ensures.answer
