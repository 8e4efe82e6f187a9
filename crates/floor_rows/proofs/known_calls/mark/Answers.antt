use Rattle.floor_rows.proofs.KnownLater.{marked_then}
use Rattle.floor_rows.proofs.known_calls.mark.Goals as goal

pub returns-clause-then : goal.returns-clause-then
returns-clause-then g c =
    marked_then c.args.known c.args.who c.mark.result (g.F.ChannelFloor.view c.args.floor.now) (g.F.ChannelFloor.view c.mark.new.self)
    (g.met.F.ChannelFloor.legal c.mark.new.self) c.requires.knows c.mark.ensures.answer
