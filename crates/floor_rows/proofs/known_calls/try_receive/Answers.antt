use Rattle.floor_rows.proofs.KnownLater.{tried_got_then}
use Rattle.floor_rows.proofs.known_calls.try_receive.Goals as goal

pub returns-clause-then : goal.returns-clause-then
returns-clause-then g c =
    tried_got_then c.args.known c.args.who (g.F.ChannelFloor.view c.args.floor.now) (g.F.ChannelFloor.view c.try_receive.new.self) c.try_receive.result
    (g.met.F.ChannelFloor.legal c.try_receive.new.self) c.requires.knows c.try_receive.ensures.answer
