use Rattle.floor_rows.proofs.KnownLater.{unmade, drained_then}
use Rattle.floor_rows.proofs.known_calls.drain.Goals as goal

pub returns-then-not-known-clause-then : goal.returns-then-not-known-clause-then
returns-then-not-known-clause-then g c = unmade c.args.known (g.F.ChannelFloor.view c.args.floor.now) c.requires.knows

pub returns-clause-then : goal.returns-clause-then
returns-clause-then g c =
    drained_then c.args.known c.args.who (g.F.ChannelFloor.view c.args.floor.now) (g.F.ChannelFloor.view c.drain.new.self) c.drain.result
    (g.met.F.ChannelFloor.legal c.drain.new.self) c.requires.knows c.drain.ensures.answer
