use Rattle.floor_rows.proofs.KnownLater.{unmade, woken_then}
use Rattle.floor_rows.proofs.known_calls.wake.Goals as goal

pub returns-then-not-known-clause-then : goal.returns-then-not-known-clause-then
returns-then-not-known-clause-then g c = unmade c.args.known (g.F.ChannelFloor.view c.args.floor.now) c.requires.knows

pub returns-clause-then : goal.returns-clause-then
returns-clause-then g c =
    woken_then c.args.known c.args.who (g.F.ChannelFloor.view c.args.floor.now) (g.F.ChannelFloor.view c.wake_closed.new.self) c.wake_closed.result
    (g.met.F.ChannelFloor.legal c.wake_closed.new.self) c.requires.knows c.wake_closed.ensures.answer
