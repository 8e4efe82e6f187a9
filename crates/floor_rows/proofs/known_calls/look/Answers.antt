use Rattle.call_meaning.specs.ChannelCalls.{wait_at}
use Rattle.floor_rows.proofs.KnownLater.{unmade, looked_then}
use Rattle.floor_rows.proofs.known_calls.look.Goals as goal

pub returns-then-not-known-clause-then : goal.returns-then-not-known-clause-then
returns-then-not-known-clause-then g c = unmade c.args.known (g.F.ChannelFloor.view c.args.floor.now) c.requires.knows

pub returns-clause-then : goal.returns-clause-then
returns-clause-then g c =
    looked_then c.args.known c.args.known.tag (wait_at 0 c.args.known.place) (g.F.ChannelFloor.view c.args.floor.now) (g.F.ChannelFloor.view c.look.new.self) c.look.result
    (g.met.F.ChannelFloor.legal c.look.new.self) c.requires.knows c.look.ensures.answer
