use Rattle.floor_rows.proofs.KnownLater.{unmade}
use Rattle.floor_rows.proofs.known_calls.settle.Goals as goal

pub returns-then-not-known-clause-then : goal.returns-then-not-known-clause-then
returns-then-not-known-clause-then g c = unmade c.args.known (g.F.ChannelFloor.view c.args.floor.now) c.requires.knows
