use Rattle.floor_rows.proofs.KnownLater.{unmade, voided_then}
use Rattle.floor_rows.proofs.known_calls.void.Goals as goal

pub returns-then-not-known-clause-then : goal.returns-then-not-known-clause-then
returns-then-not-known-clause-then g c = unmade c.args.known.now (g.F.ChannelFloor.view c.args.floor.now) c.requires.knows

pub returns-clause-then : goal.returns-clause-then
returns-clause-then g c =
    voided_then c.args.known.now c.args.who (g.F.ChannelFloor.view c.args.floor.now) (g.F.ChannelFloor.view c.void-answer.new.self) c.void-answer.result
    (g.met.F.ChannelFloor.legal c.void-answer.new.self) c.requires.knows c.void-answer.ensures.answer
