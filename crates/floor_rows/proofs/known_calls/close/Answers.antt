use Rattle.floor_rows.proofs.KnownLater.{closed_then}
use Rattle.floor_rows.proofs.known_calls.close.Goals as goal

pub returns-clause-then : goal.returns-clause-then
returns-clause-then g c =
    closed_then c.args.known.now c.args.who c.args.v (g.F.ChannelFloor.view c.args.floor.now) (g.F.ChannelFloor.view c.close-answer.new.self) c.close-answer.result
    (g.met.F.ChannelFloor.legal c.close-answer.new.self) c.requires.knows c.close-answer.ensures.answer
