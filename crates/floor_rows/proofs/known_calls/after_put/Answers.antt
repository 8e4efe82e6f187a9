use Rattle.floor_rows.proofs.KnownLater.{trimmed_then, spurned_then}
use Rattle.floor_rows.proofs.known_calls.after_put.Goals as goal

pub returns-in-Trims-clause-then : goal.returns-in-Trims-clause-then
returns-in-Trims-clause-then g c =
    trimmed_then c.args.known c.args.who c.args.place (g.F.ChannelFloor.view c.args.floor.now) (g.F.ChannelFloor.view c.trim.new.self)
    c.trim.result (g.met.F.ChannelFloor.legal c.trim.new.self) c.requires.knows c.trim.ensures.answer

pub returns-in-Spurns-clause-then : goal.returns-in-Spurns-clause-then
returns-in-Spurns-clause-then g c =
    spurned_then c.args.known c.args.who c.args.place (g.F.ChannelFloor.view c.args.floor.now) (g.F.ChannelFloor.view c.spurn.new.self)
    c.spurn.result (g.met.F.ChannelFloor.legal c.spurn.new.self) c.requires.knows c.spurn.ensures.answer
