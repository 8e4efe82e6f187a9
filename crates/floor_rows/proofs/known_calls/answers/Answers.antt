use Rattle.floor_rows.proofs.KnownLater.{after_room, without_room, known_over}
use Rattle.floor_rows.proofs.known_calls.answers.Goals as goal

pub is_answer-requires-clause-knows : goal.is_answer-requires-clause-knows
is_answer-requires-clause-knows g c =
    (after_room c.args.known.now (g.F.ChannelFloor.view c.args.floor.now) (g.F.ChannelFloor.view c.room.new.self)
    (g.met.F.ChannelFloor.legal c.room.new.self) c.requires.knows c.in-Ok.ensures.ok).knows

pub returns-in-Ok-clause-then : goal.returns-in-Ok-clause-then
returns-in-Ok-clause-then g c =
    let a = g.F.ChannelFloor.view c.args.floor.now in
    let l = g.F.ChannelFloor.view c.room.new.self in
    known_over c.args.known.now _ a l _
    (after_room c.args.known.now a l (g.met.F.ChannelFloor.legal c.room.new.self) c.requires.knows c.in-Ok.ensures.ok)
    c.is_answer.ensures.then

pub returns-in-Err-clause-then : goal.returns-in-Err-clause-then
returns-in-Err-clause-then g c =
    without_room c.args.known.now (g.F.ChannelFloor.view c.args.floor.now) (g.F.ChannelFloor.view c.room.new.self) c.in-Err.ensures.err
    c.requires.knows
