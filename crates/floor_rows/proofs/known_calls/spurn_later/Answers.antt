use Rattle.floor_rows.proofs.KnownLater.{got_put, got_room, tried_got_then, known_over, spurned_then}
use Rattle.floor_rows.proofs.known_calls.spurn_later.Goals as goal

pub spurn-requires-clause-room : goal.spurn-requires-clause-room
spurn-requires-clause-room g c = got_room c.args.who _ _ c.try_receive.result c.try_receive.ensures.answer c.requires.room

pub spurn-requires-clause-own : goal.spurn-requires-clause-own
spurn-requires-clause-own g c = got_put c.args.who 0 c.args.place _ _ c.try_receive.result c.try_receive.ensures.answer c.requires.own

pub returns-clause-then : goal.returns-clause-then
returns-clause-then g c =
    let k = c.args.known in
    let a = g.F.ChannelFloor.view c.args.floor.now in
    let l = g.F.ChannelFloor.view c.try_receive.new.self in
    let b = g.F.ChannelFloor.view c.spurn.new.self in
    let got = tried_got_then k c.args.who a l c.try_receive.result (g.met.F.ChannelFloor.legal c.try_receive.new.self) c.requires.knows
    c.try_receive.ensures.answer in
    known_over k k a l b got
    (spurned_then k c.args.who c.args.place l b c.spurn.result (g.met.F.ChannelFloor.legal c.spurn.new.self) got.knows c.spurn.ensures.answer)
