use Rattle.call_meaning.specs.ChannelCalls.{receives}
use Rattle.channel_calls.proofs.Roomed.{made_room}
use Rattle.select_calls.proofs.ClausesPlaced.{receive_stands, receive_partner, receive_closed, receive_spent, resolved}
use Rattle.select_calls.proofs.placing.place_receive.Goals as goal

pub returns-in-Stands-clause-answer : goal.returns-in-Stands-clause-answer
returns-in-Stands-clause-answer g c =
    receive_stands c.args.c c.args.clause c.args.main (made_room c.in_default.ensures.floor c.make_room.ensures.items)
    (g.met.F.ChannelFloor.legal c.register_receive.new.self) c.main_at-w.ensures c.in-Stands.ensures.answer c.note.ensures.items

pub returns-in-Partner-clause-answer : goal.returns-in-Partner-clause-answer
returns-in-Partner-clause-answer g c =
    receive_partner c.args.c c.args.clause c.args.main (made_room c.in_default.ensures.floor c.make_room.ensures.items)
    (g.met.F.ChannelFloor.legal c.register_receive.new.self) _ c.in-Partner.ensures.answer c.note-in-Partner.ensures.items

pub returns-in-Closed-clause-answer : goal.returns-in-Closed-clause-answer
returns-in-Closed-clause-answer g c =
    receive_closed c.args.c c.args.clause c.args.main (made_room c.in_default.ensures.floor c.make_room.ensures.items)
    (g.met.F.ChannelFloor.legal c.register_receive.new.self) c.in-Closed.ensures.answer c.note-in-Closed.ensures.items

pub returns-in-Spent-clause-answer : goal.returns-in-Spent-clause-answer
returns-in-Spent-clause-answer g c =
    receive_spent c.args.c c.args.clause c.args.main (made_room c.in_default.ensures.floor c.make_room.ensures.items)
    (g.met.F.ChannelFloor.legal c.register_receive.new.self) c.in-Spent.ensures.answer c.note-in-Spent.ensures.items

pub returns-in-Resolved-clause-answer : goal.returns-in-Resolved-clause-answer
returns-in-Resolved-clause-answer g c =
    resolved (receives c.args.c) c.args.clause c.args.main (made_room c.in_default.ensures.floor c.make_room.ensures.items)
    (g.met.F.ChannelFloor.legal c.register_receive.new.self) c.in-Resolved.ensures.answer.0 c.in-Resolved.ensures.answer.1
    c.note_resolved.ensures
