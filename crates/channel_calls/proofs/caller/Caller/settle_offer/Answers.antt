use Rattle.channel_calls.proofs.Roomed.{untouched, call_roomed, made_room}
use Rattle.channel_calls.proofs.OwnOffers.{own_offer, never_settled, ready_now, never_open, never_value, never_closed, never_undelivered, still_waits, sent_settled, offer_voided}
use Rattle.channel_calls.proofs.caller.Caller.settle_offer.Goals as goal
use Rattle.std.proofs.Common.{refl}

pub returns-in-Err-clause-answer : goal.returns-in-Err-clause-answer
returns-in-Err-clause-answer g c = untouched c.in-Err.ensures.same refl c.make_room.ensures.items

pub look-requires-clause-can : goal.look-requires-clause-can
look-requires-clause-can g c = call_roomed _ _ _ _ _ c.in_default.ensures.floor c.requires.can

pub look-requires-clause-own : goal.look-requires-clause-own
look-requires-clause-own g c = own_offer _ _ _ _ _ c.in_default.ensures.floor c.requires.plain

pub unreachable-requires : goal.unreachable-requires
unreachable-requires g c = never_settled _ _ _ _ _ _ (g.met.F.ChannelFloor.legal c.look.new.self) c.in_default.ensures.floor
    c.requires.plain c.in-Settled.ensures.answer

pub settle-requires-clause-ready : goal.settle-requires-clause-ready
settle-requires-clause-ready g c = ready_now _ _ _ _ _ _ (g.met.F.ChannelFloor.legal c.look.new.self) c.in_default.ensures.floor
    c.requires.plain c.in-Resolved.ensures.answer

pub unreachable-requires-in-Ok : goal.unreachable-requires-in-Ok
unreachable-requires-in-Ok g c = never_open (g.met.F.ChannelFloor.legal c.look.new.self) (g.met.F.ChannelFloor.legal c.close.new.self)
    c.in_default.ensures.floor c.requires.plain c.in-Resolved.ensures.answer c.in-Cancelled.ensures.settled c.in-Cancelled.ensures.same.who
    c.in-Ok.ensures.answer

pub unreachable-requires-in-Value : goal.unreachable-requires-in-Value
unreachable-requires-in-Value g c = never_value (g.met.F.ChannelFloor.legal c.look.new.self) c.in_default.ensures.floor c.requires.plain
    c.in-Resolved.ensures.answer c.in-Value.ensures.settled

pub unreachable-requires-in-Closed : goal.unreachable-requires-in-Closed
unreachable-requires-in-Closed g c = never_closed (g.met.F.ChannelFloor.legal c.look.new.self) c.in_default.ensures.floor c.requires.plain
    c.in-Resolved.ensures.answer c.in-Closed.ensures.settled

pub unreachable-requires-in-Undelivered : goal.unreachable-requires-in-Undelivered
unreachable-requires-in-Undelivered g c = never_undelivered (g.met.F.ChannelFloor.legal c.look.new.self) c.in_default.ensures.floor
    c.requires.plain c.in-Resolved.ensures.answer c.in-Undelivered.ensures.settled

pub returns-in-Standing-clause-answer : goal.returns-in-Standing-clause-answer
returns-in-Standing-clause-answer g c =
    still_waits
    (record { who = c.args.self.now.who; floor = g.F.ChannelFloor.view c.look.new.self; items = g.B.NoteBook.items c.make_room.new.book })
    (g.met.F.ChannelFloor.legal c.look.new.self) (made_room c.in_default.ensures.floor c.make_room.ensures.items)
    c.requires.plain c.in-Standing.ensures.answer refl refl

pub returns-in-Sent-clause-answer : goal.returns-in-Sent-clause-answer
returns-in-Sent-clause-answer g c =
    sent_settled (g.met.F.ChannelFloor.legal c.look.new.self) (made_room c.in_default.ensures.floor c.make_room.ensures.items)
    c.requires.plain c.in-Resolved.ensures.answer c.in-Sent.ensures.settled c.in-Sent.ensures.same.who c.in-Sent.ensures.items

pub returns-in-Err-close-clause-answer : goal.returns-in-Err-close-clause-answer
returns-in-Err-close-clause-answer g c =
    offer_voided (made_room c.in_default.ensures.floor c.make_room.ensures.items) c.in-Resolved.ensures.answer
    c.in-Cancelled.ensures.settled c.in-Err-close.ensures.answer c.in-Cancelled.ensures.same.who c.in-Cancelled.ensures.items
