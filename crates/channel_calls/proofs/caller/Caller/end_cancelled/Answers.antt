use Rattle.channel_calls.proofs.Roomed.{untouched, call_roomed, own_roomed, made_room}
use Rattle.channel_calls.proofs.EndsTold.{ready_late, withdrawn_now, late_now}
use Rattle.channel_calls.proofs.WithdrawnWaits.{ready_withdrawn}
use Rattle.channel_calls.proofs.caller.Caller.end_cancelled.Goals as goal
use Rattle.std.proofs.Common.{refl}

pub returns-in-Err-clause-answer : goal.returns-in-Err-clause-answer
returns-in-Err-clause-answer g c = untouched c.in-Err.ensures.same refl c.make_room.ensures.items

pub withdraw-requires-clause-can : goal.withdraw-requires-clause-can
withdraw-requires-clause-can g c = call_roomed _ _ _ _ _ c.in_default.ensures.floor c.requires.can

pub withdraw-requires-clause-own : goal.withdraw-requires-clause-own
withdraw-requires-clause-own g c = own_roomed _ _ _ _ _ c.in_default.ensures.floor c.requires.holds

pub settle-requires-clause-ready : goal.settle-requires-clause-ready
settle-requires-clause-ready g c = ready_withdrawn _ (g.met.F.ChannelFloor.legal c.withdraw.new.self) c.in_default.ensures.floor
    c.requires.holds c.in-Done.ensures.answer

pub settle-requires-in-Late-clause-ready : goal.settle-requires-in-Late-clause-ready
settle-requires-in-Late-clause-ready g c = ready_late _ _ _ _ _ _ (g.met.F.ChannelFloor.legal c.withdraw.new.self)
    c.in_default.ensures.floor c.requires.holds c.in-Late.ensures.answer

pub returns-in-Done-clause-answer : goal.returns-in-Done-clause-answer
returns-in-Done-clause-answer g c =
    withdrawn_now _ (g.met.F.ChannelFloor.legal c.withdraw.new.self) (made_room c.in_default.ensures.floor c.make_room.ensures.items)
    c.requires.holds c.in-Done.ensures.answer c.settle.ensures.settled c.settle.ensures.same.who c.note.ensures.items c.settle.ensures.items

pub returns-in-Late-clause-answer : goal.returns-in-Late-clause-answer
returns-in-Late-clause-answer g c =
    late_now (made_room c.in_default.ensures.floor c.make_room.ensures.items) c.in-Late.ensures.answer
    c.settle-in-Late.ensures.settled c.settle-in-Late.ensures.same.who c.note-in-Late.ensures.items c.settle-in-Late.ensures.items
