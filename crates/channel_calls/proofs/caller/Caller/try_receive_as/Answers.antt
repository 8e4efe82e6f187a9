use Rattle.std.proofs.Common.{refl}
use Rattle.channel_calls.proofs.Roomed.{call_roomed, untouched, made_room}
use Rattle.channel_calls.proofs.ReceivesTold.{taken, take_stopped, receive_untold, empty, try_closed}
use Rattle.channel_calls.proofs.caller.Caller.try_receive_as.Goals as goal

pub returns-in-Err-clause-answer : goal.returns-in-Err-clause-answer
returns-in-Err-clause-answer g c = receive_untold _ (untouched c.in-Err.ensures.same refl c.make_room.ensures.items)

pub try_receive-requires-clause-can : goal.try_receive-requires-clause-can
try_receive-requires-clause-can g c = call_roomed _ _ _ _ _ c.in_default.ensures.floor c.requires.can

pub returns-in-Ok-clause-answer : goal.returns-in-Ok-clause-answer
returns-in-Ok-clause-answer g c =
    taken (made_room c.in_default.ensures.floor c.make_room.ensures.items) c.in-Taken.ensures.answer refl
    c.note.ensures.items c.in-Ok.ensures.answer

pub returns-in-Err-admit_all-clause-answer : goal.returns-in-Err-admit_all-clause-answer
returns-in-Err-admit_all-clause-answer g c =
    take_stopped (made_room c.in_default.ensures.floor c.make_room.ensures.items) _ c.in-Taken.ensures.answer refl
    c.note.ensures.items c.in-Err-admit_all.ensures.answer

pub returns-in-Empty-clause-answer : goal.returns-in-Empty-clause-answer
returns-in-Empty-clause-answer g c = empty (made_room c.in_default.ensures.floor c.make_room.ensures.items) c.in-Empty.ensures.answer refl
    c.note-in-Empty.ensures.items

pub returns-in-Closed-clause-answer : goal.returns-in-Closed-clause-answer
returns-in-Closed-clause-answer g c =
    try_closed (made_room c.in_default.ensures.floor c.make_room.ensures.items) c.args.tried_as
    c.of_closed_receive-note.ensures.is (g.met.F.ChannelFloor.legal c.try_receive.new.self) c.in-Closed.ensures.answer refl
    c.note-in-Closed.ensures.items
