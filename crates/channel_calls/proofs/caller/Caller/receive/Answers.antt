use Rattle.std.proofs.Common.{refl}
use Rattle.channel_calls.proofs.Roomed.{call_roomed, untouched, made_room}
use Rattle.channel_calls.proofs.ReceivesTold.{taken, take_stopped, receive_stopped, receive_untold, received, waiting, closed, no_place}
use Rattle.channel_calls.proofs.caller.Caller.receive.Goals as goal

pub returns-in-Err-clause-answer : goal.returns-in-Err-clause-answer
returns-in-Err-clause-answer g c = receive_stopped _ (receive_untold _ (untouched c.in-Err.ensures.same refl c.make_room.ensures.items))

pub receive-requires-clause-can : goal.receive-requires-clause-can
receive-requires-clause-can g c = call_roomed _ _ _ _ _ c.in_default.ensures.floor c.requires.can

pub returns-in-Ok-clause-answer : goal.returns-in-Ok-clause-answer
returns-in-Ok-clause-answer g c =
    received (taken (made_room c.in_default.ensures.floor c.make_room.ensures.items) c.in-Taken.ensures.answer refl
    c.note.ensures.items c.in-Ok.ensures.answer)

pub returns-in-Err-admit_all-clause-answer : goal.returns-in-Err-admit_all-clause-answer
returns-in-Err-admit_all-clause-answer g c =
    receive_stopped _ (take_stopped (made_room c.in_default.ensures.floor c.make_room.ensures.items) _
    c.in-Taken.ensures.answer refl c.note.ensures.items c.in-Err-admit_all.ensures.answer)

pub returns-in-Waiting-clause-answer : goal.returns-in-Waiting-clause-answer
returns-in-Waiting-clause-answer g c =
    waiting (made_room c.in_default.ensures.floor c.make_room.ensures.items)
    (g.met.F.ChannelFloor.legal c.receive.new.self) c.in-Waiting.ensures.answer refl c.note-in-Waiting.ensures.items

pub returns-in-Closed-clause-answer : goal.returns-in-Closed-clause-answer
returns-in-Closed-clause-answer g c =
    closed (made_room c.in_default.ensures.floor c.make_room.ensures.items)
    (g.met.F.ChannelFloor.legal c.receive.new.self) c.in-Closed.ensures.answer refl c.note-in-Closed.ensures.items

pub returns-in-Spent-clause-answer : goal.returns-in-Spent-clause-answer
returns-in-Spent-clause-answer g c = no_place (made_room c.in_default.ensures.floor c.make_room.ensures.items) c.in-Spent.ensures.answer
    refl c.note-in-Spent.ensures.items
