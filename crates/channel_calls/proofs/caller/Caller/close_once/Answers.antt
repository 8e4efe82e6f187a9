use Rattle.channel_calls.proofs.Roomed.{untouched, call_roomed, made_room}
use Rattle.channel_calls.proofs.ClosesTold.{closed_once, closed_before}
use Rattle.channel_calls.proofs.caller.Caller.close_once.Goals as goal
use Rattle.std.proofs.Common.{refl}

pub returns-in-Err-clause-answer : goal.returns-in-Err-clause-answer
returns-in-Err-clause-answer g c = untouched c.in-Err.ensures.same refl c.make_room.ensures.items

pub close-requires-clause-can : goal.close-requires-clause-can
close-requires-clause-can g c = call_roomed _ _ _ _ _ c.in_default.ensures.floor c.requires.can

pub returns-in-Ok-clause-answer : goal.returns-in-Ok-clause-answer
returns-in-Ok-clause-answer g c = closed_once (made_room c.in_default.ensures.floor c.make_room.ensures.items) c.in-Ok.ensures.answer refl
    c.note.ensures.items

pub returns-in-Err-close-clause-answer : goal.returns-in-Err-close-clause-answer
returns-in-Err-close-clause-answer g c = closed_before (made_room c.in_default.ensures.floor c.make_room.ensures.items)
    c.in-Err-close.ensures.answer refl c.note-in-Err-close.ensures.items
