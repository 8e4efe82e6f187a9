use Rattle.channel_calls.proofs.Roomed.{untouched, call_roomed, made_room}
use Rattle.channel_calls.proofs.ClosesTold.{voided_now, voided_before}
use Rattle.channel_calls.proofs.caller.Caller.void_once.Goals as goal
use Rattle.std.proofs.Common.{refl}

pub returns-in-Err-clause-answer : goal.returns-in-Err-clause-answer
returns-in-Err-clause-answer g c = untouched c.in-Err.ensures.same refl c.make_room.ensures.items

pub void-requires-clause-can : goal.void-requires-clause-can
void-requires-clause-can g c = call_roomed _ _ _ _ _ c.in_default.ensures.floor c.requires.can

pub returns-then-void-clause-answer : goal.returns-then-void-clause-answer
returns-then-void-clause-answer g c = voided_now (made_room c.in_default.ensures.floor c.make_room.ensures.items) c.if-void.ensures.answer
    refl c.note.ensures.items

pub returns-else-void-clause-answer : goal.returns-else-void-clause-answer
returns-else-void-clause-answer g c = voided_before _ (made_room c.in_default.ensures.floor c.make_room.ensures.items)
    c.if-void.ensures.answer.0
    c.if-void.ensures.answer.1 refl refl
