use Rattle.std.proofs.Common.{refl}
use Rattle.channel_model.proofs.Puts.{put_owned}
use Rattle.channel_calls.proofs.Roomed.{call_roomed, kind_roomed, untouched, made_room}
use Rattle.channel_calls.proofs.SendsTold.{handed, kept, put_stopped, send_untold, full, try_refused, try_no_place}
use Rattle.channel_calls.proofs.caller.Caller.try_send_as.Goals as goal

pub returns-in-Err-clause-answer : goal.returns-in-Err-clause-answer
returns-in-Err-clause-answer g c = send_untold _ c.args.value (untouched c.in-Err.ensures.same refl c.make_room.ensures.items)

pub try_offer-requires-clause-can : goal.try_offer-requires-clause-can
try_offer-requires-clause-can g c = call_roomed _ _ _ _ _ c.in_default.ensures.floor c.requires.can

pub try_offer-requires-clause-kind : goal.try_offer-requires-clause-kind
try_offer-requires-clause-kind g c = kind_roomed _ _ _ _ c.in_default.ensures.floor c.requires.kind

pub after_put-requires-clause-own : goal.after_put-requires-clause-own
after_put-requires-clause-own g c = put_owned _ _ _ _ _ _ c.in-Put.ensures.answer

pub returns-in-Handed-clause-answer : goal.returns-in-Handed-clause-answer
returns-in-Handed-clause-answer g c = handed c.args.value (made_room c.in_default.ensures.floor c.make_room.ensures.items)
    c.in-Handed.ensures.answer refl c.note.ensures.items

pub returns-in-Ok-clause-answer : goal.returns-in-Ok-clause-answer
returns-in-Ok-clause-answer g c =
    kept c.args.value (made_room c.in_default.ensures.floor c.make_room.ensures.items) c.in-Put.ensures.answer refl
    c.note-in-Put.ensures.items c.in-Ok.ensures.answer

pub returns-in-Err-after_put-clause-answer : goal.returns-in-Err-after_put-clause-answer
returns-in-Err-after_put-clause-answer g c =
    put_stopped c.args.value (made_room c.in_default.ensures.floor c.make_room.ensures.items) _ c.in-Put.ensures.answer refl
    c.note-in-Put.ensures.items c.in-Err-after_put.ensures.answer

pub returns-in-Full-clause-answer : goal.returns-in-Full-clause-answer
returns-in-Full-clause-answer g c = full c.args.value (made_room c.in_default.ensures.floor c.make_room.ensures.items)
    c.in-Full.ensures.answer refl c.note-in-Full.ensures.items

pub returns-in-Closed-clause-answer : goal.returns-in-Closed-clause-answer
returns-in-Closed-clause-answer g c =
    try_refused c.args.value (made_room c.in_default.ensures.floor c.make_room.ensures.items) c.args.tried_as
    c.of_closed_send-note.ensures.is c.in-Closed.ensures.answer refl c.note-in-Closed.ensures.items

pub returns-in-Spent-clause-answer : goal.returns-in-Spent-clause-answer
returns-in-Spent-clause-answer g c =
    try_no_place c.args.value (made_room c.in_default.ensures.floor c.make_room.ensures.items)
    c.in-Spent.ensures.answer refl c.note-in-Spent.ensures.items
