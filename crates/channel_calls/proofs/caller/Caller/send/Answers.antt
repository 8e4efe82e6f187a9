use Rattle.std.proofs.Common.{refl}
use Rattle.channel_model.proofs.Puts.{put_owned}
use Rattle.channel_calls.proofs.Roomed.{call_roomed, kind_roomed, untouched, made_room}
use Rattle.channel_calls.proofs.Begun.{offer_plain}
use Rattle.channel_calls.proofs.SendsTold.{handed, kept, put_stopped, send_stopped, send_untold, sent, offer_told, refused, no_place}
use Rattle.channel_calls.proofs.OwnOffers.{held_sends}
use Rattle.channel_calls.proofs.caller.Caller.send.Goals as goal

pub returns-in-Err-clause-answer : goal.returns-in-Err-clause-answer
returns-in-Err-clause-answer g c = send_stopped _ c.args.value
    (send_untold _ c.args.value (untouched c.in-Err.ensures.same refl c.make_room.ensures.items))

pub offer-requires-clause-can : goal.offer-requires-clause-can
offer-requires-clause-can g c = call_roomed _ _ _ _ _ c.in_default.ensures.floor c.requires.can

pub offer-requires-clause-kind : goal.offer-requires-clause-kind
offer-requires-clause-kind g c = kind_roomed _ _ _ _ c.in_default.ensures.floor c.requires.kind

pub after_put-requires-clause-own : goal.after_put-requires-clause-own
after_put-requires-clause-own g c = put_owned _ _ _ _ _ _ c.in-Put.ensures.answer

pub after_held-requires-clause-plain : goal.after_held-requires-clause-plain
after_held-requires-clause-plain g c = offer_plain _ _ _ _ _ _ (g.met.F.ChannelFloor.legal c.offer.new.self) c.in-Held.ensures.answer.0

pub returns-in-Handed-clause-answer : goal.returns-in-Handed-clause-answer
returns-in-Handed-clause-answer g c =
    sent (handed c.args.value (made_room c.in_default.ensures.floor c.make_room.ensures.items) c.in-Handed.ensures.answer refl
    c.note.ensures.items)

pub returns-in-Ok-clause-answer : goal.returns-in-Ok-clause-answer
returns-in-Ok-clause-answer g c =
    sent (kept c.args.value (made_room c.in_default.ensures.floor c.make_room.ensures.items) c.in-Put.ensures.answer refl
    c.note-in-Put.ensures.items c.in-Ok.ensures.answer)

pub returns-in-Err-after_put-clause-answer : goal.returns-in-Err-after_put-clause-answer
returns-in-Err-after_put-clause-answer g c =
    send_stopped _ c.args.value (put_stopped c.args.value (made_room c.in_default.ensures.floor c.make_room.ensures.items) _
    c.in-Put.ensures.answer refl c.note-in-Put.ensures.items c.in-Err-after_put.ensures.answer)

pub returns-in-Held-clause-answer : goal.returns-in-Held-clause-answer
returns-in-Held-clause-answer g c =
    held_sends _ _ (g.met.F.ChannelFloor.legal c.after_held.new.self.floor.now)
    (record {
      n = 1;
      ready = g.F.ChannelFloor.view c.make_room.new.floor;
      room = c.in_default.ensures.floor;
      made_it = c.in-Held.ensures.answer.0;
      told = offer_told c.args.value (made_room c.in_default.ensures.floor c.make_room.ensures.items)
          c.in-Held.ensures.answer refl c.note-in-Held.ensures.items;
    })
    c.after_held.ensures.answer

pub returns-in-Closed-clause-answer : goal.returns-in-Closed-clause-answer
returns-in-Closed-clause-answer g c = refused c.args.value (made_room c.in_default.ensures.floor c.make_room.ensures.items)
    c.in-Closed.ensures.answer refl c.note-in-Closed.ensures.items

pub returns-in-Spent-clause-answer : goal.returns-in-Spent-clause-answer
returns-in-Spent-clause-answer g c =
    no_place c.args.value (made_room c.in_default.ensures.floor c.make_room.ensures.items) c.in-Spent.ensures.answer refl
    c.note-in-Spent.ensures.items
