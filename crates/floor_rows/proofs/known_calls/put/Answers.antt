use Rattle.channel_model.proofs.Puts.{put_owned}
use Rattle.floor_rows.proofs.KnownLater.{offered_kept, offer_room, known_over}
use Rattle.floor_rows.proofs.known_calls.put.Goals as goal

pub after_put-requires-clause-room : goal.after_put-requires-clause-room
after_put-requires-clause-room g c = offer_room c.args.who c.args.value _ _ c.offer.result c.offer.ensures.answer c.requires.room

pub after_put-requires-clause-knows : goal.after_put-requires-clause-knows
after_put-requires-clause-knows g c =
    (offered_kept c.args.known c.args.who c.args.value (g.F.ChannelFloor.view c.args.floor.now) (g.F.ChannelFloor.view c.offer.new.self)
    c.offer.result (g.met.F.ChannelFloor.legal c.offer.new.self) c.requires.knows c.offer.ensures.answer).knows

pub after_put-requires-clause-own : goal.after_put-requires-clause-own
after_put-requires-clause-own g c = put_owned _ _ _ _ _ _ c.in-Put.ensures.answer

pub returns-in-Put-clause-then : goal.returns-in-Put-clause-then
returns-in-Put-clause-then g c =
    let k = c.args.known in
    let a = g.F.ChannelFloor.view c.args.floor.now in
    let l = g.F.ChannelFloor.view c.offer.new.self in
    known_over k k a l _
    (offered_kept k c.args.who c.args.value a l c.offer.result (g.met.F.ChannelFloor.legal c.offer.new.self) c.requires.knows
    c.offer.ensures.answer) c.after_put.ensures.then

pub returns-in_default : goal.returns-in_default
returns-in_default g c = record {
  anchor = c.offer.ensures.anchor;
  then =
      offered_kept c.args.known c.args.who c.args.value (g.F.ChannelFloor.view c.args.floor.now) (g.F.ChannelFloor.view c.offer.new.self)
      c.offer.result (g.met.F.ChannelFloor.legal c.offer.new.self) c.requires.knows c.offer.ensures.answer;
}
