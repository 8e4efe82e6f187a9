use Rattle.std.proofs.Common.{refl}
use Rattle.channel_calls.proofs.OverflowsTold.{put_roomed, spurned_gone, spurned_stays}
use Rattle.channel_calls.proofs.Roomed.{call_roomed, made_room}
use Rattle.channel_calls.proofs.caller.Caller.spurn_own.Goals as goal

pub spurn-requires-clause-can : goal.spurn-requires-clause-can
spurn-requires-clause-can g c = call_roomed _ _ _ _ _ c.in_default.ensures.floor c.requires.can

pub spurn-requires-clause-own : goal.spurn-requires-clause-own
spurn-requires-clause-own g c = put_roomed _ _ _ _ _ _ c.in_default.ensures.floor c.requires.own

pub returns-in-Some-clause-answer : goal.returns-in-Some-clause-answer
returns-in-Some-clause-answer g c =
    spurned_gone (made_room c.in_default.ensures.floor c.make_room.ensures.items)
    (g.met.F.ChannelFloor.legal c.spurn.new.self) c.in-Some.ensures.answer refl c.note.ensures.items

pub returns-in-None-clause-answer : goal.returns-in-None-clause-answer
returns-in-None-clause-answer g c =
    spurned_stays (made_room c.in_default.ensures.floor c.make_room.ensures.items) c.in-None.ensures.answer.0
    c.in-None.ensures.answer.1 refl refl
