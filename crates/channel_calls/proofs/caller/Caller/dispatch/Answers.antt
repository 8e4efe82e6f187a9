use Rattle.channel_calls.proofs.Roomed.{call_roomed, ready_roomed, untouched, made_room}
use Rattle.channel_calls.proofs.EndsTold.{dispatched}
use Rattle.channel_calls.proofs.caller.Caller.dispatch.Goals as goal
use Rattle.std.proofs.Common.{refl}

pub returns-in-Err-clause-answer : goal.returns-in-Err-clause-answer
returns-in-Err-clause-answer g c = untouched c.in-Err.ensures.same refl c.make_room.ensures.items

pub settle-requires-clause-can : goal.settle-requires-clause-can
settle-requires-clause-can g c = call_roomed _ _ _ _ _ c.in_default.ensures.floor c.requires.can

pub settle-requires-clause-ready : goal.settle-requires-clause-ready
settle-requires-clause-ready g c = ready_roomed _ _ _ _ _ c.in_default.ensures.floor c.requires.ready

pub returns-clause-answer : goal.returns-clause-answer
returns-clause-answer g c = dispatched _ (made_room c.in_default.ensures.floor c.make_room.ensures.items) c.settle.ensures.settled
    c.settle.ensures.same.who c.settle.ensures.items
