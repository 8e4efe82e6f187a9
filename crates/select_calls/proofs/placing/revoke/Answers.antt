use Rattle.std.specs.Prelude.{false, refl}
use Rattle.channel_calls.proofs.WithdrawnWaits.{ready_withdrawn, withdrawn_told}
use Rattle.channel_calls.proofs.Roomed.{made_room}
use Rattle.select_calls.proofs.Revoked.{late_now}
use Rattle.select_calls.proofs.placing.revoke.Goals as goal

pub settle-outcome-requires-clause-ready : goal.settle-outcome-requires-clause-ready
settle-outcome-requires-clause-ready g c =
    ready_withdrawn _ (g.met.F.ChannelFloor.legal c.withdraw.new.self) c.in_default.ensures.floor c.requires.holds c.in-Done.ensures.answer

pub returns-in-Done-clause-answer : goal.returns-in-Done-clause-answer
returns-in-Done-clause-answer g c =
    withdrawn_told false (g.met.F.ChannelFloor.legal c.withdraw.new.self) (made_room c.in_default.ensures.floor c.make_room.ensures.items)
    c.requires.holds c.in-Done.ensures.answer.0 c.settle-outcome.ensures.answer refl c.note.ensures.items c.note-in-Done.ensures.items

pub returns-in-Late-clause-answer : goal.returns-in-Late-clause-answer
returns-in-Late-clause-answer g c = late_now (made_room c.in_default.ensures.floor c.make_room.ensures.items) c.in-Late.ensures.answer refl
    c.note-in-Late.ensures.items
