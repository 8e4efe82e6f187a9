use Rattle.std.proofs.Common.{refl}
use Rattle.channel_calls.proofs.Roomed.{made_room}
use Rattle.scope_builders.proofs.NothingReceived.{signal_roomed, never_taken}
use Rattle.scope_builders.proofs.ReceivesDone.{nothing_told, waits_told, closed_told, spent_told}
use Rattle.scope_builders.proofs.done_channels.receive_signal.Goals as goal

pub returns-in-Err-clause-answer : goal.returns-in-Err-clause-answer
returns-in-Err-clause-answer g c = nothing_told refl refl c.room.ensures.items

pub returns-in-Err-room-clause-answer : goal.returns-in-Err-room-clause-answer
returns-in-Err-room-clause-answer g c = nothing_told c.in-Err-room.ensures.err refl c.room.ensures.items

pub unreachable-requires : goal.unreachable-requires
unreachable-requires g c = never_taken _ _ _ _ _ _ (signal_roomed _ _ _ _ c.in_default-room.ensures.ok c.requires.signal)
    (g.met.C.ChannelFloor.legal c.receive.new.self) c.in-Taken.ensures.answer.made

pub returns-in-Waiting-clause-answer : goal.returns-in-Waiting-clause-answer
returns-in-Waiting-clause-answer g c =
    waits_told (made_room c.in_default-room.ensures.ok c.room.ensures.items)
    (g.met.C.ChannelFloor.legal c.receive.new.self) c.in-Waiting.ensures.answer refl c.note.ensures.items

pub returns-in-Closed-clause-answer : goal.returns-in-Closed-clause-answer
returns-in-Closed-clause-answer g c =
    closed_told (made_room c.in_default-room.ensures.ok c.room.ensures.items)
    (g.met.C.ChannelFloor.legal c.receive.new.self) c.in-Closed.ensures.answer refl c.note-in-Closed.ensures.items

pub returns-in-Spent-clause-answer : goal.returns-in-Spent-clause-answer
returns-in-Spent-clause-answer g c =
    spent_told (made_room c.in_default-room.ensures.ok c.room.ensures.items) c.in-Spent.ensures.answer refl
    c.note-in-Spent.ensures.items
