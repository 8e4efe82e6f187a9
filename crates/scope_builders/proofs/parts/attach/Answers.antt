use Rattle.std.proofs.Common.{refl}
use Rattle.scope_builders.proofs.Rooms.{told_none, made_room}
use Rattle.scope_builders.proofs.Starts.{has_attached, found_no_row, found_used, found_ended}
use Rattle.scope_builders.proofs.parts.attach.Goals as goal

pub returns-in-Err-clause-answer : goal.returns-in-Err-clause-answer
returns-in-Err-clause-answer g c = told_none c.in-Err.ensures.same refl c.make_room.ensures.items

pub returns-in-Ok-clause-answer : goal.returns-in-Ok-clause-answer
returns-in-Ok-clause-answer g c =
    has_attached (made_room c.in_default.ensures.floor c.make_room.ensures.items)
    (g.met.J.JobFloor.legal c.attach.new.self) c.in-Ok.ensures.answer refl c.note.ensures.items

pub returns-in-NoRow-clause-answer : goal.returns-in-NoRow-clause-answer
returns-in-NoRow-clause-answer g c =
    found_no_row _ _ _ c.in-NoRow.is (made_room c.in_default.ensures.floor c.make_room.ensures.items)
    c.in-Err-attach.ensures.answer refl c.note-in-NoRow.ensures.items

pub returns-in-Used-clause-answer : goal.returns-in-Used-clause-answer
returns-in-Used-clause-answer g c =
    found_used _ _ _ c.in-Used.is (made_room c.in_default.ensures.floor c.make_room.ensures.items)
    c.in-Err-attach.ensures.answer refl c.note-in-Used.ensures.items

pub returns-in-ParentEnded-clause-answer : goal.returns-in-ParentEnded-clause-answer
returns-in-ParentEnded-clause-answer g c =
    found_ended c.in-ParentEnded.is (made_room c.in_default.ensures.floor c.make_room.ensures.items)
    c.in-Err-attach.ensures.answer refl c.note-in-ParentEnded.ensures.items
