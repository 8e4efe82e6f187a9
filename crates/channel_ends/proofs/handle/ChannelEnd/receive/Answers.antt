use Rattle.channel_ends.proofs.Handles.{did}
use Rattle.channel_ends.proofs.handle.ChannelEnd.receive.Goals as goal

pub returns-in-Some : goal.returns-in-Some
returns-in-Some c =
    did _ _ _ c.in-Some.end.value c.deref_mut.result.now c.receive-answer.new.self c.deref_mut.ensures.value c.in-Some.ensures.old
    c.put.ensures
    c.receive-answer.ensures.same c.receive-answer.ensures.answer
