use Rattle.channel_ends.proofs.Handles.{did}
use Rattle.channel_ends.proofs.handle.ChannelEnd.close.Goals as goal

pub returns-in-Some : goal.returns-in-Some
returns-in-Some c =
    did _ _ _ c.in-Some.end.value c.deref_mut.result.now c.close-answer.new.self c.deref_mut.ensures.value c.in-Some.ensures.old
    c.put.ensures
    c.close-answer.ensures.same c.close-answer.ensures.answer
