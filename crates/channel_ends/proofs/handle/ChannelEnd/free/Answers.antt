use Rattle.channel_ends.proofs.Handles.{went}
use Rattle.channel_ends.proofs.handle.ChannelEnd.free.Goals as goal

pub returns-in-Some : goal.returns-in-Some
returns-in-Some c =
    went _ _ _ c.in-Some.end.value c.deref_mut.result.now c.leave-wakes.new.self c.deref_mut.ensures.value c.in-Some.ensures.old
    c.in-Some.ensures.new c.leave-wakes.ensures.same c.leave-wakes.ensures.answer
