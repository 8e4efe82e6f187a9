use Rattle.channel_calls.proofs.ClosesTold.{closed_all, close_stopped, close_untold}
use Rattle.channel_calls.proofs.caller.Caller.close.Goals as goal

pub returns-in-Ok-wake_all-clause-answer : goal.returns-in-Ok-wake_all-clause-answer
returns-in-Ok-wake_all-clause-answer g c = closed_all (g.met.F.ChannelFloor.legal c.wake_all.new.self.floor.now) c.in-Ok.ensures.answer
    c.in-Ok-wake_all.ensures.answer

pub returns-in-Err-wake_all-clause-answer : goal.returns-in-Err-wake_all-clause-answer
returns-in-Err-wake_all-clause-answer g c = close_stopped _ c.in-Ok.ensures.answer c.in-Err-wake_all.ensures.answer

pub returns-in-Err-clause-answer : goal.returns-in-Err-clause-answer
returns-in-Err-clause-answer g c = close_untold c.in-Err.ensures.answer
