use Rattle.channel_calls.proofs.ClosesTold.{cancelled_all, cancel_stopped, cancel_untold, void_stopped}
use Rattle.channel_calls.proofs.caller.Caller.cancel_channel.Goals as goal

pub returns-in-Ok-drain_all-clause-answer : goal.returns-in-Ok-drain_all-clause-answer
returns-in-Ok-drain_all-clause-answer g c =
    cancelled_all (g.met.F.ChannelFloor.legal c.drain_all.new.self.floor.now) c.in-Ok.ensures.answer c.in-Ok-void_once.ensures.answer
    c.in-Ok-drain_all.ensures.answer

pub returns-in-Err-drain_all-clause-answer : goal.returns-in-Err-drain_all-clause-answer
returns-in-Err-drain_all-clause-answer g c =
    cancel_stopped _ _ c.in-Ok.ensures.answer c.in-Ok-void_once.ensures.answer c.in-Err-drain_all.ensures.answer

pub returns-in-Err-void_once-clause-answer : goal.returns-in-Err-void_once-clause-answer
returns-in-Err-void_once-clause-answer g c = void_stopped _ c.in-Ok.ensures.answer c.in-Err-void_once.ensures.answer

pub returns-in-Err-clause-answer : goal.returns-in-Err-clause-answer
returns-in-Err-clause-answer g c = cancel_untold _ c.in-Err.ensures.answer
