use Rattle.channel_calls.proofs.EndsTold.{taken_back, end_untold, end_stopped}
use Rattle.channel_calls.proofs.caller.Caller.cancel_wait.Goals as goal

pub returns-in-Ok-admit_all-clause-answer : goal.returns-in-Ok-admit_all-clause-answer
returns-in-Ok-admit_all-clause-answer g c = taken_back c.in-Ok.ensures.answer c.in-Ok-admit_all.ensures.answer

pub returns-in-Err-admit_all-clause-answer : goal.returns-in-Err-admit_all-clause-answer
returns-in-Err-admit_all-clause-answer g c = end_stopped _ c.in-Ok.ensures.answer c.in-Err-admit_all.ensures.answer

pub returns-in-Err-clause-answer : goal.returns-in-Err-clause-answer
returns-in-Err-clause-answer g c = end_untold c.in-Err.ensures.answer
