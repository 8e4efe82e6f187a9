use Rattle.channel_calls.proofs.OverflowsTold.{put_after, drop_stopped, spurned_then}
use Rattle.channel_calls.proofs.caller.Caller.after_put.Goals as goal

pub spurn_own-requires-clause-own : goal.spurn_own-requires-clause-own
spurn_own-requires-clause-own g c = put_after c.in-Ok.ensures.answer c.requires.own

pub returns-in-Ok-clause-answer : goal.returns-in-Ok-clause-answer
returns-in-Ok-clause-answer g c = spurned_then _ _ c.in-Ok.ensures.answer c.spurn_own.ensures.answer

pub returns-in-Err-clause-answer : goal.returns-in-Err-clause-answer
returns-in-Err-clause-answer g c = drop_stopped _ _ c.in-Err.ensures.answer
