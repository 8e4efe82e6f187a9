use Rattle.std.proofs.Common.{refl}
use Rattle.channel_calls.proofs.AdmitsTold.{admitted_all}
use Rattle.channel_calls.proofs.caller.Caller.admit_all.Goals as goal

pub returns-clause-answer : goal.returns-clause-answer
returns-clause-answer g c = admitted_all _ _ _ _ _ _ c.mark-mark.ensures.answer refl refl c.admit_below.ensures.answer
