use Rattle.std.proofs.Common.{refl, ap}
use Rattle.poll_states.specs.SeenEnds.{WentOn}
use Rattle.poll_states.proofs.GoneOn.{sees_end}
use Rattle.poll_states.proofs.polls.go_on.Goals as goal

pub see_end-requires-clause-seeing : goal.see_end-requires-clause-seeing
see_end-requires-clause-seeing g c = sees_end _ c.in-SeesJob.is

pub returns-in-Ok-clause-went : goal.returns-in-Ok-clause-went
returns-in-Ok-clause-went g c = WentOn.seen (sees_end _ c.in-SeesJob.is) refl c.in-Ok.ensures.came

pub returns-in_default-clause-went : goal.returns-in_default-clause-went
returns-in_default-clause-went g c = WentOn.answered refl (ap g.C.ChannelFloor.view c.answer.ensures.channels) c.answer.ensures.answered

pub returns-in-Ok-clause-same : goal.returns-in-Ok-clause-same
returns-in-Ok-clause-same g c = c.in-Ok.ensures.same

pub returns-in-Err-clause-same : goal.returns-in-Err-clause-same
returns-in-Err-clause-same g c = c.in-Err.ensures.same

pub returns-in_default-clause-same : goal.returns-in_default-clause-same
returns-in_default-clause-same g c = c.answer.ensures.same
