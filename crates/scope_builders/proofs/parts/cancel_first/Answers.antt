use Rattle.std.proofs.Common.{refl}
use Rattle.scope_builders.proofs.Breaks.{cancelled_so, cancelled_seen, cancelled_some, owned_looked, call_looked, reason_looked}
use Rattle.scope_builders.proofs.parts.cancel_first.Goals as goal

pub returns-then-is_cancelling-clause-cancelled : goal.returns-then-is_cancelling-clause-cancelled
returns-then-is_cancelling-clause-cancelled g c =
    cancelled_seen refl refl (g.met.J.JobFloor.legal c.is_cancelling.new.jobs) c.requires.own c.if-is_cancelling.ensures.seen.0
    c.if-is_cancelling.ensures.seen.1

pub break_off-requires-clause-can : goal.break_off-requires-clause-can
break_off-requires-clause-can g c = call_looked _ _ _ _ (g.met.J.JobFloor.legal c.is_cancelling.new.jobs) c.if-is_cancelling.ensures.seen
    c.requires.can

pub break_off-requires-clause-own : goal.break_off-requires-clause-own
break_off-requires-clause-own g c = owned_looked _ _ _ _ (g.met.J.JobFloor.legal c.is_cancelling.new.jobs) c.if-is_cancelling.ensures.seen
    c.requires.own

pub break_off-requires-clause-reason : goal.break_off-requires-clause-reason
break_off-requires-clause-reason g c = reason_looked _ _ _ _ _ (g.met.J.JobFloor.legal c.is_cancelling.new.jobs)
    c.if-is_cancelling.ensures.seen c.requires.reason

pub returns-in-Ok-clause-cancelled : goal.returns-in-Ok-clause-cancelled
returns-in-Ok-clause-cancelled g c =
    cancelled_so c.if-is_cancelling.ensures.seen refl refl (g.met.J.JobFloor.legal c.break_off.new.jobs) c.in-Ok.ensures.broken

pub returns-in-Err-clause-begun : goal.returns-in-Err-clause-begun
returns-in-Err-clause-begun g c = cancelled_some c.if-is_cancelling.ensures.seen refl refl c.in-Err.ensures.broken
