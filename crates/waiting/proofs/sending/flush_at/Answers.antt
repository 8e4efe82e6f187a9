use Rattle.waiting.proofs.StaysThen.{ends_asleep}
use Rattle.waiting.proofs.PollsTold.{flush_told}
use Rattle.waiting.proofs.sending.flush_at.Goals as goal

pub returns-in-Resolved-clause-step : goal.returns-in-Resolved-clause-step
returns-in-Resolved-clause-step g c =
    let hub = c.args.hub.now in
    let p = c.args.pass.now in
    let q = c.look_at.new.pass in
    let r = c.settle-settled.new.pass in
    let s = c.settle-settled.result in
    flush_told hub c.args.at p r s c.flushed_as.result
    (ends_asleep hub c.args.at p q r s c.look_at.ensures.stays (c.look_at.ensures.ready c.in-Resolved.is) c.settle-settled.ensures.answer)
    c.flushed_as.ensures.ends
