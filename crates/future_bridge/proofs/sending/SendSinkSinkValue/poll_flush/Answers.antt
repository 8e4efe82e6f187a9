use Rattle.future_bridge.proofs.TakenBySinks.{waits_taken, flushed_taken, unless_failed}
use Rattle.future_bridge.proofs.sending.SendSinkSinkValue.poll_flush.Goals as goal

pub returns-in-Done-clause-history : goal.returns-in-Done-clause-history
returns-in-Done-clause-history c = flushed_taken c.args.self.now c.flush.new.self c.flush.ensures.still c.in-Done.ensures.flushed

pub returns-in-Waits-clause-history : goal.returns-in-Waits-clause-history
returns-in-Waits-clause-history c = unless_failed c.yield_now.result _
    (waits_taken c.args.self.now c.flush.new.self c.flush.ensures.still c.in-Waits.ensures.flushed)
