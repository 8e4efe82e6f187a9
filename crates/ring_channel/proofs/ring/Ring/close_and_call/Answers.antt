use Rattle.std.proofs.Common.{subst, ◌∙◌}
use Rattle.ring_channel.specs.declared.act.RingSide.TheVariants.{Receive, Send}
use Rattle.ring_channel.specs.Passes.{seen_by}
use Rattle.ring_channel.specs.Looks.{AllAnswer}
use Rattle.ring_channel.proofs.ring.Ring.close_and_call.Goals as goal

pub returns-clause-answer : goal.returns-clause-answer
returns-clause-answer g c =
    let n = c.args.self.now.slots in
    let a = c.close-closed.new.pass in
    let b = c.call_all-receivers.new.pass in
    let same = c.close-closed.ensures.same.0 in
    let again = c.call_all-receivers.ensures.same.0 ∙ same in
    record {
      after_close = seen_by a;
      after_receivers = seen_by b;
      closed = c.close-closed.ensures.answer;
      receivers = subst (λ t. AllAnswer n t Receive (seen_by a) (seen_by b) c.call_all-receivers.result) same
          c.call_all-receivers.ensures.answer;
      senders = subst (λ t. AllAnswer n t Send (seen_by b) (seen_by c.call_all-senders.new.pass) c.call_all-senders.result) again
          c.call_all-senders.ensures.answer;
    }
