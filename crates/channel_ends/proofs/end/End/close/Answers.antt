use Rattle.ring_channel.specs.Passes.{seen_by}
use Rattle.channel_ends.proofs.EndsGo.{first_stays, new_stays}
use Rattle.channel_ends.proofs.end.End.close.Goals as goal

pub invariant_of-self-clause-first : goal.invariant_of-self-clause-first
invariant_of-self-clause-first c =
    first_stays c.args.self.now.next (seen_by c.args.self.now.pass) (seen_by c.close_and_call.new.pass) c.close_and_call.ensures.same.1
    c.args.self.now.first

pub invariant_of-self-clause-ungiven : goal.invariant_of-self-clause-ungiven
invariant_of-self-clause-ungiven c =
    new_stays c.args.self.now.next (seen_by c.args.self.now.pass) (seen_by c.close_and_call.new.pass) c.close_and_call.ensures.same.1
    c.args.self.now.ungiven
