use Rattle.std.proofs.Common.{refl, arith}
use Rattle.poll_states.specs.Frames.{config_of}
use Rattle.poll_states.proofs.Stacks.{popped}
use Rattle.poll_states.proofs.coroutine.Coroutine.leave.Goals as goal

pub returns-clause-config : goal.returns-clause-config
returns-clause-config g c =
    popped (config_of c.args.self.now) c.args.self.now.entered.items c.pop.new.self.items c.pop.result refl c.pop.ensures.items
    (λ e. let h = rw e at c.pop.ensures.cases in omega (arith, h.0, c.args.self.now.entered.ok.0))
