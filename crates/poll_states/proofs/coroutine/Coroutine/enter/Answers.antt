use Rattle.std.proofs.Common.{ap, ◌∙◌}
use Rattle.script_meaning.specs.Configs.{next, with_entered}
use Rattle.poll_states.specs.Frames.{config_of, stack_of}
use Rattle.poll_states.proofs.Stacks.{stack_of-append}
use Rattle.poll_states.proofs.coroutine.Coroutine.enter.Goals as goal

pub returns-clause-config : goal.returns-clause-config
returns-clause-config g c =
    c.next_line.ensures.config
    ∙ ap (λ l. next (with_entered l (config_of c.args.self.now))) (ap stack_of c.push_reserved.ensures.items
    ∙ stack_of-append c.args.self.now.entered.items c.args.one)
