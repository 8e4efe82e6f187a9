use Rattle.std.proofs.Common.{refl, sym, ◌∙◌}
use Rattle.poll_states.specs.Frames.{config_of}
use Rattle.poll_states.proofs.Stacks.{changed_top}
use Rattle.poll_states.proofs.coroutine.Coroutine.change_top.Goals as goal

pub returns-then-is_some-clause-config : goal.returns-then-is_some-clause-config
returns-then-is_some-clause-config g c =
    changed_top (config_of c.args.self.now) c.args.self.now.entered.items c.pop.new.self.items c.push_reserved.new.self.items c.pop.result
    c.args.one refl c.pop.ensures.items (sym c.is_some.ensures ∙ c.if-is_some.true) c.push_reserved.ensures.items
