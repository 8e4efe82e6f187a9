use Rattle.std.proofs.Common.{refl, ap, ◌∙◌, ◌++◌, ◌∷◌, []}
use Rattle.script_meaning.specs.Configs.{with_entered}
use Rattle.poll_states.specs.Frames.{config_of, stack_of}
use Rattle.poll_states.proofs.Stacks.{left_scope, passed}
use Rattle.poll_states.proofs.coroutine.Coroutine.leave_scope.Goals as goal

pub returns-in-InScope-clause-config : goal.returns-in-InScope-clause-config
returns-in-InScope-clause-config g c = λ s top.
    ap (with_entered (stack_of c.pop.new.self.items)) c.loop-one.invariant.config
    ∙ left_scope (config_of c.args.self.now) c.args.self.now.entered.items c.loop-one.self.entered.items c.pop.new.self.items
    c.in-InScope.head c.in-InScope.row refl c.loop-one.invariant.scope
    (c.in-Some.ensures.items ∙ ap (λ e. c.pop.new.self.items ++ e ∷ []) c.in-InScope.is) s top

pub loop-one-preserved : goal.loop-one-preserved
loop-one-preserved g c = record {
  tag = c.loop-one.invariant.tag;
  config = ap (with_entered (stack_of c.pop.new.self.items)) c.loop-one.invariant.config;
  items = c.loop-one.invariant.items;
  scope = passed c.args.self.now.entered.items c.loop-one.self.entered.items c.pop.new.self.items c.in-Some.one c.loop-one.invariant.scope
      c.in-Some.ensures.items c.in_default-one.not-InScope;
}
