use Rattle.std.proofs.Common.{refl, sym, subst, ◌∙◌}
use Rattle.std.specs.Prelude.{Ok}
use Rattle.channel_ends.specs.Ends.{NewEnd}
use Rattle.channel_ends.specs.Handles.{end_in}
use Rattle.channel_ends.proofs.Handles.{there, empty}
use Rattle.channel_ends.proofs.handle.ChannelEnd.make.Goals as goal

pub returns-then-not-is_none : goal.returns-then-not-is_none
returns-then-not-is_none c = (there (end_in c.args.self.now) (sym c.is_none.ensures ∙ c.if-not-is_none.true), refl)

pub returns-in-Ok-new : goal.returns-in-Ok-new
returns-in-Ok-new c = (
  empty (end_in c.args.self.now) (sym c.is_none.ensures ∙ c.if-not-is_none.false),
  c.in-Ok-new.end.value,
  c.put.ensures,
  subst (λ e. NewEnd c.args.slots (Ok e)) (sym c.in-Ok-new.ensures.ok) c.in-Ok.ensures,
)
