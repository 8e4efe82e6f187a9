use Rattle.permits.proofs.UsesGo.{uses_given, uses_still, heard_adds, met_adds}
use Rattle.permits.specs.Parts.{UsesPermits}
use Rattle.std.proofs.Common.{refl, subst, arith, ◌≡◌, ◌+◌, ◌-◌}
use Rattle.permits.proofs.releasing.give_back.Goals as goal

pub returns-in-Ok-Done-clause-uses : goal.returns-in-Ok-Done-clause-uses
returns-in-Ok-Done-clause-uses g c =
    let some = c.requires.some in
    let less : c.args.held.now ≡ (c.args.held.now - 1) + 1 = omega (arith, some) in
    uses_given (rw c.in-Ok-Done.field-0-is at c.in-Ok-Done.ensures.answer)
    (subst (λ m. UsesPermits c.args.p.now.c c.args.p.now.n c.args.x.now.who m (g.F.ChannelFloor.view c.args.x.now.floor.now)) less
    c.requires.uses)

pub returns-in-Ok-Closed-clause-uses : goal.returns-in-Ok-Closed-clause-uses
returns-in-Ok-Closed-clause-uses g c = uses_still _ _ _ _ _ _
    (heard_adds refl (rw c.in-Ok-Closed.field-0-is at c.in-Ok-Closed.ensures.answer)) c.requires.uses

pub returns-in-Ok-Spent-clause-uses : goal.returns-in-Ok-Spent-clause-uses
returns-in-Ok-Spent-clause-uses g c = uses_still _ _ _ _ _ _ (met_adds refl (rw c.in-Ok-Spent.field-0-is at c.in-Ok-Spent.ensures.answer))
    c.requires.uses
