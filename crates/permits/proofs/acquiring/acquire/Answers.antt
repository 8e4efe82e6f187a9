use Rattle.permits.proofs.UsesGo.{count_small, one_more_fits, uses_taking, uses_awaiting, uses_still, heard_adds, met_adds}
use Rattle.std.proofs.Common.{refl}
use Rattle.permits.proofs.acquiring.acquire.Goals as goal

pub overflow_add-held : goal.overflow_add-held
overflow_add-held g c =
    let f = c.args.x.now.floor.now in
    one_more_fits c.args.held.now (count_small _ _ _ _ _ (g.met.F.ChannelFloor.legal f) (g.met.F.ChannelFloor.shaped f) c.requires.uses)

pub returns-in-Ok-Value-clause-uses : goal.returns-in-Ok-Value-clause-uses
returns-in-Ok-Value-clause-uses g c = uses_taking (rw c.in-Ok-Value.field-0-is at c.in-Ok-Value.ensures.answer) c.requires.uses

pub returns-in-Ok-Waits-clause-uses : goal.returns-in-Ok-Waits-clause-uses
returns-in-Ok-Waits-clause-uses g c = uses_awaiting (rw c.in-Ok-Waits.field-0-is at c.in-Ok-Waits.ensures.answer) c.requires.uses

pub returns-in-Ok-Closed-clause-uses : goal.returns-in-Ok-Closed-clause-uses
returns-in-Ok-Closed-clause-uses g c = uses_still _ _ _ _ _ _
    (heard_adds refl (rw c.in-Ok-Closed.field-0-is at c.in-Ok-Closed.ensures.answer)) c.requires.uses

pub returns-in-Ok-Spent-clause-uses : goal.returns-in-Ok-Spent-clause-uses
returns-in-Ok-Spent-clause-uses g c = uses_still _ _ _ _ _ _ (met_adds refl (rw c.in-Ok-Spent.field-0-is at c.in-Ok-Spent.ensures.answer))
    c.requires.uses
