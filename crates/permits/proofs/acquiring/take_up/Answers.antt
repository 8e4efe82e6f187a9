use Rattle.permits.proofs.UsesGo.{count_small, one_more_fits, uses_ending, uses_ending_none}
use Rattle.permits.proofs.PlainWaits.{never_sent, never_undelivered}
use Rattle.std.specs.List.{list_all}
use Rattle.std.proofs.Common.{refl, subst, sym, ◌≡◌, ℕ, true}
use Rattle.channel_model.specs.Histories.{acts_of}
use Rattle.permits.specs.Parts.{is_permit_act}
use Rattle.permits.proofs.acquiring.take_up.Goals as goal

pub overflow_add-held : goal.overflow_add-held
overflow_add-held g c =
    let f = c.args.x.now.floor.now in
    one_more_fits c.args.held.now (count_small _ _ _ _ _ (g.met.F.ChannelFloor.legal f) (g.met.F.ChannelFloor.shaped f) c.requires.uses)

pub unreachable-requires : goal.unreachable-requires
unreachable-requires g c =
    let f = c.args.x.now.floor.now in
    let e = rw c.in-Ok-Sent.field-0-is at c.in-Ok-Sent.ensures.answer.1 in
    never_sent _ _ _ _ _ (g.met.F.ChannelFloor.legal f)
    (subst (λ (d : ℕ). list_all (is_permit_act d) (acts_of c.args.x.now.who (g.F.ChannelFloor.view f).seen) ≡ true) (sym c.requires.here)
    c.requires.uses.holds.part.fits)
    c.requires.ready
    e

pub unreachable-requires-in-Ok-Undelivered : goal.unreachable-requires-in-Ok-Undelivered
unreachable-requires-in-Ok-Undelivered g c = never_undelivered _ _
    (rw c.in-Ok-Undelivered.field-0-is at c.in-Ok-Undelivered.ensures.answer.1)

pub returns-in-Ok-Value-clause-uses : goal.returns-in-Ok-Value-clause-uses
returns-in-Ok-Value-clause-uses g c = uses_ending _ _ c.requires.here (rw c.in-Ok-Value.field-0-is at c.in-Ok-Value.ensures.answer)
    c.requires.uses

pub returns-in-Ok-Closed-clause-uses : goal.returns-in-Ok-Closed-clause-uses
returns-in-Ok-Closed-clause-uses g c = uses_ending_none _ _ c.requires.here (rw c.in-Ok-Closed.field-0-is at c.in-Ok-Closed.ensures.answer)
    refl c.requires.uses

pub returns-in-Ok-Cancelled-clause-uses : goal.returns-in-Ok-Cancelled-clause-uses
returns-in-Ok-Cancelled-clause-uses g c = uses_ending_none _ _ c.requires.here
    (rw c.in-Ok-Cancelled.field-0-is at c.in-Ok-Cancelled.ensures.answer) refl c.requires.uses
