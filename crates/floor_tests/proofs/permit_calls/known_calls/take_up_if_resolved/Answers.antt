use Rattle.std.proofs.Common.{ℕ, sym, refl, ◌∙◌, subst}
use Rattle.channel_model.specs.Floors.{MayCall}
use Rattle.channel_model.proofs.Spans.{added_looked}
use Rattle.permits.proofs.UsesGo.{uses_still}
use Rattle.floor_tests.proofs.CallsAdd.{looked_adds, adds_then, take_up_adds}
use Rattle.floor_tests.proofs.ReadyWaits.{own_of, held_seen, ready_seen}
use Rattle.floor_tests.proofs.permit_calls.known_calls.take_up_if_resolved.Goals as goal

pub look-requires-clause-can : goal.look-requires-clause-can
look-requires-clause-can g c =
    let x = c.args.x.now in
    subst (λ (d : ℕ). MayCall x.who d (g.F.ChannelFloor.view x.floor.now)) (sym c.requires.here) c.requires.uses.holds.can

pub look-requires-clause-own : goal.look-requires-clause-own
look-requires-clause-own g c = own_of _ _ c.requires.holds

pub take_up-requires-clause-uses : goal.take_up-requires-clause-uses
take_up-requires-clause-uses g c = uses_still _ _ _ _ _ _ (added_looked _ _ _ c.look.ensures.answer.0) c.requires.uses

pub take_up-requires-clause-ready : goal.take_up-requires-clause-ready
take_up-requires-clause-ready g c = ready_seen _ _ _ _ (g.met.F.ChannelFloor.legal c.look.new.self) c.requires.holds
    c.in-Resolved.ensures.answer

pub returns-in-Ok-clause-same : goal.returns-in-Ok-clause-same
returns-in-Ok-clause-same g c =
    let t = c.take_up.ensures.same in
    record { floor = t.floor; book = t.book; wakes = t.wakes; who = t.who; anchor_is = t.anchor_is ∙ c.look.ensures.anchor }

pub returns-in-Ok-clause-adds : goal.returns-in-Ok-clause-adds
returns-in-Ok-clause-adds g c =
    adds_then _ _ _ _ (looked_adds _ _ _ c.in-Resolved.ensures.answer.0)
    (take_up_adds _ _ _ _ _ _ _ c.take_up.result c.take_up.ensures.answer)

pub returns-in-Ok-clause-uses : goal.returns-in-Ok-clause-uses
returns-in-Ok-clause-uses g c = c.take_up.ensures.uses

pub returns-in-Ok-clause-waits : goal.returns-in-Ok-clause-waits
returns-in-Ok-clause-waits g c = tt

pub returns-in-Err-clause-same : goal.returns-in-Err-clause-same
returns-in-Err-clause-same g c =
    let t = c.take_up.ensures.same in
    record { floor = t.floor; book = t.book; wakes = t.wakes; who = t.who; anchor_is = t.anchor_is ∙ c.look.ensures.anchor }

pub returns-in-Err-clause-adds : goal.returns-in-Err-clause-adds
returns-in-Err-clause-adds g c =
    adds_then _ _ _ _ (looked_adds _ _ _ c.in-Resolved.ensures.answer.0)
    (take_up_adds _ _ _ _ _ _ _ c.take_up.result c.take_up.ensures.answer)

pub returns-in-Err-clause-uses : goal.returns-in-Err-clause-uses
returns-in-Err-clause-uses g c = c.take_up.ensures.uses

pub returns-in-Err-clause-waits : goal.returns-in-Err-clause-waits
returns-in-Err-clause-waits g c = tt

pub returns-in-Standing-clause-same : goal.returns-in-Standing-clause-same
returns-in-Standing-clause-same g c =
    record { floor = refl; book = refl; wakes = refl; who = refl; anchor_is = c.look.ensures.anchor }

pub returns-in-Standing-clause-adds : goal.returns-in-Standing-clause-adds
returns-in-Standing-clause-adds g c = looked_adds _ _ _ c.in-Standing.ensures.answer.0

pub returns-in-Standing-clause-uses : goal.returns-in-Standing-clause-uses
returns-in-Standing-clause-uses g c = uses_still _ _ _ _ _ _ (added_looked _ _ _ c.in-Standing.ensures.answer.0) c.requires.uses

pub returns-in-Standing-clause-waits : goal.returns-in-Standing-clause-waits
returns-in-Standing-clause-waits g c =
    held_seen _ _ _ _ (g.met.F.ChannelFloor.legal c.look.new.self) c.in-Standing.ensures.answer.0 c.requires.holds

pub returns-in-Settled-clause-same : goal.returns-in-Settled-clause-same
returns-in-Settled-clause-same g c =
    record { floor = refl; book = refl; wakes = refl; who = refl; anchor_is = c.look.ensures.anchor }

pub returns-in-Settled-clause-adds : goal.returns-in-Settled-clause-adds
returns-in-Settled-clause-adds g c = looked_adds _ _ _ c.in-Settled.ensures.answer.0

pub returns-in-Settled-clause-uses : goal.returns-in-Settled-clause-uses
returns-in-Settled-clause-uses g c = uses_still _ _ _ _ _ _ (added_looked _ _ _ c.in-Settled.ensures.answer.0) c.requires.uses

pub returns-in-Settled-clause-waits : goal.returns-in-Settled-clause-waits
returns-in-Settled-clause-waits g c =
    held_seen _ _ _ _ (g.met.F.ChannelFloor.legal c.look.new.self) c.in-Settled.ensures.answer.0 c.requires.holds
