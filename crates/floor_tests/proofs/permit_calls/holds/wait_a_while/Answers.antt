use Rattle.std.proofs.Common.{ℕ, sym, ◌∙◌, subst}
use Rattle.floor_tests.specs.KnownPermits.{HoldsWait}
use Rattle.floor_tests.proofs.UsesKept.{same_then, uses_as}
use Rattle.floor_tests.proofs.permit_calls.holds.wait_a_while.Goals as goal

pub take_up_if_resolved-requires-clause-uses : goal.take_up_if_resolved-requires-clause-uses
take_up_if_resolved-requires-clause-uses g c = uses_as _ _ _ _ _ _ c.loop.invariant.same.who c.loop.invariant.uses

pub take_up_if_resolved-requires-clause-holds : goal.take_up_if_resolved-requires-clause-holds
take_up_if_resolved-requires-clause-holds g c =
    subst (λ (t : ℕ). HoldsWait t c.args.w (g.F.ChannelFloor.view c.loop.x.floor.now)) (sym c.loop.invariant.same.who)
    c.loop.invariant.holds

pub count_and_release-requires : goal.count_and_release-requires
count_and_release-requires g c = record {
  uses = uses_as _ _ _ _ _ _ c.take_up_if_resolved.ensures.same.who c.take_up_if_resolved.ensures.uses;
}

pub returns-in-Ok-Some-Held-clause-same : goal.returns-in-Ok-Some-Held-clause-same
returns-in-Ok-Some-Held-clause-same g c =
    same_then _ _ _ (same_then _ _ _ c.loop.invariant.same c.take_up_if_resolved.ensures.same) c.count_and_release.ensures.same

pub returns-in-Ok-Some-Held-clause-uses : goal.returns-in-Ok-Some-Held-clause-uses
returns-in-Ok-Some-Held-clause-uses g c =
    uses_as _ _ _ _ _ _ (sym (c.take_up_if_resolved.ensures.same.who ∙ c.loop.invariant.same.who)) c.count_and_release.ensures.uses

pub returns-in-Ok-Some : goal.returns-in-Ok-Some
returns-in-Ok-Some g c = record {
  same = same_then _ _ _ c.loop.invariant.same c.take_up_if_resolved.ensures.same;
  uses = uses_as _ _ _ _ _ _ (sym c.loop.invariant.same.who) c.take_up_if_resolved.ensures.uses;
}

pub returns-in-Err-clause-same : goal.returns-in-Err-clause-same
returns-in-Err-clause-same g c = same_then _ _ _ c.loop.invariant.same c.take_up_if_resolved.ensures.same

pub returns-in-Err-clause-uses : goal.returns-in-Err-clause-uses
returns-in-Err-clause-uses g c = uses_as _ _ _ _ _ _ (sym c.loop.invariant.same.who) c.take_up_if_resolved.ensures.uses

pub give_up-requires-clause-uses : goal.give_up-requires-clause-uses
give_up-requires-clause-uses g c = uses_as _ _ _ _ _ _ c.loop.invariant.same.who c.loop.invariant.uses

pub give_up-requires-clause-holds : goal.give_up-requires-clause-holds
give_up-requires-clause-holds g c =
    subst (λ (t : ℕ). HoldsWait t c.args.w (g.F.ChannelFloor.view c.loop.x.floor.now)) (sym c.loop.invariant.same.who)
    c.loop.invariant.holds

pub returns-clause-same : goal.returns-clause-same
returns-clause-same g c = same_then _ _ _ c.loop.invariant.same c.give_up.ensures.same

pub returns-clause-uses : goal.returns-clause-uses
returns-clause-uses g c = uses_as _ _ _ _ _ _ (sym c.loop.invariant.same.who) c.give_up.ensures.uses
