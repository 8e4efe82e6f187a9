use Rattle.std.proofs.Common.{None, inl, sym, ap, subst, ◌∙◌}
use Rattle.channel_model.specs.Answers.{StandsNothing, DrainAnswer}
use Rattle.cell_words.specs.declared.found.Removal.TheVariants as removal
use Rattle.cell_words.specs.Hubs.{shape_of, seen_by}
use Rattle.cell_words.specs.Seen.{Makes, tags_given}
use Rattle.cell_words.specs.Answers.{RemovesFrom}
use Rattle.cell_words.proofs.LooksAtCells.{hub_legal, below_seen, sees_then}
use Rattle.cell_calls.specs.HubFloors.{hub_floor}
use Rattle.cell_calls.proofs.CallsTell.{too_far, same_floor, seen_of, drained_of, voided_seen}
use Rattle.cell_calls.proofs.PlacesPassed.{removed_past}
use Rattle.cell_calls.proofs.cancelling.drain.Goals.{in-Waiting+in-None, in-Kept+else-remove_kept, in-Gone}
use Rattle.cell_calls.proofs.cancelling.drain.Goals as goal

pub remove_offer-requires-clause-may : goal.remove_offer-requires-clause-may
remove_offer-requires-clause-may c = voided_seen (shape_of c.args.hub.now) c.args.c (seen_by c.args.pass.now)
    (seen_by c.try_await_at.new.pass) (sees_then _ _ _ c.loop-place.invariant.sees c.in-Waiting.ensures.at.0)
    (hub_legal c.args.hub.now c.try_await_at.new.pass c.try_await_at.ensures.own.0) c.requires.voided

pub remove_kept-requires-clause-may : goal.remove_kept-requires-clause-may
remove_kept-requires-clause-may c = voided_seen (shape_of c.args.hub.now) c.args.c (seen_by c.args.pass.now)
    (seen_by c.try_await_at.new.pass) (sees_then _ _ _ c.loop-place.invariant.sees c.in-Kept.ensures.at.0)
    (hub_legal c.args.hub.now c.try_await_at.new.pass c.try_await_at.ensures.own.0) c.requires.voided

pub raise_receives-requires-clause-low : goal.raise_receives-requires-clause-low
raise_receives-requires-clause-low c = let t = c.in-Some.ensures.removed in
    removed_past (shape_of c.args.hub.now) c.args.who c.args.c c.loop-place.place t.then (seen_by c.remove_offer.new.pass)
    (hub_legal c.args.hub.now c.remove_offer.new.pass c.remove_offer.ensures.own.0) removal.Drain tt _ _ t.removes

pub returns-in-Some-clause-answer : goal.returns-in-Some-clause-answer
returns-in-Some-clause-answer c = let t = c.in-Some.ensures.removed in
    drained_of c.args.hub.now c.args.who c.args.pass.now c.raise_receives.new.pass t.then c.args.c c.loop-place.place _ _
    c.requires.can.caller (sees_then _ _ _ c.loop-place.invariant.sees (sees_then _ _ _ c.in-Waiting.ensures.at.0 t.sees))
    (subst (RemovesFrom removal.Drain c.args.who c.args.c c.loop-place.place _ _ t.then) (sym c.raise_receives.ensures.same) t.removes)

pub returns-in-Some-clause-giving : goal.returns-in-Some-clause-giving
returns-in-Some-clause-giving c = let t = c.in-Some.ensures.removed in
    (subst (Makes t.then _) (sym c.raise_receives.ensures.same) t.removes.made).giving ∙ t.sees.giving ∙ c.in-Waiting.ensures.at.0.giving
    ∙ c.loop-place.invariant.sees.giving

pub remove_kept-requires-clause-kept : goal.remove_kept-requires-clause-kept
remove_kept-requires-clause-kept c = inl c.in-Kept.ensures.at.2

pub raise_receives-requires-then-remove_kept-clause-low : goal.raise_receives-requires-then-remove_kept-clause-low
raise_receives-requires-then-remove_kept-clause-low c =
    removed_past (shape_of c.args.hub.now) c.args.who c.args.c c.loop-place.place (seen_by c.try_await_at.new.pass)
    (seen_by c.remove_kept.new.pass) (hub_legal c.args.hub.now c.remove_kept.new.pass c.remove_kept.ensures.own.0) removal.Drain tt _ _
    (rw c.if-remove_kept.true at c.remove_kept.ensures.removed)

pub returns-then-remove_kept-clause-answer : goal.returns-then-remove_kept-clause-answer
returns-then-remove_kept-clause-answer c = let w = seen_by c.try_await_at.new.pass in
    drained_of c.args.hub.now c.args.who c.args.pass.now c.raise_receives-then-remove_kept.new.pass w c.args.c c.loop-place.place _ None
    c.requires.can.caller (sees_then _ _ _ c.loop-place.invariant.sees c.in-Kept.ensures.at.0)
    (subst (RemovesFrom removal.Drain c.args.who c.args.c c.loop-place.place _ None w) (sym c.raise_receives-then-remove_kept.ensures.same)
    c.if-remove_kept.ensures.removed)

pub returns-then-remove_kept-clause-giving : goal.returns-then-remove_kept-clause-giving
returns-then-remove_kept-clause-giving c =
    (subst (RemovesFrom removal.Drain c.args.who c.args.c c.loop-place.place _ None (seen_by c.try_await_at.new.pass))
    (sym c.raise_receives-then-remove_kept.ensures.same) c.if-remove_kept.ensures.removed).made.giving ∙ c.in-Kept.ensures.at.0.giving
    ∙ c.loop-place.invariant.sees.giving

pub raise_receives-requires-in-Closed-clause-low : goal.raise_receives-requires-in-Closed-clause-low
raise_receives-requires-in-Closed-clause-low c = below_seen (shape_of c.args.hub.now) 0 c.loop-place.place c.args.c
    (seen_by c.loop-place.pass) (seen_by c.try_await_at.new.pass) c.in-Closed.ensures.at.0
    (hub_legal c.args.hub.now c.try_await_at.new.pass c.try_await_at.ensures.own.0) c.loop-place.invariant.low

pub returns-in-Closed-clause-answer : goal.returns-in-Closed-clause-answer
returns-in-Closed-clause-answer c = let t = c.in-Closed.ensures.at in
    same_floor c.args.hub.now c.try_await_at.new.pass c.raise_receives-in-Closed.new.pass
    (λ f. DrainAnswer c.args.who c.args.c (hub_floor c.args.hub.now c.args.pass.now) f None) c.raise_receives-in-Closed.ensures.same
    (seen_of c.args.hub.now c.args.who c.args.pass.now c.try_await_at.new.pass (StandsNothing c.args.c) c.requires.can.caller
    (sees_then _ _ _ c.loop-place.invariant.sees t.0) t.2)

pub returns-in-Closed-clause-giving : goal.returns-in-Closed-clause-giving
returns-in-Closed-clause-giving c = ap tags_given c.raise_receives-in-Closed.ensures.same ∙ c.in-Closed.ensures.at.0.giving
    ∙ c.loop-place.invariant.sees.giving

pub returns-in-Open-clause-answer : goal.returns-in-Open-clause-answer
returns-in-Open-clause-answer c = let t = c.in-Open.ensures.at
    in seen_of c.args.hub.now c.args.who c.args.pass.now c.try_await_at.new.pass (StandsNothing c.args.c) c.requires.can.caller
    (sees_then _ _ _ c.loop-place.invariant.sees t.0) t.1.nothing

pub returns-in-Open-clause-giving : goal.returns-in-Open-clause-giving
returns-in-Open-clause-giving c = c.in-Open.ensures.at.0.giving ∙ c.loop-place.invariant.sees.giving

pub loop-place-preserved : goal.loop-place-preserved
loop-place-preserved c = let i = c.loop-place.invariant in elim c.match-try_await_at.branch [
  | in-Waiting+in-None w ↦ let un = w.in-None.ensures.removed
      in rw w.pass-is (record {
        own = w.remove_offer.ensures.own;
        sees =
            sees_then _ _ _ i.sees (sees_then _ _ _ w.in-Waiting.ensures.at.0 un.0);
        low = un.1;
      })
  | in-Kept+else-remove_kept w ↦ let un = rw w.if-remove_kept.false at w.remove_kept.ensures.removed
      in rw w.pass-is (record {
        own = w.remove_kept.ensures.own;
        sees =
            sees_then _ _ _ i.sees (sees_then _ _ _ w.in-Kept.ensures.at.0 un.0);
        low = un.1;
      })
  | in-Gone w ↦ rw w.pass-is (record {
    own = c.try_await_at.ensures.own;
    sees = sees_then _ _ _ i.sees w.in-Gone.ensures.at.0;
    low =
        w.in-Gone.ensures.at.1;
  })
]

pub loop-place-init : goal.loop-place-init
loop-place-init c = record {
  own = c.receives_from-from.ensures.own;
  sees = c.receives_from-from.ensures.sees;
  low =
      c.receives_from-from.ensures.low;
}

pub unreachable-requires-2 : goal.unreachable-requires-2
unreachable-requires-2 c = too_far (shape_of c.args.hub.now) (seen_by c.loop-place.pass).seen c.args.c c.loop-place.place
    c.places_of-places.result (hub_legal c.args.hub.now c.loop-place.pass c.loop-place.invariant.own.0)
    c.loop-place.invariant.low.given_offers c.places_of-places.ensures c.loop-place-test.false
