use Rattle.std.proofs.Common.{None, inl, ◌∙◌}
use Rattle.channel_model.specs.Answers.{IsSpentForReceives, IsEmptyToTry}
use Rattle.cell_words.specs.declared.found.Removal.TheVariants as removal
use Rattle.cell_words.specs.Hubs.{shape_of, seen_by}
use Rattle.cell_words.proofs.LooksAtCells.{hub_legal, below_seen, sees_then}
use Rattle.cell_calls.proofs.CallsTell.{too_far, made_of, seen_of, closed_of, taken_of}
use Rattle.cell_calls.proofs.PlacesPassed.{awaited_past, removed_past}
use Rattle.cell_calls.proofs.receiving.walk_cells.Goals.{in-Waiting+in-None, in-Kept+else-remove_kept, in-Gone}
use Rattle.cell_calls.proofs.receiving.walk_cells.Goals as goal

pub returns-in-Placed-clause-low : goal.returns-in-Placed-clause-low
returns-in-Placed-clause-low c = awaited_past (shape_of c.args.hub.now) c.args.who c.args.c c.loop-place.place (seen_by c.loop-place.pass)
    (seen_by c.await_here.new.pass) (hub_legal c.args.hub.now c.await_here.new.pass c.await_here.ensures.own.0) _ _ c.in-Placed.ensures.at.1

pub returns-in-Placed-clause-walked : goal.returns-in-Placed-clause-walked
returns-in-Placed-clause-walked c = let h = c.in-Placed.ensures.at
    in (
      h.0,
      made_of c.args.hub.now c.args.who c.args.pass.now c.await_here.new.pass (seen_by c.loop-place.pass) _ c.requires.can.caller
          c.loop-place.invariant.sees h.1,
    )

pub returns-in-Placed-clause-giving : goal.returns-in-Placed-clause-giving
returns-in-Placed-clause-giving c = c.in-Placed.ensures.at.1.giving ∙ c.loop-place.invariant.sees.giving

pub returns-in-Some-clause-low : goal.returns-in-Some-clause-low
returns-in-Some-clause-low c = let t = c.in-Some.ensures.removed in
    removed_past (shape_of c.args.hub.now) c.args.who c.args.c c.loop-place.place t.then (seen_by c.remove_offer.new.pass)
    (hub_legal c.args.hub.now c.remove_offer.new.pass c.remove_offer.ensures.own.0) removal.Take tt _ _ t.removes

pub returns-in-Some-clause-walked : goal.returns-in-Some-clause-walked
returns-in-Some-clause-walked c = let t = c.in-Some.ensures.removed in
    taken_of c.args.hub.now c.args.who c.args.pass.now c.remove_offer.new.pass t.then c.args.c c.loop-place.place _ _ c.requires.can.caller
    (sees_then _ _ _ c.loop-place.invariant.sees (sees_then _ _ _ c.in-Waiting.ensures.at.0 t.sees)) t.removes

pub returns-in-Some-clause-giving : goal.returns-in-Some-clause-giving
returns-in-Some-clause-giving c = let t = c.in-Some.ensures.removed in
    t.removes.made.giving ∙ t.sees.giving ∙ c.in-Waiting.ensures.at.0.giving ∙ c.loop-place.invariant.sees.giving

pub remove_kept-requires-clause-kept : goal.remove_kept-requires-clause-kept
remove_kept-requires-clause-kept c = inl c.in-Kept.ensures.at.2

pub returns-then-remove_kept-clause-low : goal.returns-then-remove_kept-clause-low
returns-then-remove_kept-clause-low c =
    removed_past (shape_of c.args.hub.now) c.args.who c.args.c c.loop-place.place (seen_by c.await_here.new.pass)
    (seen_by c.remove_kept.new.pass) (hub_legal c.args.hub.now c.remove_kept.new.pass c.remove_kept.ensures.own.0) removal.Take tt _ _
    c.if-remove_kept.ensures.removed

pub returns-then-remove_kept-clause-walked : goal.returns-then-remove_kept-clause-walked
returns-then-remove_kept-clause-walked c =
    taken_of c.args.hub.now c.args.who c.args.pass.now c.remove_kept.new.pass (seen_by c.await_here.new.pass) c.args.c c.loop-place.place _
    None c.requires.can.caller (sees_then _ _ _ c.loop-place.invariant.sees c.in-Kept.ensures.at.0) c.if-remove_kept.ensures.removed

pub returns-then-remove_kept-clause-giving : goal.returns-then-remove_kept-clause-giving
returns-then-remove_kept-clause-giving c = c.if-remove_kept.ensures.removed.made.giving ∙ c.in-Kept.ensures.at.0.giving
    ∙ c.loop-place.invariant.sees.giving

pub returns-in-Open-clause-low : goal.returns-in-Open-clause-low
returns-in-Open-clause-low c = below_seen (shape_of c.args.hub.now) 0 c.loop-place.place c.args.c (seen_by c.loop-place.pass)
    (seen_by c.await_here.new.pass) c.in-Open.ensures.at.1.0 (hub_legal c.args.hub.now c.await_here.new.pass c.await_here.ensures.own.0)
    c.loop-place.invariant.low

pub returns-in-Open-clause-walked : goal.returns-in-Open-clause-walked
returns-in-Open-clause-walked c = let h = c.in-Open.ensures.at
    in (
      h.0,
      seen_of c.args.hub.now c.args.who c.args.pass.now c.await_here.new.pass (IsEmptyToTry c.args.c) c.requires.can.caller
          (sees_then _ _ _ c.loop-place.invariant.sees h.1.0) h.1.1,
    )

pub returns-in-Open-clause-giving : goal.returns-in-Open-clause-giving
returns-in-Open-clause-giving c = c.in-Open.ensures.at.1.0.giving ∙ c.loop-place.invariant.sees.giving

pub returns-in-Spent-clause-low : goal.returns-in-Spent-clause-low
returns-in-Spent-clause-low c = below_seen (shape_of c.args.hub.now) 0 c.loop-place.place c.args.c (seen_by c.loop-place.pass)
    (seen_by c.await_here.new.pass) c.in-Spent.ensures.at.1.0 (hub_legal c.args.hub.now c.await_here.new.pass c.await_here.ensures.own.0)
    c.loop-place.invariant.low

pub returns-in-Spent-clause-walked : goal.returns-in-Spent-clause-walked
returns-in-Spent-clause-walked c = let h = c.in-Spent.ensures.at
    in (
      h.0,
      seen_of c.args.hub.now c.args.who c.args.pass.now c.await_here.new.pass (IsSpentForReceives (shape_of c.args.hub.now) c.args.c)
          c.requires.can.caller (sees_then _ _ _ c.loop-place.invariant.sees h.1.0) h.1.1,
    )

pub returns-in-Spent-clause-giving : goal.returns-in-Spent-clause-giving
returns-in-Spent-clause-giving c = c.in-Spent.ensures.at.1.0.giving ∙ c.loop-place.invariant.sees.giving

pub returns-in-Closed-clause-low : goal.returns-in-Closed-clause-low
returns-in-Closed-clause-low c = below_seen (shape_of c.args.hub.now) 0 c.loop-place.place c.args.c (seen_by c.loop-place.pass)
    (seen_by c.await_here.new.pass) c.in-Closed.ensures.at.0 (hub_legal c.args.hub.now c.await_here.new.pass c.await_here.ensures.own.0)
    c.loop-place.invariant.low

pub returns-in-Closed-clause-walked : goal.returns-in-Closed-clause-walked
returns-in-Closed-clause-walked c = let t = c.in-Closed.ensures.at
    in closed_of c.args.hub.now c.args.who c.args.pass.now c.await_here.new.pass c.args.c _ c.requires.can.caller
    (sees_then _ _ _ c.loop-place.invariant.sees t.0) t.1 t.2

pub returns-in-Closed-clause-giving : goal.returns-in-Closed-clause-giving
returns-in-Closed-clause-giving c = c.in-Closed.ensures.at.0.giving ∙ c.loop-place.invariant.sees.giving

pub loop-place-preserved : goal.loop-place-preserved
loop-place-preserved c = let i = c.loop-place.invariant in elim c.match-await_here.branch [
  | in-Waiting+in-None w ↦ let un = w.in-None.ensures.removed
      in rw w.pass-is (record {
        own = w.remove_offer.ensures.own;
        sees =
            sees_then _ _ _ i.sees (sees_then _ _ _ w.in-Waiting.ensures.at.0 un.0);
        low = un.1;
      })
  | in-Kept+else-remove_kept w ↦ let un = rw w.if-remove_kept.false at w.remove_kept.ensures.removed
      in rw w.pass-is (record {
        own = w.remove_kept.ensures.own;
        sees =
            sees_then _ _ _ i.sees (sees_then _ _ _ w.in-Kept.ensures.at.0 un.0);
        low = un.1;
      })
  | in-Gone w ↦ rw w.pass-is (record {
    own = c.await_here.ensures.own;
    sees = sees_then _ _ _ i.sees w.in-Gone.ensures.at.0;
    low =
        w.in-Gone.ensures.at.1;
  })
]

pub loop-place-init : goal.loop-place-init
loop-place-init c = record {
  own = c.receives_from-from.ensures.own;
  sees = c.receives_from-from.ensures.sees;
  low =
      c.receives_from-from.ensures.low;
}

pub unreachable-requires-2 : goal.unreachable-requires-2
unreachable-requires-2 c = too_far (shape_of c.args.hub.now) (seen_by c.loop-place.pass).seen c.args.c c.loop-place.place
    c.places_of-places.result (hub_legal c.args.hub.now c.loop-place.pass c.loop-place.invariant.own.0)
    c.loop-place.invariant.low.given_offers c.places_of-places.ensures c.loop-place-test.false
