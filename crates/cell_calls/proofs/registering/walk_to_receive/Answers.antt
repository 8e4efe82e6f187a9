use Rattle.std.proofs.Common.{◌∙◌}
use Rattle.channel_model.specs.Answers.{IsSpentForReceives}
use Rattle.channel_model.specs.Registers.{StandsOffer}
use Rattle.cell_words.specs.Hubs.{shape_of, seen_by}
use Rattle.cell_words.specs.Seen.{at_channel}
use Rattle.cell_words.proofs.LooksAtCells.{hub_legal, below_seen, none_below_start, sees_then}
use Rattle.cell_words.proofs.StandsAtPlaces.{kept_first, offers_given}
use Rattle.cell_calls.specs.Registrations.{IsMainStanding}
use Rattle.cell_calls.proofs.CallsTell.{too_far, looked_of, made_of, step_of, moment_of, moment_seen, seen_of, closed_of, prefix_seen, prefix_made}
use Rattle.cell_calls.proofs.PlacesPassed.{awaited_past}
use Rattle.cell_calls.proofs.WaitsOfSelects.{own_main, may_place_later}
use Rattle.cell_calls.proofs.registering.walk_to_receive.Goals.{in-Waiting+else-offer_stands, in-Gone}
use Rattle.cell_calls.proofs.registering.walk_to_receive.Goals as goal

pub is_resolved-requires-clause-main : goal.is_resolved-requires-clause-main
is_resolved-requires-clause-main c = own_main c.args.hub.now c.args.pass.now c.args.who c.args.clause c.args.c
    (hub_legal c.args.hub.now c.args.pass.now c.requires.of) c.args.main c.requires.joins

pub returns-then-is_resolved-clause-answer : goal.returns-then-is_resolved-clause-answer
returns-then-is_resolved-clause-answer c = (
  looked_of c.args.hub.now c.args.who c.args.pass.now c.is_resolved.new.pass c.requires.can.caller
      c.is_resolved.ensures.sees,
  c.if-is_resolved.ensures.resolved,
)

pub returns-then-is_resolved-clause-giving : goal.returns-then-is_resolved-clause-giving
returns-then-is_resolved-clause-giving c = c.is_resolved.ensures.sees.giving

pub await_clause_at-requires-clause-may : goal.await_clause_at-requires-clause-may
await_clause_at-requires-clause-may c = may_place_later c.args.hub.now c.args.pass.now c.args.who c.args.clause c.args.c
    (hub_legal c.args.hub.now c.args.pass.now c.requires.of) c.args.main (seen_by c.loop-place.pass) c.requires.can.caller
    c.loop-place.invariant.sees (hub_legal c.args.hub.now c.loop-place.pass c.loop-place.invariant.own.0) c.requires.joins

pub returns-then-is_resolved-clause-low : goal.returns-then-is_resolved-clause-low
returns-then-is_resolved-clause-low c = none_below_start (at_channel (seen_by c.is_resolved.new.pass).seen c.args.c)

pub returns-in-Placed-clause-low : goal.returns-in-Placed-clause-low
returns-in-Placed-clause-low c = awaited_past (shape_of c.args.hub.now) c.args.who c.args.c c.loop-place.place (seen_by c.loop-place.pass)
    (seen_by c.await_clause_at.new.pass) (hub_legal c.args.hub.now c.await_clause_at.new.pass c.await_clause_at.ensures.own.0) _ _
    c.in-Placed.ensures.at

pub returns-in-Placed-clause-answer : goal.returns-in-Placed-clause-answer
returns-in-Placed-clause-answer c = made_of c.args.hub.now c.args.who c.args.pass.now c.await_clause_at.new.pass (seen_by c.loop-place.pass)
    _ c.requires.can.caller c.loop-place.invariant.sees c.in-Placed.ensures.at

pub returns-in-Placed-clause-giving : goal.returns-in-Placed-clause-giving
returns-in-Placed-clause-giving c = c.in-Placed.ensures.at.giving ∙ c.loop-place.invariant.sees.giving

pub returns-in-Placed-clause-first : goal.returns-in-Placed-clause-first
returns-in-Placed-clause-first c = moment_seen c.args.hub.now c.args.who c.args.pass.now c.loop-place.pass c.await_clause_at.new.pass
    (IsMainStanding c.args.main) c.loop-place.invariant.first
    (prefix_made (seen_by c.loop-place.pass) (seen_by c.await_clause_at.new.pass) _ c.in-Placed.ensures.at)

pub returns-then-offer_stands-clause-low : goal.returns-then-offer_stands-clause-low
returns-then-offer_stands-clause-low c = below_seen (shape_of c.args.hub.now) 0 c.loop-place.place c.args.c (seen_by c.loop-place.pass)
    (seen_by c.offer_stands.new.pass) (sees_then _ _ _ c.in-Waiting.ensures.at.0 c.if-offer_stands.ensures.stands.0)
    (hub_legal c.args.hub.now c.offer_stands.new.pass c.offer_stands.ensures.own.0) c.loop-place.invariant.low

pub returns-then-offer_stands-clause-answer : goal.returns-then-offer_stands-clause-answer
returns-then-offer_stands-clause-answer c =
    let t = c.if-offer_stands.ensures.stands in
    let s = sees_then _ _ _ c.loop-place.invariant.sees c.in-Waiting.ensures.at.0 in (
      looked_of c.args.hub.now c.args.who c.args.pass.now c.offer_stands.new.pass c.requires.can.caller (sees_then _ _ _ s t.0),
      step_of c.args.hub.now c.args.who c.args.pass.now c.offer_stands.new.pass (seen_by c.await_clause_at.new.pass)
          (StandsOffer c.args.c c.loop-place.place) s (prefix_seen (seen_by c.await_clause_at.new.pass) (seen_by c.offer_stands.new.pass)
          t.0)
          t.1,
    )

pub returns-then-offer_stands-clause-giving : goal.returns-then-offer_stands-clause-giving
returns-then-offer_stands-clause-giving c = c.if-offer_stands.ensures.stands.0.giving ∙ c.in-Waiting.ensures.at.0.giving
    ∙ c.loop-place.invariant.sees.giving

pub returns-then-offer_stands-clause-first : goal.returns-then-offer_stands-clause-first
returns-then-offer_stands-clause-first c = moment_seen c.args.hub.now c.args.who c.args.pass.now c.loop-place.pass c.offer_stands.new.pass
    (IsMainStanding c.args.main) c.loop-place.invariant.first
    (prefix_seen _ _ (sees_then _ _ _ c.in-Waiting.ensures.at.0 c.if-offer_stands.ensures.stands.0))

pub offer_stands-requires-clause-given : goal.offer_stands-requires-clause-given
offer_stands-requires-clause-given c = offers_given (shape_of c.args.hub.now) (seen_by c.await_clause_at.new.pass).seen c.args.c
    c.loop-place.place _ (hub_legal c.args.hub.now c.await_clause_at.new.pass c.await_clause_at.ensures.own.0) c.in-Waiting.ensures.at.2

pub returns-in-Kept-clause-low : goal.returns-in-Kept-clause-low
returns-in-Kept-clause-low c = below_seen (shape_of c.args.hub.now) 0 c.loop-place.place c.args.c (seen_by c.loop-place.pass)
    (seen_by c.await_clause_at.new.pass) c.in-Kept.ensures.at.0
    (hub_legal c.args.hub.now c.await_clause_at.new.pass c.await_clause_at.ensures.own.0) c.loop-place.invariant.low

pub returns-in-Kept-clause-answer : goal.returns-in-Kept-clause-answer
returns-in-Kept-clause-answer c = let t = c.in-Kept.ensures.at in
    seen_of c.args.hub.now c.args.who c.args.pass.now c.await_clause_at.new.pass (StandsOffer c.args.c c.loop-place.place)
    c.requires.can.caller (sees_then _ _ _ c.loop-place.invariant.sees t.0)
    (kept_first (shape_of c.args.hub.now) (seen_by c.await_clause_at.new.pass).seen c.args.c c.loop-place.place _
    (hub_legal c.args.hub.now c.await_clause_at.new.pass c.await_clause_at.ensures.own.0) t.1 t.2)

pub returns-in-Kept-clause-giving : goal.returns-in-Kept-clause-giving
returns-in-Kept-clause-giving c = c.in-Kept.ensures.at.0.giving ∙ c.loop-place.invariant.sees.giving

pub returns-in-Kept-clause-first : goal.returns-in-Kept-clause-first
returns-in-Kept-clause-first c = moment_seen c.args.hub.now c.args.who c.args.pass.now c.loop-place.pass c.await_clause_at.new.pass
    (IsMainStanding c.args.main) c.loop-place.invariant.first (prefix_seen _ _ c.in-Kept.ensures.at.0)

pub returns-in-Closed-clause-low : goal.returns-in-Closed-clause-low
returns-in-Closed-clause-low c = below_seen (shape_of c.args.hub.now) 0 c.loop-place.place c.args.c (seen_by c.loop-place.pass)
    (seen_by c.await_clause_at.new.pass) c.in-Closed.ensures.at.0
    (hub_legal c.args.hub.now c.await_clause_at.new.pass c.await_clause_at.ensures.own.0) c.loop-place.invariant.low

pub returns-in-Closed-clause-answer : goal.returns-in-Closed-clause-answer
returns-in-Closed-clause-answer c = let t = c.in-Closed.ensures.at
    in closed_of c.args.hub.now c.args.who c.args.pass.now c.await_clause_at.new.pass c.args.c _ c.requires.can.caller
    (sees_then _ _ _ c.loop-place.invariant.sees t.0) t.1 t.2

pub returns-in-Closed-clause-giving : goal.returns-in-Closed-clause-giving
returns-in-Closed-clause-giving c = c.in-Closed.ensures.at.0.giving ∙ c.loop-place.invariant.sees.giving

pub returns-in-Closed-clause-first : goal.returns-in-Closed-clause-first
returns-in-Closed-clause-first c = moment_seen c.args.hub.now c.args.who c.args.pass.now c.loop-place.pass c.await_clause_at.new.pass
    (IsMainStanding c.args.main) c.loop-place.invariant.first (prefix_seen _ _ c.in-Closed.ensures.at.0)

pub returns-in-Spent-clause-low : goal.returns-in-Spent-clause-low
returns-in-Spent-clause-low c = below_seen (shape_of c.args.hub.now) 0 c.loop-place.place c.args.c (seen_by c.loop-place.pass)
    (seen_by c.await_clause_at.new.pass) c.in-Spent.ensures.at.0
    (hub_legal c.args.hub.now c.await_clause_at.new.pass c.await_clause_at.ensures.own.0) c.loop-place.invariant.low

pub returns-in-Spent-clause-answer : goal.returns-in-Spent-clause-answer
returns-in-Spent-clause-answer c = let t = c.in-Spent.ensures.at
    in seen_of c.args.hub.now c.args.who c.args.pass.now c.await_clause_at.new.pass (IsSpentForReceives (shape_of c.args.hub.now) c.args.c)
    c.requires.can.caller (sees_then _ _ _ c.loop-place.invariant.sees t.0) t.1

pub returns-in-Spent-clause-giving : goal.returns-in-Spent-clause-giving
returns-in-Spent-clause-giving c = c.in-Spent.ensures.at.0.giving ∙ c.loop-place.invariant.sees.giving

pub returns-in-Spent-clause-first : goal.returns-in-Spent-clause-first
returns-in-Spent-clause-first c = moment_seen c.args.hub.now c.args.who c.args.pass.now c.loop-place.pass c.await_clause_at.new.pass
    (IsMainStanding c.args.main) c.loop-place.invariant.first (prefix_seen _ _ c.in-Spent.ensures.at.0)

pub loop-place-preserved : goal.loop-place-preserved
loop-place-preserved c = let i = c.loop-place.invariant in elim c.match-await_clause_at.branch [
  | in-Waiting+else-offer_stands w ↦ let un = rw w.if-offer_stands.false at w.offer_stands.ensures.stands
      in let s = sees_then _ _ _ w.in-Waiting.ensures.at.0 un.0
      in rw w.pass-is (record {
        own = w.offer_stands.ensures.own;
        sees = sees_then _ _ _ i.sees s;
        low = un.1;
        first =
            moment_seen c.args.hub.now c.args.who c.args.pass.now c.loop-place.pass w.offer_stands.new.pass (IsMainStanding c.args.main)
            i.first
            (prefix_seen _ _ s);
      })
  | in-Gone w ↦ rw w.pass-is (record {
    own = c.await_clause_at.ensures.own;
    sees = sees_then _ _ _ i.sees w.in-Gone.ensures.at.0;
    low =
        w.in-Gone.ensures.at.1;
    first = moment_seen c.args.hub.now c.args.who c.args.pass.now c.loop-place.pass c.await_clause_at.new.pass
        (IsMainStanding c.args.main) i.first (prefix_seen _ _ w.in-Gone.ensures.at.0);
  })
]

pub loop-place-init : goal.loop-place-init
loop-place-init c = let r = c.is_resolved.ensures in let f = c.receives_from-from.ensures in record {
  own = f.own;
  sees = sees_then _ _ _ r.sees f.sees;
  low = f.low;
  first = moment_of c.args.hub.now c.args.who c.args.pass.now c.receives_from-from.new.pass (seen_by c.is_resolved.new.pass)
      (IsMainStanding c.args.main) c.requires.can.caller r.sees (prefix_seen _ _ f.sees)
      (rw c.if-is_resolved.false at c.is_resolved.ensures.resolved);
}

pub unreachable-requires-2 : goal.unreachable-requires-2
unreachable-requires-2 c = too_far (shape_of c.args.hub.now) (seen_by c.loop-place.pass).seen c.args.c c.loop-place.place
    c.places_of-places.result (hub_legal c.args.hub.now c.loop-place.pass c.loop-place.invariant.own.0)
    c.loop-place.invariant.low.given_offers c.places_of-places.ensures c.loop-place-test.false
