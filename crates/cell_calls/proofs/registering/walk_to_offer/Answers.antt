use Rattle.std.proofs.Common.{◌∙◌}
use Rattle.channel_model.specs.Answers.{IsSpentForOffers}
use Rattle.channel_model.specs.Registers.{StandsReceiver}
use Rattle.cell_words.specs.Hubs.{shape_of, seen_by}
use Rattle.cell_words.specs.Seen.{at_channel}
use Rattle.cell_words.proofs.LooksAtCells.{hub_legal, below_seen, none_below_start, sees_then}
use Rattle.cell_calls.specs.Registrations.{IsMainStanding}
use Rattle.cell_calls.proofs.CallsTell.{too_far, looked_of, made_of, moment_of, moment_seen, seen_of, prefix_seen, prefix_made}
use Rattle.cell_calls.proofs.PlacesPassed.{held_past}
use Rattle.cell_calls.proofs.WaitsOfSelects.{own_main, may_place_later}
use Rattle.cell_calls.proofs.registering.walk_to_offer.Goals.{in-Waiting+else-receiver_stands, in-Gone}
use Rattle.cell_calls.proofs.registering.walk_to_offer.Goals as goal

pub is_resolved-requires-clause-main : goal.is_resolved-requires-clause-main
is_resolved-requires-clause-main c = own_main c.args.hub.now c.args.pass.now c.args.who c.args.clause c.args.c
    (hub_legal c.args.hub.now c.args.pass.now c.requires.of) c.args.main c.requires.joins

pub returns-then-is_resolved-clause-answer : goal.returns-then-is_resolved-clause-answer
returns-then-is_resolved-clause-answer c = (
  looked_of c.args.hub.now c.args.who c.args.pass.now c.is_resolved.new.pass c.requires.can.caller
      c.is_resolved.ensures.sees,
  c.if-is_resolved.ensures.resolved,
)

pub returns-then-is_resolved-clause-giving : goal.returns-then-is_resolved-clause-giving
returns-then-is_resolved-clause-giving c = c.is_resolved.ensures.sees.giving

pub offer_clause_at-requires-clause-may : goal.offer_clause_at-requires-clause-may
offer_clause_at-requires-clause-may c = may_place_later c.args.hub.now c.args.pass.now c.args.who c.args.clause c.args.c
    (hub_legal c.args.hub.now c.args.pass.now c.requires.of) c.args.main (seen_by c.loop-place.pass) c.requires.can.caller
    c.loop-place.invariant.sees (hub_legal c.args.hub.now c.loop-place.pass c.loop-place.invariant.own.0) c.requires.joins

pub returns-then-is_resolved-clause-low : goal.returns-then-is_resolved-clause-low
returns-then-is_resolved-clause-low c = none_below_start (at_channel (seen_by c.is_resolved.new.pass).seen c.args.c)

pub returns-in-Placed-clause-low : goal.returns-in-Placed-clause-low
returns-in-Placed-clause-low c = held_past (shape_of c.args.hub.now) c.args.who c.args.c c.loop-place.place (seen_by c.loop-place.pass)
    (seen_by c.offer_clause_at.new.pass) (hub_legal c.args.hub.now c.offer_clause_at.new.pass c.offer_clause_at.ensures.own.0) _ _ _
    c.in-Placed.ensures.at

pub returns-in-Placed-clause-answer : goal.returns-in-Placed-clause-answer
returns-in-Placed-clause-answer c = made_of c.args.hub.now c.args.who c.args.pass.now c.offer_clause_at.new.pass (seen_by c.loop-place.pass)
    _ c.requires.can.caller c.loop-place.invariant.sees c.in-Placed.ensures.at

pub returns-in-Placed-clause-giving : goal.returns-in-Placed-clause-giving
returns-in-Placed-clause-giving c = c.in-Placed.ensures.at.giving ∙ c.loop-place.invariant.sees.giving

pub returns-in-Placed-clause-first : goal.returns-in-Placed-clause-first
returns-in-Placed-clause-first c = moment_seen c.args.hub.now c.args.who c.args.pass.now c.loop-place.pass c.offer_clause_at.new.pass
    (IsMainStanding c.args.main) c.loop-place.invariant.first
    (prefix_made (seen_by c.loop-place.pass) (seen_by c.offer_clause_at.new.pass) _ c.in-Placed.ensures.at)

pub returns-then-receiver_stands-clause-low : goal.returns-then-receiver_stands-clause-low
returns-then-receiver_stands-clause-low c = below_seen (shape_of c.args.hub.now) c.loop-place.place 0 c.args.c (seen_by c.loop-place.pass)
    (seen_by c.receiver_stands.new.pass) (sees_then _ _ _ c.in-Waiting.ensures.at.0 c.if-receiver_stands.ensures.stands.0)
    (hub_legal c.args.hub.now c.receiver_stands.new.pass c.receiver_stands.ensures.own.0) c.loop-place.invariant.low

pub returns-then-receiver_stands-clause-answer : goal.returns-then-receiver_stands-clause-answer
returns-then-receiver_stands-clause-answer c = let t = c.if-receiver_stands.ensures.stands in
    seen_of c.args.hub.now c.args.who c.args.pass.now c.receiver_stands.new.pass (StandsReceiver c.args.c c.loop-place.place)
    c.requires.can.caller (sees_then _ _ _ c.loop-place.invariant.sees (sees_then _ _ _ c.in-Waiting.ensures.at.0 t.0)) t.1

pub returns-then-receiver_stands-clause-giving : goal.returns-then-receiver_stands-clause-giving
returns-then-receiver_stands-clause-giving c = c.if-receiver_stands.ensures.stands.0.giving ∙ c.in-Waiting.ensures.at.0.giving
    ∙ c.loop-place.invariant.sees.giving

pub returns-then-receiver_stands-clause-first : goal.returns-then-receiver_stands-clause-first
returns-then-receiver_stands-clause-first c = moment_seen c.args.hub.now c.args.who c.args.pass.now c.loop-place.pass
    c.receiver_stands.new.pass (IsMainStanding c.args.main) c.loop-place.invariant.first
    (prefix_seen _ _ (sees_then _ _ _ c.in-Waiting.ensures.at.0 c.if-receiver_stands.ensures.stands.0))

pub returns-in-Closed-clause-low : goal.returns-in-Closed-clause-low
returns-in-Closed-clause-low c = below_seen (shape_of c.args.hub.now) c.loop-place.place 0 c.args.c (seen_by c.loop-place.pass)
    (seen_by c.offer_clause_at.new.pass) c.in-Closed.ensures.at.0
    (hub_legal c.args.hub.now c.offer_clause_at.new.pass c.offer_clause_at.ensures.own.0) c.loop-place.invariant.low

pub returns-in-Closed-clause-answer : goal.returns-in-Closed-clause-answer
returns-in-Closed-clause-answer c = let t = c.in-Closed.ensures.at
    in record {
      looked = looked_of c.args.hub.now c.args.who c.args.pass.now c.offer_clause_at.new.pass c.requires.can.caller
          (sees_then _ _ _ c.loop-place.invariant.sees t.0);
      is_closed = t.1;
    }

pub returns-in-Closed-clause-giving : goal.returns-in-Closed-clause-giving
returns-in-Closed-clause-giving c = c.in-Closed.ensures.at.0.giving ∙ c.loop-place.invariant.sees.giving

pub returns-in-Closed-clause-first : goal.returns-in-Closed-clause-first
returns-in-Closed-clause-first c = moment_seen c.args.hub.now c.args.who c.args.pass.now c.loop-place.pass c.offer_clause_at.new.pass
    (IsMainStanding c.args.main) c.loop-place.invariant.first (prefix_seen _ _ c.in-Closed.ensures.at.0)

pub returns-in-Spent-clause-low : goal.returns-in-Spent-clause-low
returns-in-Spent-clause-low c = below_seen (shape_of c.args.hub.now) c.loop-place.place 0 c.args.c (seen_by c.loop-place.pass)
    (seen_by c.offer_clause_at.new.pass) c.in-Spent.ensures.at.0
    (hub_legal c.args.hub.now c.offer_clause_at.new.pass c.offer_clause_at.ensures.own.0) c.loop-place.invariant.low

pub returns-in-Spent-clause-answer : goal.returns-in-Spent-clause-answer
returns-in-Spent-clause-answer c = let t = c.in-Spent.ensures.at
    in seen_of c.args.hub.now c.args.who c.args.pass.now c.offer_clause_at.new.pass (IsSpentForOffers (shape_of c.args.hub.now) c.args.c)
    c.requires.can.caller (sees_then _ _ _ c.loop-place.invariant.sees t.0) t.1

pub returns-in-Spent-clause-giving : goal.returns-in-Spent-clause-giving
returns-in-Spent-clause-giving c = c.in-Spent.ensures.at.0.giving ∙ c.loop-place.invariant.sees.giving

pub returns-in-Spent-clause-first : goal.returns-in-Spent-clause-first
returns-in-Spent-clause-first c = moment_seen c.args.hub.now c.args.who c.args.pass.now c.loop-place.pass c.offer_clause_at.new.pass
    (IsMainStanding c.args.main) c.loop-place.invariant.first (prefix_seen _ _ c.in-Spent.ensures.at.0)

pub loop-place-preserved : goal.loop-place-preserved
loop-place-preserved c = let i = c.loop-place.invariant in elim c.match-offer_clause_at.branch [
  | in-Waiting+else-receiver_stands w ↦ let un = rw w.if-receiver_stands.false at w.receiver_stands.ensures.stands
      in let s = sees_then _ _ _ w.in-Waiting.ensures.at.0 un.0
      in rw w.pass-is (record {
        own = w.receiver_stands.ensures.own;
        sees = sees_then _ _ _ i.sees s;
        low = un.1;
        first =
            moment_seen c.args.hub.now c.args.who c.args.pass.now c.loop-place.pass w.receiver_stands.new.pass (IsMainStanding c.args.main)
            i.first (prefix_seen _ _ s);
      })
  | in-Gone w ↦ rw w.pass-is (record {
    own = c.offer_clause_at.ensures.own;
    sees = sees_then _ _ _ i.sees w.in-Gone.ensures.at.0;
    low =
        w.in-Gone.ensures.at.1;
    first = moment_seen c.args.hub.now c.args.who c.args.pass.now c.loop-place.pass c.offer_clause_at.new.pass
        (IsMainStanding c.args.main) i.first (prefix_seen _ _ w.in-Gone.ensures.at.0);
  })
]

pub loop-place-init : goal.loop-place-init
loop-place-init c = let r = c.is_resolved.ensures in let f = c.sends_from-from.ensures in record {
  own = f.own;
  sees = sees_then _ _ _ r.sees f.sees;
  low = f.low;
  first = moment_of c.args.hub.now c.args.who c.args.pass.now c.sends_from-from.new.pass (seen_by c.is_resolved.new.pass)
      (IsMainStanding c.args.main) c.requires.can.caller r.sees (prefix_seen _ _ f.sees)
      (rw c.if-is_resolved.false at c.is_resolved.ensures.resolved);
}

pub unreachable-requires-2 : goal.unreachable-requires-2
unreachable-requires-2 c = too_far (shape_of c.args.hub.now) (seen_by c.loop-place.pass).seen c.args.c c.loop-place.place
    c.places_of-places.result (hub_legal c.args.hub.now c.loop-place.pass c.loop-place.invariant.own.0) c.loop-place.invariant.low.given
    c.places_of-places.ensures c.loop-place-test.false
