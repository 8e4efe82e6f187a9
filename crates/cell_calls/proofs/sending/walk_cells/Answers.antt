use Rattle.std.proofs.Common.{◌≡◌, None, ◌∙◌}
use Rattle.channel_model.specs.Channels.{State}
use Rattle.channel_model.specs.Answers.{IsSpentForOffers, IsFullAt, IsFullToTry}
use Rattle.cell_words.specs.Hubs.{shape_of, seen_by}
use Rattle.cell_words.proofs.LooksAtCells.{hub_legal, below_seen, sees_then}
use Rattle.cell_calls.proofs.CallsTell.{too_far, looked_of, made_of, step_of, moment_of, seen_of, prefix_seen, prefix_made}
use Rattle.cell_calls.proofs.PlacesPassed.{held_past, put_past, handed_past}
use Rattle.cell_calls.proofs.sending.walk_cells.Goals.{in-Waiting+in-Gone-give, in-Gone}
use Rattle.cell_calls.proofs.sending.walk_cells.Goals as goal

pub returns-in-Placed-clause-low : goal.returns-in-Placed-clause-low
returns-in-Placed-clause-low c = let p = c.in-Placed.ensures.at.1 in
    held_past (shape_of c.args.hub.now) c.args.who c.args.c c.loop-place.place p.then (seen_by c.offer_at.new.pass)
    (hub_legal c.args.hub.now c.offer_at.new.pass c.offer_at.ensures.own.0) _ _ _ p.made

pub returns-in-Placed-clause-walked : goal.returns-in-Placed-clause-walked
returns-in-Placed-clause-walked c =
    let h = c.in-Placed.ensures.at in
    let p = h.1 in
    let s = sees_then _ _ _ c.loop-place.invariant.sees p.sees in (
      h.0,
      (
        made_of c.args.hub.now c.args.who c.args.pass.now c.offer_at.new.pass p.then _ c.requires.can.caller s p.made,
        moment_of c.args.hub.now c.args.who c.args.pass.now c.offer_at.new.pass p.then (IsFullAt (shape_of c.args.hub.now) c.args.c)
            c.requires.can.caller s (prefix_made p.then (seen_by c.offer_at.new.pass) _ p.made) p.full,
      ),
    )

pub returns-in-Placed-clause-giving : goal.returns-in-Placed-clause-giving
returns-in-Placed-clause-giving c = let p = c.in-Placed.ensures.at.1 in p.made.giving ∙ p.sees.giving ∙ c.loop-place.invariant.sees.giving

pub returns-in-Put-clause-low : goal.returns-in-Put-clause-low
returns-in-Put-clause-low c = put_past (shape_of c.args.hub.now) c.args.who c.args.c c.loop-place.place (seen_by c.loop-place.pass)
    (seen_by c.offer_at.new.pass) (hub_legal c.args.hub.now c.offer_at.new.pass c.offer_at.ensures.own.0) _ c.in-Put.ensures.at

pub returns-in-Put-clause-walked : goal.returns-in-Put-clause-walked
returns-in-Put-clause-walked c = made_of c.args.hub.now c.args.who c.args.pass.now c.offer_at.new.pass (seen_by c.loop-place.pass) _
    c.requires.can.caller c.loop-place.invariant.sees c.in-Put.ensures.at

pub returns-in-Put-clause-giving : goal.returns-in-Put-clause-giving
returns-in-Put-clause-giving c = c.in-Put.ensures.at.giving ∙ c.loop-place.invariant.sees.giving

pub returns-in-Receiver-clause-low : goal.returns-in-Receiver-clause-low
returns-in-Receiver-clause-low c = let g = c.in-Receiver.ensures.given in
    handed_past (shape_of c.args.hub.now) c.args.who c.args.c c.loop-place.place g.then (seen_by c.give.new.pass)
    (hub_legal c.args.hub.now c.give.new.pass c.give.ensures.own.0) _ g.hands.made

pub returns-in-Receiver-clause-walked : goal.returns-in-Receiver-clause-walked
returns-in-Receiver-clause-walked c =
    let g = c.in-Receiver.ensures.given in
    let s = sees_then _ _ _ c.loop-place.invariant.sees (sees_then _ _ _ c.in-Waiting.ensures.at.0 g.sees) in
    record {
      made = made_of c.args.hub.now c.args.who c.args.pass.now c.give.new.pass g.then _ c.requires.can.caller s g.hands.made;
      to = g.hands.to;
      was_open = moment_of c.args.hub.now c.args.who c.args.pass.now c.give.new.pass g.then
          (λ (y : State). (y.channels c.args.c).closed ≡ None) c.requires.can.caller s
          (prefix_made g.then (seen_by c.give.new.pass) _ g.hands.made) g.was_open;
    }

pub returns-in-Receiver-clause-giving : goal.returns-in-Receiver-clause-giving
returns-in-Receiver-clause-giving c = let g = c.in-Receiver.ensures.given in
    g.hands.made.giving ∙ g.sees.giving ∙ c.in-Waiting.ensures.at.0.giving ∙ c.loop-place.invariant.sees.giving

pub returns-in-Closed-give-clause-low : goal.returns-in-Closed-give-clause-low
returns-in-Closed-give-clause-low c = below_seen (shape_of c.args.hub.now) c.loop-place.place 0 c.args.c (seen_by c.loop-place.pass)
    (seen_by c.give.new.pass) (sees_then _ _ _ c.in-Waiting.ensures.at.0 c.in-Closed-give.ensures.given.0)
    (hub_legal c.args.hub.now c.give.new.pass c.give.ensures.own.0) c.loop-place.invariant.low

pub returns-in-Closed-give-clause-walked : goal.returns-in-Closed-give-clause-walked
returns-in-Closed-give-clause-walked c = let g = c.in-Closed-give.ensures.given in
    record {
      looked = looked_of c.args.hub.now c.args.who c.args.pass.now c.give.new.pass c.requires.can.caller
          (sees_then _ _ _ c.loop-place.invariant.sees (sees_then _ _ _ c.in-Waiting.ensures.at.0 g.0));
      is_closed = g.1;
    }

pub returns-in-Closed-give-clause-giving : goal.returns-in-Closed-give-clause-giving
returns-in-Closed-give-clause-giving c = c.in-Closed-give.ensures.given.0.giving ∙ c.in-Waiting.ensures.at.0.giving
    ∙ c.loop-place.invariant.sees.giving

pub returns-in-Open-clause-low : goal.returns-in-Open-clause-low
returns-in-Open-clause-low c = below_seen (shape_of c.args.hub.now) c.loop-place.place 0 c.args.c (seen_by c.loop-place.pass)
    (seen_by c.offer_at.new.pass) (let p = c.in-Open.ensures.at.1
    in sees_then _ _ _ p.sees p.later) (hub_legal c.args.hub.now c.offer_at.new.pass c.offer_at.ensures.own.0) c.loop-place.invariant.low

pub returns-in-Open-clause-walked : goal.returns-in-Open-clause-walked
returns-in-Open-clause-walked c =
    let h = c.in-Open.ensures.at in
    let p = h.1 in
    let s = sees_then _ _ _ c.loop-place.invariant.sees p.sees in (
      h.0,
      (
        looked_of c.args.hub.now c.args.who c.args.pass.now c.offer_at.new.pass c.requires.can.caller (sees_then _ _ _ s p.later),
        step_of c.args.hub.now c.args.who c.args.pass.now c.offer_at.new.pass p.then (IsFullToTry (shape_of c.args.hub.now) c.args.c) s
            (prefix_seen p.then (seen_by c.offer_at.new.pass) p.later) p.full,
      ),
    )

pub returns-in-Open-clause-giving : goal.returns-in-Open-clause-giving
returns-in-Open-clause-giving c = let p = c.in-Open.ensures.at.1 in p.later.giving ∙ p.sees.giving ∙ c.loop-place.invariant.sees.giving

pub returns-in-Closed-clause-low : goal.returns-in-Closed-clause-low
returns-in-Closed-clause-low c = below_seen (shape_of c.args.hub.now) c.loop-place.place 0 c.args.c (seen_by c.loop-place.pass)
    (seen_by c.offer_at.new.pass) c.in-Closed.ensures.at.0 (hub_legal c.args.hub.now c.offer_at.new.pass c.offer_at.ensures.own.0)
    c.loop-place.invariant.low

pub returns-in-Closed-clause-walked : goal.returns-in-Closed-clause-walked
returns-in-Closed-clause-walked c = let h = c.in-Closed.ensures.at
    in record {
      looked = looked_of c.args.hub.now c.args.who c.args.pass.now c.offer_at.new.pass c.requires.can.caller
          (sees_then _ _ _ c.loop-place.invariant.sees h.0);
      is_closed = h.1;
    }

pub returns-in-Closed-clause-giving : goal.returns-in-Closed-clause-giving
returns-in-Closed-clause-giving c = c.in-Closed.ensures.at.0.giving ∙ c.loop-place.invariant.sees.giving

pub returns-in-Spent-clause-low : goal.returns-in-Spent-clause-low
returns-in-Spent-clause-low c = below_seen (shape_of c.args.hub.now) c.loop-place.place 0 c.args.c (seen_by c.loop-place.pass)
    (seen_by c.offer_at.new.pass) c.in-Spent.ensures.at.0 (hub_legal c.args.hub.now c.offer_at.new.pass c.offer_at.ensures.own.0)
    c.loop-place.invariant.low

pub returns-in-Spent-clause-walked : goal.returns-in-Spent-clause-walked
returns-in-Spent-clause-walked c = let h = c.in-Spent.ensures.at
    in seen_of c.args.hub.now c.args.who c.args.pass.now c.offer_at.new.pass (IsSpentForOffers (shape_of c.args.hub.now) c.args.c)
    c.requires.can.caller (sees_then _ _ _ c.loop-place.invariant.sees h.0) h.1

pub returns-in-Spent-clause-giving : goal.returns-in-Spent-clause-giving
returns-in-Spent-clause-giving c = c.in-Spent.ensures.at.0.giving ∙ c.loop-place.invariant.sees.giving

pub loop-place-preserved : goal.loop-place-preserved
loop-place-preserved c = let i = c.loop-place.invariant in elim c.match-offer_at.branch [
  | in-Waiting+in-Gone-give w ↦ let un = w.in-Gone-give.ensures.given
      in rw w.pass-is (record {
        own = w.give.ensures.own;
        sees = sees_then _ _ _ i.sees (sees_then _ _ _ w.in-Waiting.ensures.at.0 un.0);
        low = un.1;
      })
  | in-Gone w ↦ rw w.pass-is (record {
    own = c.offer_at.ensures.own;
    sees = sees_then _ _ _ i.sees w.in-Gone.ensures.at.0;
    low =
        w.in-Gone.ensures.at.1;
  })
]

pub loop-place-init : goal.loop-place-init
loop-place-init c = record {
  own = c.sends_from-from.ensures.own;
  sees = c.sends_from-from.ensures.sees;
  low =
      c.sends_from-from.ensures.low;
}

pub unreachable-requires-2 : goal.unreachable-requires-2
unreachable-requires-2 c = too_far (shape_of c.args.hub.now) (seen_by c.loop-place.pass).seen c.args.c c.loop-place.place
    c.places_of-places.result (hub_legal c.args.hub.now c.loop-place.pass c.loop-place.invariant.own.0) c.loop-place.invariant.low.given
    c.places_of-places.ensures c.loop-place-test.false
