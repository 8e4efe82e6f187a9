use Rattle.std.proofs.Common.{sym, ap, subst, ◌∙◌}
use Rattle.std.specs.Prelude.{None, is_some}
use Rattle.channel_model.specs.Answers.{StandsNobody, WakeAnswer}
use Rattle.cell_words.specs.Hubs.{shape_of, seen_by}
use Rattle.cell_words.specs.Seen.{tags_given}
use Rattle.cell_words.specs.Answers.{Wakes}
use Rattle.cell_words.proofs.LooksAtCells.{hub_legal, below_seen, sees_then}
use Rattle.cell_calls.specs.HubFloors.{hub_floor}
use Rattle.cell_calls.proofs.CallsTell.{too_far, same_floor, seen_of, woken_of, not_open}
use Rattle.cell_calls.proofs.PlacesPassed.{woken_past}
use Rattle.cell_calls.proofs.ending.wake_closed.Goals.{in-Waiting+in-None-wake, in-Gone}
use Rattle.cell_calls.proofs.ending.wake_closed.Goals as goal
use Rattle.cell_words.proofs.ReceiversOfClosedChannels.{closed_seen}

pub unreachable-requires : goal.unreachable-requires
unreachable-requires c = not_open (shape_of c.args.hub.now) c.args.c (seen_by c.args.pass.now) (seen_by c.find_closed.new.pass)
    c.find_closed.ensures.sees (hub_legal c.args.hub.now c.find_closed.new.pass c.find_closed.ensures.own.0) c.requires.closed
    c.in-None.ensures.closed

pub wake-requires-clause-closed : goal.wake-requires-clause-closed
wake-requires-clause-closed c = closed_seen (shape_of c.args.hub.now) c.args.c _ (seen_by c.loop-place.pass)
    (seen_by c.receiver_at.new.pass) c.in-Waiting.ensures.at.0 (hub_legal c.args.hub.now c.receiver_at.new.pass c.receiver_at.ensures.own.0)
    c.loop-place.invariant.closed

pub raise_sends-requires-clause-low : goal.raise_sends-requires-clause-low
raise_sends-requires-clause-low c = woken_past (shape_of c.args.hub.now) c.args.who c.args.c c.loop-place.place
    (seen_by c.receiver_at.new.pass) (seen_by c.wake.new.pass) (hub_legal c.args.hub.now c.wake.new.pass c.wake.ensures.own.0)
    c.in-Some-wake.ensures.woken.made

pub returns-in-Some-wake-clause-answer : goal.returns-in-Some-wake-clause-answer
returns-in-Some-wake-clause-answer c = let w = seen_by c.receiver_at.new.pass in
    woken_of c.args.hub.now c.args.who c.args.pass.now c.raise_sends.new.pass w c.args.c c.loop-place.place _ c.requires.can.caller
    (sees_then _ _ _ c.loop-place.invariant.sees c.in-Waiting.ensures.at.0)
    (subst (Wakes c.args.who c.args.c c.loop-place.place _ w) (sym c.raise_sends.ensures.same) c.in-Some-wake.ensures.woken)

pub returns-in-Some-wake-clause-giving : goal.returns-in-Some-wake-clause-giving
returns-in-Some-wake-clause-giving c =
    (subst (Wakes c.args.who c.args.c c.loop-place.place _ (seen_by c.receiver_at.new.pass)) (sym c.raise_sends.ensures.same)
    c.in-Some-wake.ensures.woken).made.giving ∙ c.in-Waiting.ensures.at.0.giving ∙ c.loop-place.invariant.sees.giving

pub raise_sends-requires-in-Closed-clause-low : goal.raise_sends-requires-in-Closed-clause-low
raise_sends-requires-in-Closed-clause-low c = below_seen (shape_of c.args.hub.now) c.loop-place.place 0 c.args.c (seen_by c.loop-place.pass)
    (seen_by c.receiver_at.new.pass) c.in-Closed.ensures.at.0 (hub_legal c.args.hub.now c.receiver_at.new.pass c.receiver_at.ensures.own.0)
    c.loop-place.invariant.low

pub returns-in-Closed-clause-answer : goal.returns-in-Closed-clause-answer
returns-in-Closed-clause-answer c = let t = c.in-Closed.ensures.at in
    same_floor c.args.hub.now c.receiver_at.new.pass c.raise_sends-in-Closed.new.pass
    (λ f. WakeAnswer c.args.who c.args.c (hub_floor c.args.hub.now c.args.pass.now) f None) c.raise_sends-in-Closed.ensures.same
    (seen_of c.args.hub.now c.args.who c.args.pass.now c.receiver_at.new.pass (StandsNobody c.args.c) c.requires.can.caller
    (sees_then _ _ _ c.loop-place.invariant.sees t.0) t.2)

pub returns-in-Closed-clause-giving : goal.returns-in-Closed-clause-giving
returns-in-Closed-clause-giving c = ap tags_given c.raise_sends-in-Closed.ensures.same ∙ c.in-Closed.ensures.at.0.giving
    ∙ c.loop-place.invariant.sees.giving

pub unreachable-requires-in-Open : goal.unreachable-requires-in-Open
unreachable-requires-in-Open c = let t = c.in-Open.ensures.at
    in not_open (shape_of c.args.hub.now) c.args.c (seen_by c.loop-place.pass) (seen_by c.receiver_at.new.pass) t.0
    (hub_legal c.args.hub.now c.receiver_at.new.pass c.receiver_at.ensures.own.0) (ap is_some c.loop-place.invariant.closed) t.2

pub loop-place-preserved : goal.loop-place-preserved
loop-place-preserved c = let i = c.loop-place.invariant in elim c.match-receiver_at.branch [
  | in-Waiting+in-None-wake w ↦ let un = w.in-None-wake.ensures.woken in let s = sees_then _ _ _ w.in-Waiting.ensures.at.0 un.0
      in rw w.pass-is (record {
        own = w.wake.ensures.own;
        sees = sees_then _ _ _ i.sees s;
        low = un.1;
        closed =
            closed_seen (shape_of c.args.hub.now) c.args.c _ (seen_by c.loop-place.pass) (seen_by w.wake.new.pass) s
            (hub_legal c.args.hub.now w.wake.new.pass w.wake.ensures.own.0) i.closed;
      })
  | in-Gone w ↦ rw w.pass-is (record {
    own = c.receiver_at.ensures.own;
    sees = sees_then _ _ _ i.sees w.in-Gone.ensures.at.0;
    low =
        w.in-Gone.ensures.at.1;
    closed = closed_seen (shape_of c.args.hub.now) c.args.c _ (seen_by c.loop-place.pass)
        (seen_by c.receiver_at.new.pass) w.in-Gone.ensures.at.0
        (hub_legal c.args.hub.now c.receiver_at.new.pass c.receiver_at.ensures.own.0)
        i.closed;
  })
]

pub loop-place-init : goal.loop-place-init
loop-place-init c = record {
  own = c.sends_from-from.ensures.own;
  sees =
      sees_then _ _ _ c.find_closed.ensures.sees c.sends_from-from.ensures.sees;
  low = c.sends_from-from.ensures.low;
  closed =
      closed_seen (shape_of c.args.hub.now) c.args.c _ (seen_by c.find_closed.new.pass) (seen_by c.sends_from-from.new.pass)
      c.sends_from-from.ensures.sees (hub_legal c.args.hub.now c.sends_from-from.new.pass c.sends_from-from.ensures.own.0)
      c.in-Some.ensures.closed;
}

pub unreachable-requires-2 : goal.unreachable-requires-2
unreachable-requires-2 c = too_far (shape_of c.args.hub.now) (seen_by c.loop-place.pass).seen c.args.c c.loop-place.place
    c.places_of-places.result (hub_legal c.args.hub.now c.loop-place.pass c.loop-place.invariant.own.0) c.loop-place.invariant.low.given
    c.places_of-places.ensures c.loop-place-test.false
