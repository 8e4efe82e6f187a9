use Rattle.std.proofs.Common.{◌∙◌}
use Rattle.cell_words.specs.Hubs.{shape_of, seen_by}
use Rattle.cell_words.proofs.LooksAtCells.{hub_legal, sees_then}
use Rattle.cell_calls.proofs.CallsTell.{too_far, looked_of, made_of}
use Rattle.cell_calls.proofs.ending.close.Goals as goal

pub returns-in-Open-clause-answer : goal.returns-in-Open-clause-answer
returns-in-Open-clause-answer c = made_of c.args.hub.now c.args.who c.args.pass.now c.close_at.new.pass (seen_by c.loop-place.pass) _
    c.requires.can.caller c.loop-place.invariant.sees c.in-Open.ensures.end

pub returns-in-Closed-clause-answer : goal.returns-in-Closed-clause-answer
returns-in-Closed-clause-answer c = let t = c.in-Closed.ensures.end
    in record {
      looked = looked_of c.args.hub.now c.args.who c.args.pass.now c.close_at.new.pass c.requires.can.caller
          (sees_then _ _ _ c.loop-place.invariant.sees t.0);
      is_closed = t.1;
    }

pub loop-place-preserved : goal.loop-place-preserved
loop-place-preserved c = let t = c.in-Used.ensures.end in
    record { own = c.close_at.ensures.own; sees = sees_then _ _ _ c.loop-place.invariant.sees t.0; given = t.1 }

pub unreachable-requires : goal.unreachable-requires
unreachable-requires c = too_far (shape_of c.args.hub.now) (seen_by c.loop-place.pass).seen c.args.c c.loop-place.place
    c.places_of-places.result (hub_legal c.args.hub.now c.loop-place.pass c.loop-place.invariant.own.0) c.loop-place.invariant.given
    c.places_of-places.ensures c.loop-place-test.false

pub loop-place-init : goal.loop-place-init
loop-place-init c = record { own = c.end_from-from.ensures.own; sees = c.end_from-from.ensures.sees; given = c.end_from-from.ensures.given }

pub returns-in-Open-clause-giving : goal.returns-in-Open-clause-giving
returns-in-Open-clause-giving c = c.in-Open.ensures.end.giving ∙ c.loop-place.invariant.sees.giving

pub returns-in-Closed-clause-giving : goal.returns-in-Closed-clause-giving
returns-in-Closed-clause-giving c = c.in-Closed.ensures.end.0.giving ∙ c.loop-place.invariant.sees.giving
