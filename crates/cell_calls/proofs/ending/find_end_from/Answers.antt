use Rattle.cell_words.specs.Hubs.{shape_of, seen_by}
use Rattle.cell_words.proofs.LooksAtCells.{hub_legal, sees_then}
use Rattle.cell_words.proofs.WalksToAdmit.{sees_self}
use Rattle.cell_calls.proofs.CallsTell.{too_far}
use Rattle.cell_calls.proofs.ending.find_end_from.Goals as goal

pub returns-in-Open-clause-sees : goal.returns-in-Open-clause-sees
returns-in-Open-clause-sees c = sees_then _ _ _ c.loop-place.invariant.sees c.end_at.ensures.sees

pub returns-in-Closed-clause-sees : goal.returns-in-Closed-clause-sees
returns-in-Closed-clause-sees c = sees_then _ _ _ c.loop-place.invariant.sees c.end_at.ensures.sees

pub loop-place-preserved : goal.loop-place-preserved
loop-place-preserved c = record {
  own = c.end_at.ensures.own;
  sees = sees_then _ _ _ c.loop-place.invariant.sees c.end_at.ensures.sees;
  given = c.in-Used.ensures.end;
}

pub unreachable-requires : goal.unreachable-requires
unreachable-requires c = too_far (shape_of c.args.hub.now) (seen_by c.loop-place.pass).seen c.args.c c.loop-place.place
    c.places_of-places.result (hub_legal c.args.hub.now c.loop-place.pass c.loop-place.invariant.own.0) c.loop-place.invariant.given
    c.places_of-places.ensures c.loop-place-test.false

pub loop-place-init : goal.loop-place-init
loop-place-init c = record { own = c.requires.own; sees = sees_self (seen_by c.args.pass.now); given = c.requires.given }
