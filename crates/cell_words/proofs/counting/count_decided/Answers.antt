use Rattle.std.proofs.Common.{Bool, MatchBool, ◌≡◌, None, is_some, true, arith, subst}
use Rattle.cell_words.specs.Hubs.{shape_of, seen_by}
use Rattle.cell_words.specs.Answers.{stands}
use Rattle.cell_words.proofs.LooksAtCells.{hub_legal, sees_then, given_seen, below_seen}
use Rattle.cell_words.proofs.WalksCount.{count_before}
use Rattle.cell_words.proofs.WalksToAdmit.{sees_self}
use Rattle.cell_words.proofs.CountsOfDecided.{decided_seen, decided_stand, decided_few}
use Rattle.cell_words.proofs.counting.count_decided.Goals as goal

pub loop-look-init : goal.loop-look-init
loop-look-init c = record {
  own = c.requires.own;
  sees = sees_self (seen_by c.args.pass.now);
  given = c.requires.given;
  low = c.requires.low;
}

pub loop-look-preserved : goal.loop-look-preserved
loop-look-preserved c =
    let shape = shape_of c.args.hub.now in
    let i = c.loop-look.invariant in
    let u = seen_by c.args.pass.now in
    let v = seen_by c.loop-look.pass in
    let w = seen_by c.decided_up_to-known.new.pass in
    let x = seen_by c.stands_at-stood.new.pass in
    let s = sees_then v w x c.decided_up_to-known.ensures.sees c.stands_at-stood.ensures.sees in
    let l = hub_legal c.args.hub.now c.stands_at-stood.new.pass c.stands_at-stood.ensures.own.0 in
    record {
      own = c.stands_at-stood.ensures.own;
      sees = sees_then u v x i.sees s;
      given = given_seen shape c.args.end c.args.c v x s l i.given;
      low = below_seen shape 0 c.args.low c.args.c v x s l i.low;
    }

pub returns-then-tells_fewer-clause-sees : goal.returns-then-tells_fewer-clause-sees
returns-then-tells_fewer-clause-sees c = sees_then (seen_by c.args.pass.now) (seen_by c.loop-look.pass)
    (seen_by c.decided_up_to-known.new.pass) c.loop-look.invariant.sees c.decided_up_to-known.ensures.sees

pub returns-then-tells_fewer-clause-count : goal.returns-then-tells_fewer-clause-count
returns-then-tells_fewer-clause-count c =
    let shape = shape_of c.args.hub.now in
    let u = seen_by c.loop-look.pass in
    let v = seen_by c.decided_up_to-known.new.pass in
    let h = c.decided_up_to-known.ensures in
    let l = hub_legal c.args.hub.now c.decided_up_to-known.new.pass h.own.0 in
    let r = rw c.if-tells_fewer.true at c.tells_fewer.ensures in
    decided_few shape c.args.c c.args.low v.seen l
    (below_seen shape 0 c.args.low c.args.c u v h.sees l c.loop-look.invariant.low) _ _ _ c.args.end
    c.args.most r.0 r.1 (omega (arith, c.requires.from)) r.2 h.decided

pub stands_at-stood-requires-clause-given : goal.stands_at-stood-requires-clause-given
stands_at-stood-requires-clause-given c =
    let u = seen_by c.loop-look.pass in
    let v = seen_by c.decided_up_to-known.new.pass in
    let h = c.decided_up_to-known.ensures in
    let g = given_seen (shape_of c.args.hub.now) c.args.end c.args.c u v h.sees
    (hub_legal c.args.hub.now c.decided_up_to-known.new.pass h.own.0) c.loop-look.invariant.given in
    omega (arith, g, c.requires.from)

pub returns-then-tells_enough-clause-sees : goal.returns-then-tells_enough-clause-sees
returns-then-tells_enough-clause-sees c =
    let u = seen_by c.args.pass.now in
    let v = seen_by c.loop-look.pass in
    let w = seen_by c.decided_up_to-known.new.pass in
    let x = seen_by c.stands_at-stood.new.pass in
    sees_then u w x (sees_then u v w c.loop-look.invariant.sees c.decided_up_to-known.ensures.sees) c.stands_at-stood.ensures.sees

pub returns-then-tells_enough-clause-count : goal.returns-then-tells_enough-clause-count
returns-then-tells_enough-clause-count c =
    let shape = shape_of c.args.hub.now in
    let u = seen_by c.args.pass.now in
    let a = seen_by c.loop-look.pass in
    let v = seen_by c.decided_up_to-known.new.pass in
    let w = seen_by c.stands_at-stood.new.pass in
    let h = c.decided_up_to-known.ensures in
    let l = hub_legal c.args.hub.now c.decided_up_to-known.new.pass h.own.0 in
    let r = rw c.if-tells_enough.true at c.tells_enough.ensures in
    let st = subst (λ (b : Bool). MatchBool b (is_some (stands v.seen c.args.c c.args.low) ≡ true)
    (stands w.seen c.args.c c.args.low ≡ None))
    r.0 c.stands_at-stood.ensures.stands in
    count_before shape c.args.c c.args.end c.args.most u v w (sees_then u a v c.loop-look.invariant.sees h.sees)
    (hub_legal c.args.hub.now c.args.pass.now c.requires.own.0) l c.requires.given true
    (decided_stand shape c.args.c c.args.low v.seen l st _ _ _ c.args.end c.args.most
    r.1 r.2 r.3 r.4 h.decided)

-- many places are behind those of which is decided
pub count_past-requires-clause-given : goal.count_past-requires-clause-given
count_past-requires-clause-given c =
    let v = seen_by c.loop-look.pass in
    let w = seen_by c.decided_up_to-known.new.pass in
    let x = seen_by c.stands_at-stood.new.pass in
    given_seen (shape_of c.args.hub.now) c.args.end c.args.c v x
    (sees_then v w x c.decided_up_to-known.ensures.sees c.stands_at-stood.ensures.sees)
    (hub_legal c.args.hub.now c.stands_at-stood.new.pass c.stands_at-stood.ensures.own.0) c.loop-look.invariant.given

pub count_past-requires-clause-low : goal.count_past-requires-clause-low
count_past-requires-clause-low c =
    let v = seen_by c.loop-look.pass in
    let w = seen_by c.decided_up_to-known.new.pass in
    let x = seen_by c.stands_at-stood.new.pass in
    below_seen (shape_of c.args.hub.now) 0 c.args.low c.args.c v x
    (sees_then v w x c.decided_up_to-known.ensures.sees c.stands_at-stood.ensures.sees)
    (hub_legal c.args.hub.now c.stands_at-stood.new.pass c.stands_at-stood.ensures.own.0) c.loop-look.invariant.low

pub count_past-requires-clause-decided : goal.count_past-requires-clause-decided
count_past-requires-clause-decided c = decided_seen (shape_of c.args.hub.now) c.args.c _ _ _
    (seen_by c.decided_up_to-known.new.pass) (seen_by c.stands_at-stood.new.pass) c.stands_at-stood.ensures.sees
    (hub_legal c.args.hub.now c.stands_at-stood.new.pass c.stands_at-stood.ensures.own.0) c.decided_up_to-known.ensures.decided

pub returns-then-is_far-clause-sees : goal.returns-then-is_far-clause-sees
returns-then-is_far-clause-sees c =
    let u = seen_by c.args.pass.now in
    let v = seen_by c.loop-look.pass in
    let w = seen_by c.decided_up_to-known.new.pass in
    let x = seen_by c.stands_at-stood.new.pass in
    sees_then u x (seen_by c.count_past.new.pass) (sees_then u v x c.loop-look.invariant.sees
    (sees_then v w x c.decided_up_to-known.ensures.sees c.stands_at-stood.ensures.sees)) c.count_past.ensures.sees

pub returns-then-is_far-clause-count : goal.returns-then-is_far-clause-count
returns-then-is_far-clause-count c =
    let u = seen_by c.args.pass.now in
    let v = seen_by c.loop-look.pass in
    let w = seen_by c.decided_up_to-known.new.pass in
    let x = seen_by c.stands_at-stood.new.pass in
    count_before (shape_of c.args.hub.now) c.args.c c.args.end c.args.most u x (seen_by c.count_past.new.pass)
    (sees_then u v x c.loop-look.invariant.sees
    (sees_then v w x c.decided_up_to-known.ensures.sees c.stands_at-stood.ensures.sees))
    (hub_legal c.args.hub.now c.args.pass.now c.requires.own.0)
    (hub_legal c.args.hub.now c.stands_at-stood.new.pass c.stands_at-stood.ensures.own.0)
    c.requires.given c.count_past.result c.count_past.ensures.count

-- after all looks
pub count_past-requires-2-clause-given : goal.count_past-requires-2-clause-given
count_past-requires-2-clause-given c =
    given_seen (shape_of c.args.hub.now) c.args.end c.args.c (seen_by c.loop-look.pass) (seen_by c.decided_up_to-known-2.new.pass)
    c.decided_up_to-known-2.ensures.sees
    (hub_legal c.args.hub.now c.decided_up_to-known-2.new.pass c.decided_up_to-known-2.ensures.own.0) c.loop-look.invariant.given

pub count_past-requires-2-clause-low : goal.count_past-requires-2-clause-low
count_past-requires-2-clause-low c =
    below_seen (shape_of c.args.hub.now) 0 c.args.low c.args.c (seen_by c.loop-look.pass) (seen_by c.decided_up_to-known-2.new.pass)
    c.decided_up_to-known-2.ensures.sees
    (hub_legal c.args.hub.now c.decided_up_to-known-2.new.pass c.decided_up_to-known-2.ensures.own.0) c.loop-look.invariant.low

pub returns-clause-sees : goal.returns-clause-sees
returns-clause-sees c =
    let u = seen_by c.args.pass.now in
    let v = seen_by c.loop-look.pass in
    let w = seen_by c.decided_up_to-known-2.new.pass in
    sees_then u w (seen_by c.count_past-2.new.pass) (sees_then u v w c.loop-look.invariant.sees c.decided_up_to-known-2.ensures.sees)
    c.count_past-2.ensures.sees

pub returns-clause-count : goal.returns-clause-count
returns-clause-count c =
    let u = seen_by c.args.pass.now in
    let v = seen_by c.loop-look.pass in
    let w = seen_by c.decided_up_to-known-2.new.pass in
    count_before (shape_of c.args.hub.now) c.args.c c.args.end c.args.most u w (seen_by c.count_past-2.new.pass)
    (sees_then u v w c.loop-look.invariant.sees c.decided_up_to-known-2.ensures.sees)
    (hub_legal c.args.hub.now c.args.pass.now c.requires.own.0)
    (hub_legal c.args.hub.now c.decided_up_to-known-2.new.pass c.decided_up_to-known-2.ensures.own.0)
    c.requires.given c.count_past-2.result c.count_past-2.ensures.count
