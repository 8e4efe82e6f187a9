use Rattle.std.proofs.Common.{◌-◌, sym, subst, arith}
use Rattle.channel_model.specs.Laws.{NoneBelow}
use Rattle.cell_words.specs.Hubs.{shape_of, seen_by}
use Rattle.cell_words.specs.Seen.{Seen, Sees, at_channel}
use Rattle.cell_words.proofs.LooksAtCells.{hub_legal, sees_then, given_seen, below_seen}
use Rattle.cell_words.proofs.WalksCount.{count_before, few_places, fewer_below}
use Rattle.cell_words.proofs.WalksToAdmit.{sees_self, passed_low}
use Rattle.cell_words.proofs.RunsOfKeptPlaces.{few_from, none_counted}
use Rattle.cell_words.proofs.counting.count_latest.Goals as goal

pub loop-low-init : goal.loop-low-init
loop-low-init c =
    let o = c.offers_from-from.ensures in
    let a = seen_by c.offers_from-from.new.pass in
    record {
      own = o.own;
      sees = sees_self a;
      low = o.low;
    }

pub returns-then-end-low-clause-sees : goal.returns-then-end-low-clause-sees
returns-then-end-low-clause-sees c =
    let u = seen_by c.args.pass.now in
    let a = seen_by c.offers_from-from.new.pass in
    sees_then u a (seen_by c.loop-low.pass) c.offers_from-from.ensures.sees
    c.loop-low.invariant.sees

pub returns-then-end-low-clause-count : goal.returns-then-end-low-clause-count
returns-then-end-low-clause-count c =
    let i = c.loop-low.invariant in
    let v = seen_by c.loop-low.pass in
    let inside = c.loop-low-test.true in
    let f = few_from (shape_of c.args.hub.now) c.args.c c.loop-low.low v.seen (hub_legal c.args.hub.now c.loop-low.pass i.own.0) i.low
    (c.args.end - c.loop-low.low) c.args.end (omega arith) in
    let t = c.if-end-low.true in
    omega arith

pub stands_at-requires-clause-given : goal.stands_at-requires-clause-given
stands_at-requires-clause-given c =
    let i = c.loop-low.invariant in
    let u = seen_by c.args.pass.now in
    let a = seen_by c.offers_from-from.new.pass in
    let v = seen_by c.loop-low.pass in
    let s = sees_then u a v c.offers_from-from.ensures.sees i.sees in
    let g = given_seen (shape_of c.args.hub.now) c.args.end c.args.c u v s (hub_legal c.args.hub.now c.loop-low.pass i.own.0)
    c.requires.given in
    omega (arith, g, c.loop-low-test.true)

pub count_decided-requires-clause-given : goal.count_decided-requires-clause-given
count_decided-requires-clause-given c =
    let u = seen_by c.args.pass.now in
    let a = seen_by c.offers_from-from.new.pass in
    let v = seen_by c.loop-low.pass in
    let w = seen_by c.raise_receives.new.pass in
    given_seen (shape_of c.args.hub.now) c.args.end c.args.c u w
    (sees_then u v w (sees_then u a v c.offers_from-from.ensures.sees
    c.loop-low.invariant.sees) (subst (λ (z : Seen). Sees (seen_by c.loop-low.pass) z) (sym c.raise_receives.ensures.same)
    c.stands_at.ensures.sees))
    (hub_legal c.args.hub.now c.raise_receives.new.pass c.raise_receives.ensures.own.0) c.requires.given

pub raise_receives-requires-clause-low : goal.raise_receives-requires-clause-low
raise_receives-requires-clause-low c =
    below_seen (shape_of c.args.hub.now) 0 c.loop-low.low c.args.c (seen_by c.loop-low.pass) (seen_by c.stands_at.new.pass)
    c.stands_at.ensures.sees (hub_legal c.args.hub.now c.stands_at.new.pass c.stands_at.ensures.own.0) c.loop-low.invariant.low

pub count_decided-requires-clause-low : goal.count_decided-requires-clause-low
count_decided-requires-clause-low c =
    subst (λ (z : Seen). NoneBelow 0 c.loop-low.low (at_channel z.seen c.args.c)) (sym c.raise_receives.ensures.same)
    (below_seen (shape_of c.args.hub.now) 0 c.loop-low.low c.args.c (seen_by c.loop-low.pass) (seen_by c.stands_at.new.pass)
    c.stands_at.ensures.sees (hub_legal c.args.hub.now c.stands_at.new.pass c.stands_at.ensures.own.0) c.loop-low.invariant.low)

pub returns-then-stands_at-clause-sees : goal.returns-then-stands_at-clause-sees
returns-then-stands_at-clause-sees c =
    let u = seen_by c.args.pass.now in
    let a = seen_by c.offers_from-from.new.pass in
    let v = seen_by c.loop-low.pass in
    let w = seen_by c.raise_receives.new.pass in
    sees_then u w (seen_by c.count_decided.new.pass) (sees_then u v w
    (sees_then u a v c.offers_from-from.ensures.sees c.loop-low.invariant.sees)
    (subst (λ (z : Seen). Sees (seen_by c.loop-low.pass) z) (sym c.raise_receives.ensures.same)
    c.stands_at.ensures.sees)) c.count_decided.ensures.sees

pub returns-then-stands_at-clause-count : goal.returns-then-stands_at-clause-count
returns-then-stands_at-clause-count c =
    let u = seen_by c.args.pass.now in
    let a = seen_by c.offers_from-from.new.pass in
    let v = seen_by c.loop-low.pass in
    let w = seen_by c.raise_receives.new.pass in
    count_before (shape_of c.args.hub.now) c.args.c c.args.end c.args.most u w (seen_by c.count_decided.new.pass)
    (sees_then u v w (sees_then u a v c.offers_from-from.ensures.sees
    c.loop-low.invariant.sees) (subst (λ (z : Seen). Sees (seen_by c.loop-low.pass) z) (sym c.raise_receives.ensures.same)
    c.stands_at.ensures.sees))
    (hub_legal c.args.hub.now c.args.pass.now c.requires.own.0)
    (hub_legal c.args.hub.now c.raise_receives.new.pass c.raise_receives.ensures.own.0)
    c.requires.given c.count_decided.result c.count_decided.ensures.count

pub returns-clause-sees : goal.returns-clause-sees
returns-clause-sees c =
    let u = seen_by c.args.pass.now in
    let a = seen_by c.offers_from-from.new.pass in
    sees_then u a (seen_by c.loop-low.pass) c.offers_from-from.ensures.sees
    c.loop-low.invariant.sees

pub returns-clause-count : goal.returns-clause-count
returns-clause-count c =
    let i = c.loop-low.invariant in
    let v = seen_by c.loop-low.pass in
    none_counted c.args.most _ _
    (few_from (shape_of c.args.hub.now) c.args.c c.args.end v.seen (hub_legal c.args.hub.now c.loop-low.pass i.own.0)
    (fewer_below c.args.end c.loop-low.low (at_channel v.seen c.args.c) c.loop-low-test.false i.low) 0 c.args.end (omega arith))

pub loop-low-preserved : goal.loop-low-preserved
loop-low-preserved c =
    let i = c.loop-low.invariant in
    let h = c.stands_at.ensures in
    let shape = shape_of c.args.hub.now in
    let u = seen_by c.args.pass.now in
    let a = seen_by c.offers_from-from.new.pass in
    let v = seen_by c.loop-low.pass in
    let w = seen_by c.stands_at.new.pass in
    let l = hub_legal c.args.hub.now c.stands_at.new.pass h.own.0 in
    let s = sees_then u v w (sees_then u a v c.offers_from-from.ensures.sees i.sees) h.sees in
    let g = given_seen shape c.args.end c.args.c u w s l c.requires.given in
    record {
      own = h.own;
      sees = sees_then a v w i.sees h.sees;
      low = passed_low shape c.args.c c.loop-low.low w.seen l (below_seen shape 0 c.loop-low.low c.args.c v w h.sees l i.low)
          (omega (arith, g, c.loop-low-test.true)) (rw c.if-stands_at.false at h.stands);
    }

pub returns-then-end-most-clause-count : goal.returns-then-end-most-clause-count
returns-then-end-most-clause-count c = few_places c.args.c c.args.end c.args.most (seen_by c.args.pass.now) c.if-end-most.true
