use Rattle.std.proofs.Common.{◌≡◌, ap, ⊎_elim, arith}
use Rattle.channel_model.specs.declared.acts.Kind.{Kind}
use Rattle.channel_model.specs.Channels.{kind_at, suspends}
use Rattle.cell_words.specs.Hubs.{shape_of, seen_by}
use Rattle.cell_words.proofs.CountsOfDecided.{decided_walked}
use Rattle.cell_words.proofs.KeptBehind.{waits_keeps}
use Rattle.cell_words.proofs.LooksAtCells.{hub_legal, sees_then, below_seen}
use Rattle.cell_words.proofs.WalksToAdmit.{walked_seen, walked_kept, walked_gone, all_passed, all_given, within_places, sees_self, nothing_now, admits_seen, passed_low, room_by, full_by, search_told}
use Rattle.cell_words.proofs.WalksCount.{less_than}
use Rattle.cell_words.proofs.admitting.admit_decided.Goals.{in-Kept, in-Gone}
use Rattle.cell_words.proofs.admitting.admit_decided.Goals as goal

pub decided_up_to-known-requires-clause-at : goal.decided_up_to-known-requires-clause-at
decided_up_to-known-requires-clause-at c =
    let h = c.lower_of.ensures in
    let e = c.places_of-places.ensures in
    (c.requires.at.0, omega (arith, h.1, e))

pub decided_up_to-known-requires-clause-from : goal.decided_up_to-known-requires-clause-from
decided_up_to-known-requires-clause-from c =
    let h = c.lower_of.ensures in
    let e = c.places_of-places.ensures in
    ⊎_elim (λ (is : c.lower_of.result ≡ c.args.mark). omega (arith, is, c.requires.before))
    (λ (is : c.lower_of.result ≡ c.places_of-places.result). omega (arith, is, e, c.requires.at.1)) h.2

pub loop-place-init : goal.loop-place-init
loop-place-init c =
    let h = c.decided_up_to-known.ensures in
    let b = c.begun_at-begun.ensures in
    let shape = shape_of c.args.hub.now in
    let v = seen_by c.decided_up_to-known.new.pass in
    let l = hub_legal c.args.hub.now c.decided_up_to-known.new.pass h.own.0 in
    record {
      own = h.own;
      sees = sees_self v;
      walked = decided_walked shape c.args.c c.args.low v.seen l (waits_keeps (kind_at shape c.args.c)
          (ap (λ (k : Kind). suspends k) c.requires.kind))
          (below_seen shape 0 c.args.low c.args.c (seen_by c.args.pass.now) v h.sees l c.requires.low) _ _ _ b.low.0 b.low.1
          (b.decided shape v.seen c.args.c h.decided);
      least = b.low.1;
      few = b.low.2;
    }

pub stands_at-requires-clause-given : goal.stands_at-requires-clause-given
stands_at-requires-clause-given c =
    let i = c.loop-place.invariant in
    let few = i.walked.few in
    let given = i.walked.given in
    let some = c.requires.some in
    let is = c.if-count-most.true in
    omega arith

pub returns-then-stands_at-clause-search : goal.returns-then-stands_at-clause-search
returns-then-stands_at-clause-search c =
    let i = c.loop-place.invariant in
    let shape = shape_of c.args.hub.now in
    let u = seen_by c.args.pass.now in
    let v = seen_by c.loop-place.pass in
    let w = seen_by c.stands_at.new.pass in
    let few = i.walked.few in
    let some = c.requires.some in
    let is = c.if-count-most.true in
    search_told shape c.args.who c.args.c c.args.low c.loop-place.place c.loop-place.count c.args.mark u v w
    (sees_then u (seen_by c.decided_up_to-known.new.pass) v c.decided_up_to-known.ensures.sees i.sees) c.stands_at.ensures.sees
    (hub_legal c.args.hub.now c.loop-place.pass i.own.0) (hub_legal c.args.hub.now c.stands_at.new.pass c.stands_at.ensures.own.0)
    i.walked (omega arith)
    (full_by shape c.args.c c.args.most c.loop-place.count c.requires.kind c.if-count-most.true)
    (rw c.if-stands_at.true at c.stands_at.ensures.stands)

pub returns-then-count-most-clause-search : goal.returns-then-count-most-clause-search
returns-then-count-most-clause-search c =
    let i = c.loop-place.invariant in
    let shape = shape_of c.args.hub.now in
    let u = seen_by c.args.pass.now in
    let v = seen_by c.loop-place.pass in
    let w = seen_by c.stands_at.new.pass in
    let l = hub_legal c.args.hub.now c.stands_at.new.pass c.stands_at.ensures.own.0 in
    let walked = walked_seen shape c.args.c c.args.low c.loop-place.place c.loop-place.count (ap (λ (k : Kind). suspends k) c.requires.kind)
    v w c.stands_at.ensures.sees (hub_legal c.args.hub.now c.loop-place.pass i.own.0) l i.walked in
    let few = i.walked.few in
    let given = walked.given in
    let some = c.requires.some in
    let is = c.if-count-most.true in (
      sees_then u v w (sees_then u (seen_by c.decided_up_to-known.new.pass) v c.decided_up_to-known.ensures.sees i.sees)
          c.stands_at.ensures.sees,
      passed_low shape c.args.c c.args.low w.seen l walked.below (omega arith) (rw c.if-stands_at.false at c.stands_at.ensures.stands),
    )

pub admit_here-requires-clause-at : goal.admit_here-requires-clause-at
admit_here-requires-clause-at c =
    let i = c.loop-place.invariant in (
      c.requires.at.0,
      within_places (shape_of c.args.hub.now) c.args.c c.loop-place.place (seen_by c.loop-place.pass).seen
          (hub_legal c.args.hub.now c.loop-place.pass i.own.0) i.walked.given,
    )

pub admit_here-requires-clause-given : goal.admit_here-requires-clause-given
admit_here-requires-clause-given c = c.loop-place.invariant.walked.given

pub admit_here-requires-clause-room : goal.admit_here-requires-clause-room
admit_here-requires-clause-room c =
    let i = c.loop-place.invariant in
    room_by (shape_of c.args.hub.now) c.args.c c.args.most c.loop-place.count _ c.requires.kind i.walked.upper i.few c.if-count-most.false

pub returns-in-End-clause-search : goal.returns-in-End-clause-search
returns-in-End-clause-search c =
    let i = c.loop-place.invariant in
    let shape = shape_of c.args.hub.now in
    let u = seen_by c.args.pass.now in
    let v = seen_by c.loop-place.pass in
    let w = seen_by c.admit_here.new.pass in
    let t = c.in-End.ensures.here in
    let l = hub_legal c.args.hub.now c.admit_here.new.pass c.admit_here.ensures.own.0 in
    nothing_now shape c.args.c c.args.mark u w (sees_then u v w
    (sees_then u (seen_by c.decided_up_to-known.new.pass) v c.decided_up_to-known.ensures.sees i.sees) t.0)
    (all_given shape c.args.c c.args.low c.loop-place.place c.loop-place.count c.args.mark w.seen l
    (walked_seen shape c.args.c c.args.low c.loop-place.place c.loop-place.count (ap (λ (k : Kind). suspends k) c.requires.kind) v w t.0
    (hub_legal c.args.hub.now c.loop-place.pass i.own.0) l i.walked) t.1)

pub returns-clause-search : goal.returns-clause-search
returns-clause-search c =
    let i = c.loop-place.invariant in
    nothing_now (shape_of c.args.hub.now) c.args.c c.args.mark (seen_by c.args.pass.now) (seen_by c.loop-place.pass)
    (sees_then (seen_by c.args.pass.now) (seen_by c.decided_up_to-known.new.pass) (seen_by c.loop-place.pass)
    c.decided_up_to-known.ensures.sees
    i.sees)
    (all_passed (shape_of c.args.hub.now) c.args.c c.args.low c.loop-place.place c.loop-place.count c.args.mark
    (seen_by c.loop-place.pass).seen (hub_legal c.args.hub.now c.loop-place.pass i.own.0) i.walked c.loop-place-test.false)

pub admit_here-requires-clause-kind : goal.admit_here-requires-clause-kind
admit_here-requires-clause-kind c = ap (λ (k : Kind). suspends k) c.requires.kind

pub returns-in-Done-clause-search : goal.returns-in-Done-clause-search
returns-in-Done-clause-search c =
    let u = seen_by c.args.pass.now in
    let e = seen_by c.decided_up_to-known.new.pass in
    let v = seen_by c.loop-place.pass in (
      admits_seen _ _ _ _ u v (seen_by c.admit_here.new.pass)
          (sees_then u e v c.decided_up_to-known.ensures.sees c.loop-place.invariant.sees)
          c.in-Done.ensures.here,
      c.loop-place-test.true,
    )

pub loop-place-preserved : goal.loop-place-preserved
loop-place-preserved c =
    let i = c.loop-place.invariant in
    let shape = shape_of c.args.hub.now in
    let u = seen_by c.decided_up_to-known.new.pass in
    let v = seen_by c.loop-place.pass in
    let w = seen_by c.admit_here.new.pass in
    let lv = hub_legal c.args.hub.now c.loop-place.pass i.own.0 in
    let l = hub_legal c.args.hub.now c.admit_here.new.pass c.admit_here.ensures.own.0 in
    let more = less_than c.loop-place.count c.args.most i.few c.if-count-most.false in
    let least = i.least in
    elim c.match-admit_here.branch [
      | in-Kept x ↦ let t = x.in-Kept.ensures.here in rw x.count-is (record {
        own = c.admit_here.ensures.own;
        sees = sees_then u v w i.sees t.0;
        walked = walked_kept c.args.c c.args.low c.loop-place.place c.loop-place.count w.seen i.least
            (walked_seen shape c.args.c c.args.low c.loop-place.place c.loop-place.count (ap (λ (k : Kind). suspends k) c.requires.kind)
            v w t.0 lv l i.walked) t.1;
        least = omega arith;
        few = more;
      })
      | in-Gone x ↦ let t = x.in-Gone.ensures.here in rw x.count-is (record {
        own = c.admit_here.ensures.own;
        sees = sees_then u v w i.sees t.0;
        walked = walked_gone c.args.c c.args.low c.loop-place.place c.loop-place.count w.seen
            (walked_seen shape c.args.c c.args.low c.loop-place.place c.loop-place.count (ap (λ (k : Kind). suspends k) c.requires.kind)
            v w t.0 lv l i.walked) t.1 t.2;
        least = omega arith;
        few = i.few;
      })
    ]
