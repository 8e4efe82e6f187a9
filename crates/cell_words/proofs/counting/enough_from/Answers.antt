use Rattle.std.proofs.Common.{◌<◌, ◌≤◌, ℕ, length, subst, arith}
use Rattle.word_rules.specs.Cells.{gather}
use Rattle.cell_words.specs.Hubs.{shape_of, seen_by}
use Rattle.cell_words.specs.Seen.{at_channel}
use Rattle.cell_words.specs.Answers.{stands}
use Rattle.cell_words.proofs.LooksAtCells.{hub_legal, sees_then, given_seen}
use Rattle.cell_words.proofs.WalksCount.{counted_low, counted_stands, counted_gone, lower_end, upper_end, count_end, less_than, too_few}
use Rattle.cell_words.proofs.WalksToAdmit.{sees_self}
use Rattle.cell_words.proofs.counting.enough_from.Goals.{then-stands_at, else-stands_at}
use Rattle.cell_words.proofs.counting.enough_from.Goals as goal

pub returns-then-count-most-clause-count : goal.returns-then-count-most-clause-count
returns-then-count-most-clause-count c = subst (λ (n : ℕ). n ≤ length (gather (stands (seen_by c.args.pass.now).seen c.args.c) c.args.end))
    c.if-count-most.true (lower_end c.args.c c.loop-place.place c.args.end c.loop-place.count (seen_by c.args.pass.now)
    (seen_by c.loop-place.pass) (c.loop-place.auto.place-end c.requires.from) c.loop-place.invariant.counted)

pub loop-place-preserved : goal.loop-place-preserved
loop-place-preserved c =
    let i = c.loop-place.invariant in
    let h = c.stands_at.ensures in
    let u = seen_by c.args.pass.now in
    let v = seen_by c.loop-place.pass in
    let w = seen_by c.stands_at.new.pass in
    let shape = shape_of c.args.hub.now in
    let lu = hub_legal c.args.hub.now c.args.pass.now c.requires.own.0 in
    let lv = hub_legal c.args.hub.now c.loop-place.pass i.own.0 in
    let lw = hub_legal c.args.hub.now c.stands_at.new.pass h.own.0 in
    let lt : c.loop-place.place < (at_channel u.seen c.args.c).next = omega (arith, c.loop-place-test.true, c.requires.given) in
    elim c.if-stands_at.branch [
      | then-stands_at x ↦ rw x.count-is (record {
        own = h.own;
        sees = sees_then u v w i.sees h.sees;
        given = given_seen shape c.args.end c.args.c v w h.sees lw i.given;
        counted = counted_stands shape c.args.c c.loop-place.place c.loop-place.count u v w i.sees h.sees lu lv lw lt i.counted
            (rw x.if-stands_at.true at h.stands);
        few = less_than c.loop-place.count c.args.most i.few c.if-count-most.false;
      })
      | else-stands_at x ↦ rw x.count-is (record {
        own = h.own;
        sees = sees_then u v w i.sees h.sees;
        given = given_seen shape c.args.end c.args.c v w h.sees lw i.given;
        counted = counted_gone shape c.args.c c.loop-place.place c.loop-place.count u v w i.sees h.sees lv lw lt i.counted
            (rw x.if-stands_at.false at h.stands);
        few = i.few;
      })
    ]

pub returns-clause-count : goal.returns-clause-count
returns-clause-count c = count_end c.args.most c.loop-place.count _ _
    (lower_end c.args.c c.loop-place.place c.args.end c.loop-place.count (seen_by c.args.pass.now) (seen_by c.loop-place.pass)
    (c.loop-place.auto.place-end c.requires.from) c.loop-place.invariant.counted)
    (upper_end c.args.c c.loop-place.place c.args.end c.loop-place.count (seen_by c.args.pass.now) (seen_by c.loop-place.pass)
    (c.loop-place.auto.place-end c.requires.from) c.loop-place-test.false c.loop-place.invariant.counted)

pub loop-place-init : goal.loop-place-init
loop-place-init c = let u = seen_by c.args.pass.now in record {
  own = c.requires.own;
  sees = sees_self u;
  given = c.requires.given;
  counted = counted_low (shape_of c.args.hub.now) c.args.c c.args.from u (hub_legal c.args.hub.now c.args.pass.now c.requires.own.0)
      c.requires.low;
  few = omega arith;
}

pub returns-then-end-place-clause-count : goal.returns-then-end-place-clause-count
returns-then-end-place-clause-count c = too_few c.args.c c.loop-place.place c.args.end c.loop-place.count c.args.most
    (seen_by c.args.pass.now) (seen_by c.loop-place.pass) (c.loop-place.auto.place-end c.requires.from) c.loop-place.invariant.few
    c.if-end-place.true c.loop-place.invariant.counted
