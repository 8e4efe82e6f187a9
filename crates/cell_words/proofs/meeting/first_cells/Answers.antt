use Rattle.std.proofs.Common.{sym, arith}
use Rattle.cell_words.proofs.NewHubs.{base_start, base_step, base_below, no_firsts, firsts_more}
use Rattle.cell_words.proofs.meeting.first_cells.Goals as goal

pub loop-i-init : goal.loop-i-init
loop-i-init c = record {
  next = sym (base_start c.args.kinds.now);
  firsts =
      no_firsts c.args.kinds.now c.in_ok-firsts.firsts.items c.in_ok-firsts.ensures.items;
}

pub overflow_add-next : goal.overflow_add-next
overflow_add-next c =
    let s = base_step c.args.kinds.now c.loop-i.i c.loop-i-test.true in
    let b = base_below c.args.kinds.now c.loop-i.i c.loop-i-test.true in
    let p = c.places_in.ensures in
    let f = c.requires.few in
    record { fits = omega arith }

pub overflow_add-next-in-loop-i : goal.overflow_add-next-in-loop-i
overflow_add-next-in-loop-i c =
    let s = base_step c.args.kinds.now c.loop-i.i c.loop-i-test.true in
    let b = base_below c.args.kinds.now c.loop-i.i c.loop-i-test.true in
    let p = c.places_in.ensures in
    let i = c.loop-i.invariant.next in
    let f = c.requires.few in
    record { fits = omega arith }

pub loop-i-preserved : goal.loop-i-preserved
loop-i-preserved c = record {
  next = let s = base_step c.args.kinds.now c.loop-i.i c.loop-i-test.true in let p = c.places_in.ensures in let i = c.loop-i.invariant.next
      in omega arith;
  firsts = firsts_more c.args.kinds.now c.loop-i.i c.loop-i.next c.loop-i.firsts.items c.push.new.self.items c.in_ok-push.ensures.items
      c.loop-i.invariant.next c.loop-i.invariant.firsts;
}
