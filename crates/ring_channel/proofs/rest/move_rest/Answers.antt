use Rattle.std.proofs.Common.{rules, false, sym, ap, ◌∙◌, subst, arith, get_or, set, get_or-set_other, get_or-set_same, mod-lt, refl, suc, ◌+◌, ◌%◌, ◌<◌, ◌≤◌, ◌≡◌}
use mathlib.Core.Logic.{dite}
use native.Mathlib.Decide.{ℕ_discrete}
use lib.ListN.{get_elem?}
use Rattle.std.specs.Mem.Slots.{slots_items, slots_filled, slots_counts}
use Rattle.ring_channel.specs.Passes.{values_until}
use Rattle.ring_channel.proofs.LeftInOrder.{each_slot, two_slots, lap_more}
use Rattle.ring_channel.proofs.rest.move_rest.Goals as goal

pub loop-i-init : goal.loop-i-init
loop-i-init g c = (
  λ k le lt. c.requires.full.0 ((c.args.first + k) % c.args.slots) (omega arith)
      (subst (λ n. (c.args.first + k) % c.args.slots < n) (sym c.requires.full.1) (mod-lt (c.args.first + k) (omega (arith, lt)))),
  λ k lt. absurd (omega (arith, lt)),
  c.requires.full.1,
  refl,
  omega arith,
  search rules,
  c.requires.room.1,
  search rules,
)

pub take-value-requires : goal.take-value-requires
take-value-requires g c = let inv = c.loop-i.invariant in
    let pos : 0 < c.args.slots = omega (arith, c.loop-i-test.true) in (
      subst (λ n. (c.args.first + c.loop-i.i) % c.args.slots < n) (sym inv.2) (mod-lt (c.args.first + c.loop-i.i) pos),
      inv.0 c.loop-i.i (omega arith) c.loop-i-test.true,
    )

pub loop-i-preserved : goal.loop-i-preserved
loop-i-preserved g c = let inv = c.loop-i.invariant in
    let o = c.take-value.ensures.others in
    let n = c.args.slots in
    let p = c.args.first in
    let i = c.loop-i.i in
    let fs = slots_filled c.loop-i.closed.slots in
    let lt = c.loop-i-test.true in
    let up : suc i ≡ i + 1 = omega arith in
    let pos : 0 < n = omega (arith, lt) in (
      λ k le near. ap (λ l. get_or l ((p + k) % n) false) o.1
          ∙ get_or-set_other fs ((p + i) % n) ((p + k) % n) false false
          (λ e. two_slots p n i k pos lt near (λ z. absurd (omega (arith, le, z))) (sym e))
          ∙ inv.0 k (omega (arith, le)) near,
      λ k le. ap (λ l. get_or l ((p + k) % n) false) o.1 ∙ dite (ℕ_discrete k i)
          (λ e. ap (λ j. get_or (set fs ((p + i) % n) false) ((p + j) % n) false) e
          ∙ get_or-set_same fs ((p + i) % n) false false
          (subst (λ m. (p + i) % n < m) (sym inv.2 ∙ (slots_counts c.loop-i.closed.slots).1) (mod-lt (p + i) pos)))
          (λ ne. get_or-set_other fs ((p + i) % n) ((p + k) % n) false false
          (λ e. two_slots p n i k pos lt (omega (arith, le, lt)) (λ z. ne (sym z)) (sym e)) ∙ inv.1 k (omega (arith, le, ne))),
      o.2 ∙ inv.2,
      o.0 ∙ inv.3,
      omega (arith, lt),
      omega (arith, c.push_value.ensures.count, inv.5),
      subst (λ z. n ≤ z) (sym c.push_value.ensures.capacity) inv.6,
      c.push_value.ensures.items
          ∙ lap_more n (slots_items c.args.closed.slots) p i c.loop-i.room.items c.take-value.result inv.7
          (ap (λ l. get_elem? l ((p + i) % n)) (sym inv.3) ∙ c.take-value.ensures.value)
          ∙ ap (values_until n (slots_items c.args.closed.slots) p) up,
    )

pub free-requires : goal.free-requires
free-requires g c k lt = let inv = c.loop-i.invariant in
    let n = c.args.slots in
    let near : k < n = subst (λ m. k < m) inv.2 lt in
    let at = each_slot c.args.first n k (omega (arith, near)) near in
    ap (λ j. get_or (slots_filled c.loop-i.closed.slots) j false) (sym at.2) ∙ inv.1 at.0 (omega (arith, at.1, c.loop-i-test.false))
