use Rattle.std.proofs.Common.{rules, false, sym, ap, ◌∙◌, subst, arith, get_or, set, get_or-set_other, get_or-set_same}
use mathlib.Core.Logic.{dite}
use native.Mathlib.Decide.{ℕ_discrete}
use lib.ListN.{get_elem?}
use Rattle.std.specs.Mem.Slots.{slots_items, slots_filled, slots_counts}
use Rattle.parcel_channel.specs.Hubs.{IsCopied}
use Rattle.parcel_channel.proofs.SlotsCopied.{copied_more}
use Rattle.parcel_channel.proofs.closing.move_rest.Goals as goal

pub loop-i-preserved : goal.loop-i-preserved
loop-i-preserved g c = let inv = c.loop-i.invariant in
    let o = c.take-slot.ensures.others in (
      (
        (λ k le lt. ap (λ l. get_or l k false) o.1 ∙ get_or-set_other (slots_filled c.loop-i.closed.slots) c.loop-i.i k false false
            (λ e. absurd (omega (arith, le, e))) ∙ inv.0.0 k (omega (arith, le)) (omega (arith, lt, o.2))),
        (λ k lt. dite (ℕ_discrete k c.loop-i.i)
            (λ e. ap (λ l. get_or l k false) o.1 ∙ ap (λ j. get_or (set (slots_filled c.loop-i.closed.slots) c.loop-i.i false) j false) e
            ∙ get_or-set_same (slots_filled c.loop-i.closed.slots) c.loop-i.i false false
            (omega (arith, (slots_counts c.loop-i.closed.slots).1, inv.1.0.0, c.loop-i-test.true)))
            (λ ne. ap (λ l. get_or l k false) o.1 ∙ get_or-set_other (slots_filled c.loop-i.closed.slots) c.loop-i.i k false false ne
            ∙ inv.0.1 k (omega (arith, lt, ne)))),
      ),
      (
        (o.2 ∙ inv.1.0.0, o.0 ∙ inv.1.0.1),
        (
          omega (arith, c.loop-i-test.true),
          (
            search rules,
            (
              search rules,
              subst (IsCopied (slots_items c.args.closed.slots)) (sym c.push_reserved.ensures.items)
                  (copied_more (slots_items c.args.closed.slots) c.loop-i.room.items c.take-slot.result c.loop-i.i (sym inv.1.1.1.0
                  ∙ c.loop-i.room.ok.0) (ap (λ l. get_elem? l c.loop-i.i) (sym inv.1.0.1) ∙ c.take-slot.ensures.value) inv.1.1.1.1.1),
            ),
          ),
        ),
      ),
    )
