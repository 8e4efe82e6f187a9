use Rattle.std.proofs.Common.{rules, ◌≡◌, false, true, sym, ap, ◌∙◌, subst, arith, get_or, set, get_or-set_other, get_or-set_same}
use mathlib.Core.Logic.{dite}
use native.Mathlib.Decide.{ℕ_discrete}
use lib.ListN.{get_elem?}
use Rattle.std.specs.Mem.Slots.{slots_items, slots_filled, slots_counts}
use Rattle.task_berths.specs.Answers.{HaveTags}
use Rattle.task_berths.proofs.StepsKeepHomes.{some_same}
use Rattle.task_berths.proofs.TasksByTag.{in_slot, tags_more}
use Rattle.task_berths.proofs.closing.move_out.Goals as goal

pub unreachable-requires : goal.unreachable-requires
unreachable-requires g c = let z = in_slot g.T.Tagged.tag_of (slots_items c.args.closed.slots) c.loop-i.i c.take-slot.result c.requires.home
    (ap (λ l. get_elem? l c.loop-i.i) (sym c.loop-i.invariant.1.0.1) ∙ c.take-slot.ensures.value) in
    c.in_default.not-Some z.0 z.1

pub loop-i-preserved : goal.loop-i-preserved
loop-i-preserved g c = let inv = c.loop-i.invariant in
    let o = c.take-slot.ensures.others in
    let z = in_slot g.T.Tagged.tag_of (slots_items c.args.closed.slots) c.loop-i.i c.take-slot.result c.requires.home
    (ap (λ l. get_elem? l c.loop-i.i) (sym inv.1.0.1) ∙ c.take-slot.ensures.value) in
    let same : z.0 ≡ c.in-Some.task = some_same (sym z.1 ∙ c.in-Some.is) in (
      (
        (λ k le lt. ap (λ l. get_or l k false) o.1 ∙ get_or-set_other (slots_filled c.loop-i.closed.slots) c.loop-i.i k false false
            (λ e. absurd (omega (arith, le, e))) ∙ inv.0.0 k (omega (arith, le)) (omega (arith, lt, o.2))),
        (λ k lt. dite (ℕ_discrete k c.loop-i.i)
            (λ e. ap (λ l. get_or l k false) o.1 ∙ ap (λ j. get_or (set (slots_filled c.loop-i.closed.slots) c.loop-i.i false) j false) e
            ∙ get_or-set_same (slots_filled c.loop-i.closed.slots) c.loop-i.i false false
            (omega (arith, (slots_counts c.loop-i.closed.slots).1, inv.1.0.0, c.loop-i-test.true)))
            (λ ne. ap (λ l. get_or l k false) o.1 ∙ get_or-set_other (slots_filled c.loop-i.closed.slots) c.loop-i.i k false false ne
            ∙ inv.0.1 k (omega (arith, lt, ne)))),
      ),
      (
        (o.2 ∙ inv.1.0.0, o.0 ∙ inv.1.0.1),
        (
          omega (arith, c.loop-i-test.true),
          (
            search rules,
            (
              search rules,
              subst (HaveTags g.T.Tagged.tag_of) (sym c.push_reserved.ensures.items)
                  (tags_more g.T.Tagged.tag_of c.loop-i.room.items c.in-Some.task inv.1.1.1.1.1 (ap g.T.Tagged.tag_of (sym same) ∙ z.2
                  ∙ sym inv.1.1.1.0 ∙ c.loop-i.room.ok.0)),
            ),
          ),
        ),
      ),
    )
