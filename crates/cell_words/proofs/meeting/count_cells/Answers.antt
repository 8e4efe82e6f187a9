use Rattle.std.proofs.Common.{◌+◌, ◌≡◌, ap, sym, ◌∙◌, arith}
use Rattle.word_rules.specs.Words.{base}
use Rattle.cell_words.proofs.NewHubs.{base_start, base_step, base_below, base_all}
use Rattle.cell_words.proofs.meeting.count_cells.Goals as goal

pub overflow_add-cells : goal.overflow_add-cells
overflow_add-cells c =
    let s = base_step c.args.kinds.now c.loop-i.i c.loop-i-test.true in
    let b = base_below c.args.kinds.now c.loop-i.i c.loop-i-test.true in
    let p = c.places_in.ensures in
    let f = c.requires in
    record { fits = omega arith }

pub overflow_add-cells-in-loop-i : goal.overflow_add-cells-in-loop-i
overflow_add-cells-in-loop-i c =
    let s = base_step c.args.kinds.now c.loop-i.i c.loop-i-test.true in
    let b = base_below c.args.kinds.now c.loop-i.i c.loop-i-test.true in
    let p = c.places_in.ensures in
    let i = c.loop-i.invariant in
    let f = c.requires in
    record { fits = omega arith }

pub returns : goal.returns
returns c = c.loop-i.invariant ∙ ap (base c.args.kinds.now) (omega (arith, c.loop-i-test.false, c.loop-i.auto.i-end))
    ∙ base_all c.args.kinds.now

pub loop-i-init : goal.loop-i-init
loop-i-init c = sym (base_start c.args.kinds.now)

pub loop-i-preserved : goal.loop-i-preserved
loop-i-preserved c =
    let s = base_step c.args.kinds.now c.loop-i.i c.loop-i-test.true in
    let p = c.places_in.ensures in
    let i : c.loop-i.cells ≡ base c.args.kinds.now c.loop-i.i = c.loop-i.invariant in
    let e : c.loop-i.cells + (c.places_in.result + 1) ≡ base c.args.kinds.now (c.loop-i.i + 1) = omega arith in
    e
