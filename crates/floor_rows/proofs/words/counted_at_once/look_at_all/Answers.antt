use Rattle.floor_rows.proofs.CellsStayDrawn.{all_still}
use Rattle.floor_rows.proofs.words.counted_at_once.look_at_all.Goals as goal

pub loop-place-preserved : goal.loop-place-preserved
loop-place-preserved c = record {
  of = c.look.ensures.of;
  came = all_still c.args.counted.now c.loop-place.pass c.look.new.pass c.args.waits.now c.look.ensures.same c.look.ensures.stays
      c.loop-place.invariant.came;
  others = all_still c.args.counted.now c.loop-place.pass c.look.new.pass c.args.others.now c.look.ensures.same c.look.ensures.stays
      c.loop-place.invariant.others;
}
