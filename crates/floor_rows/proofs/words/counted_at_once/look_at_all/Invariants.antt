use Rattle.counted_cells.specs.Passes.{IsOf}
use Rattle.floor_rows.specs.CellsDrawn.{AllCame}
use Rattle.floor_rows.proofs.words.counted_at_once.look_at_all.Given as goal

abbrev pub invariant-loop-place : goal.invariant-loop-place
invariant-loop-place l = record {
  of : IsOf l.counted l.pass;
  came : AllCame l.counted l.pass l.waits;
  others : AllCame l.counted l.pass l.others;
}
