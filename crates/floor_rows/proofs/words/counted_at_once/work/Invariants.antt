use Rattle.floor_rows.specs.CellsDrawn.{Waited}
use Rattle.floor_rows.proofs.words.counted_at_once.work.Given as goal

abbrev pub invariant-loop-i : goal.invariant-loop-i
invariant-loop-i l = Waited l.counted l.share.pass l.share.sends.items l.share.receives.items
