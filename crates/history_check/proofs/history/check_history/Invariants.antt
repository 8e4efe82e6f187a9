use Rattle.std.proofs.Common.{length}
use Rattle.one_thread_floor.specs.ListFloors.{floor_of}
use Rattle.history_text.specs.Numbers.{shape_of}
use Rattle.history_check.specs.Overs.{AreOvers}
use Rattle.history_check.proofs.Walks.{Walked}
use Rattle.history_check.proofs.history.check_history.Given as goal

abbrev pub invariant-loop-rest : goal.invariant-loop-rest
invariant-loop-rest l = record {
  walked : Walked l.kinds (shape_of l.fn.numbers) l.lines l.number l.rest (floor_of l.floor) l.tree;
  overs : AreOvers (floor_of l.floor) l.overs.items;
}

abbrev pub decreases-loop-rest : goal.decreases-loop-rest
decreases-loop-rest l = length l.rest
