use Rattle.std.proofs.Common.{◌≡◌}
use Rattle.one_thread_floor.specs.TreeFloors.{floor_of}
use Rattle.floor_rows.proofs.forest_rows.right_on_tree.Given as goal

abbrev pub invariant-loop-i : goal.invariant-loop-i
invariant-loop-i l = (floor_of l.floor).shape.coroutines ≡ 4
