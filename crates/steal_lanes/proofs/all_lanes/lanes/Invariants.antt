use Rattle.std.proofs.Common.{◌≡◌, length}
use Rattle.steal_lanes.specs.Lanes.{AllNewLanes}
use Rattle.steal_lanes.proofs.LanesBesideOthers.{Ready}
use Rattle.steal_lanes.proofs.all_lanes.lanes.Given as goal

abbrev pub invariant-loop-i : goal.invariant-loop-i
invariant-loop-i l = record {
  count : length l.lanes.items ≡ l.count;
  new : AllNewLanes l.room l.lanes.items;
  ready : Ready l.i l.lanes.items;
}
