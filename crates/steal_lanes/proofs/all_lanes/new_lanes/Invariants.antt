use Rattle.std.proofs.Common.{◌≡◌, length}
use Rattle.steal_lanes.specs.Lanes.{AllNewLanes}
use Rattle.steal_lanes.proofs.all_lanes.new_lanes.Given as goal

abbrev pub invariant-loop : goal.invariant-loop
invariant-loop l = record {
  count : length l.lanes.items ≡ l.counter;
  new : AllNewLanes l.room l.lanes.items;
}
