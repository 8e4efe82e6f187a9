use Rattle.std.proofs.Common.{take}
use Rattle.steal_lanes.specs.Lanes.{AddsWays}
use Rattle.steal_lanes.proofs.all_lanes.add_ways.Given as goal

abbrev pub invariant-loop-lane : goal.invariant-loop-lane
invariant-loop-lane l = AddsWays l.initial.others.items l.others.items (take l.lane-index l.lanes)
