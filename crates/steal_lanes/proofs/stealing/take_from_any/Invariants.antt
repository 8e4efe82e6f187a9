use Rattle.std.proofs.Common.{◌-◌, length}
use Rattle.steal_lanes.proofs.OtherLanes.{LookedAt}
use Rattle.steal_lanes.proofs.stealing.take_from_any.Given as goal

abbrev pub invariant-lanes : goal.invariant-lanes
invariant-lanes l = LookedAt l.next l.initial.others.items l.others.items

abbrev pub decreases-lanes : goal.decreases-lanes
decreases-lanes l = length l.others.items - l.next
