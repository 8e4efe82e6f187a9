use Rattle.steal_lanes.proofs.LaneMoves.{takes_first}
use Rattle.steal_lanes.proofs.other_lane.OtherLane.take.Goals as goal

pub steal_as-requires-clause-takes : goal.steal_as-requires-clause-takes
steal_as-requires-clause-takes c = takes_first _ _
