use Rattle.steal_lanes.proofs.LaneMoves.{admits_guest}
use Rattle.steal_lanes.proofs.other_lane.OtherLane.into.Goals as goal

pub pass-pass-requires : goal.pass-pass-requires
pass-pass-requires c = admits_guest
