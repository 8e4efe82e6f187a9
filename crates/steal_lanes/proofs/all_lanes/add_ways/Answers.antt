use Rattle.steal_lanes.proofs.LanesBesideOthers.{ways_none, ways_more, ways_all}
use Rattle.steal_lanes.proofs.all_lanes.add_ways.Goals as goal

pub loop-lane-init : goal.loop-lane-init
loop-lane-init c = ways_none _

pub loop-lane-preserved : goal.loop-lane-preserved
loop-lane-preserved c =
    ways_more c.args.others.now.items c.loop-lane.others.items c.push.new.self.items c.args.lanes.now c.loop-lane.lane-index
    c.lane-item.result c.in_ok-other.other c.loop-lane.invariant c.loop-lane-test.true c.lane-item.is c.in_ok-push.ensures.items
    c.in_ok-other.ensures.0 c.in_ok-other.ensures.1

pub returns : goal.returns
returns c = ways_all c.args.others.now.items c.loop-lane.others.items c.args.lanes.now c.loop-lane.lane-index c.loop-lane.invariant
    c.loop-lane-test.false
