use Rattle.steal_lanes.proofs.LanesBesideOthers.{ways_of}
use Rattle.steal_lanes.proofs.all_lanes.ways.Goals as goal

pub returns : goal.returns
returns c = ways_of c.new-others.result.items c.add_ways.new.others.items c.add_ways-2.new.others.items c.args.lanes.now c.args.i
    c.new-others.ensures.items c.in_ok-add_ways.ensures c.in_ok-add_ways-2.ensures
