use Rattle.std.proofs.Common.{◌<◌, ◌≤◌, length, arith}
use Rattle.steal_lanes.proofs.OtherLanes.{none_looked_at, looked_next, took_next, looked_all}
use Rattle.steal_lanes.proofs.stealing.take_from_any.Goals as goal

pub lanes-init : goal.lanes-init
lanes-init c = none_looked_at _

pub lanes-preserved : goal.lanes-preserved
lanes-preserved c =
    let lt : c.lanes.next < length c.lanes.others.items = omega (arith, c.lanes-test.true, c.len.ensures) in
    looked_next c.lanes.next c.args.others.now.items c.lanes.others.items c.index_mut.result.now c.take.new.self c.lanes.invariant
    c.index_mut.ensures.value lt c.in-None.ensures

pub returns-in-Some : goal.returns-in-Some
returns-in-Some c =
    let lt : c.lanes.next < length c.lanes.others.items = omega (arith, c.lanes-test.true, c.len.ensures) in
    took_next c.lanes.next c.in-Some.ticket c.args.others.now.items c.lanes.others.items c.index_mut.result.now c.take.new.self
    c.lanes.invariant c.index_mut.ensures.value lt c.in-Some.ensures

pub returns : goal.returns
returns c =
    let le : length c.lanes.others.items ≤ c.lanes.next = omega (arith, c.lanes-test.false, c.len.ensures) in
    looked_all c.lanes.next c.args.others.now.items c.lanes.others.items c.lanes.invariant le
