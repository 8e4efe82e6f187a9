use Rattle.std.proofs.Common.{◌≡◌, ◌<◌, length, length-set, ◌∙◌, subst, arith}
use Rattle.steal_lanes.specs.Lanes.{AreWays}
use Rattle.steal_lanes.proofs.LanesBesideOthers.{connected, all_connected}
use Rattle.steal_lanes.proofs.all_lanes.lanes.Goals as goal

pub loop-i-preserved : goal.loop-i-preserved
loop-i-preserved c =
    let inv = c.loop-i.invariant in
    let ls = c.loop-i.lanes.items in
    let i = c.loop-i.i in
    let y = c.connect.new.self in
    let lt : i < length ls = omega (arith, inv.count, c.loop-i-test.true) in
    let w = subst (AreWays i c.in_ok-others.others.items) c.as_slice.ensures.value c.in_ok-others.ensures in
    let k = connected c.args.room i ls c.in_ok-others.others.items c.index_mut.result.now y inv.new inv.ready lt c.index_mut.ensures.value w
    c.connect.ensures in
    record { count = length-set ls i y ∙ inv.count; new = k.0; ready = k.1 }

pub returns : goal.returns
returns c =
    let inv = c.loop-i.invariant in
    let le = c.loop-i-test.false in
    let count : length c.loop-i.lanes.items ≡ c.args.workers = let a = inv.count in let b = c.len-count.ensures
    in let d = c.in_ok-lanes.ensures.count in let ok = c.in_ok-lanes.lanes.ok in omega arith in
    all_connected c.args.workers c.args.room c.loop-i.i c.loop-i.lanes.items count inv.new inv.ready (omega (arith, inv.count))
