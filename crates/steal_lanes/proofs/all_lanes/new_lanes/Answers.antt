use Rattle.std.proofs.Common.{◌+◌, ◌∙◌, ◌∷◌, [], ap, sym, subst, length}
use Rattle.std.proofs.lemmas.List.{length-append}
use Rattle.steal_lanes.specs.Lanes.{AllNewLanes}
use Rattle.steal_lanes.proofs.LanesBesideOthers.{new_lanes-push}
use Rattle.steal_lanes.proofs.all_lanes.new_lanes.Goals as goal

pub loop-preserved : goal.loop-preserved
loop-preserved c =
    let l = c.loop.lanes.items in
    let x = c.in_ok-lane.lane in
    let is = c.in_ok-push.ensures.items in
    record {
      count = ap length is ∙ length-append l (x ∷ []) ∙ ap (λ n. n + 1) c.loop.invariant.count;
      new = subst (AllNewLanes c.args.room) (sym is) (new_lanes-push c.args.room l x c.loop.invariant.new c.in_ok-lane.ensures);
    }
