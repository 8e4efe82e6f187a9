use Rattle.std.proofs.Common.{◌≡◌}
use Rattle.steal_lanes.specs.Lanes.{other_deque, other_view}
use Rattle.steal_lanes.proofs.other_lane.OtherLane.take.Given as goal

abbrev pub invariant-tries : goal.invariant-tries
invariant-tries l = record {
  deque : other_deque l.self ≡ other_deque l.initial.self;
  view : other_view l.self ≡ other_view l.initial.self;
}
