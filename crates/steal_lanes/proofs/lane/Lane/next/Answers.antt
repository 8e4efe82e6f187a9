use Rattle.std.proofs.Common.{◌∙◌}
use Rattle.steal_lanes.proofs.OtherLanes.{same_by_answer}
use Rattle.steal_lanes.proofs.lane.Lane.next.Goals as goal

pub returns-clause-same : goal.returns-clause-same
returns-clause-same c =
    let s = c.take.ensures.same in
    record {
      own = s.own;
      room = s.room;
      others = same_by_answer c.take.new.self.others.items c.take_from_any.new.others.items
          c.take_from_any.result c.take_from_any.ensures ∙ s.others;
    }
