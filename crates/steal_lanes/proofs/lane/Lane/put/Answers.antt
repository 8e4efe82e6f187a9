use Rattle.std.proofs.Common.{◌∙◌}
use Rattle.crossbeam_deque.specs.Handles.{worker_view, worker_index}
use Rattle.steal_lanes.proofs.LaneMoves.{at_least, owner_puts, after_put}
use Rattle.steal_lanes.proofs.lane.Lane.put.Goals as goal

pub push_as-requires-clause-pushes : goal.push_as-requires-clause-pushes
push_as-requires-clause-pushes c = owner_puts _ _ _ c.args.self.now.first

pub invariant_of-self : goal.invariant_of-self
invariant_of-self c =
    let l = c.args.self.now in
    let w = c.push_as.new.self in
    let same = c.push_as.ensures.same in
    let k = after_put _ c.push_as.result (worker_view l.own) (worker_view w) c.args.ticket (worker_index l.own) (worker_index w) l.owns
    l.counted c.push_as.ensures.rule in
    record { fifo = same.1 ∙ l.fifo; first = same.2 ∙ l.first; owns = k.0; roomy = at_least _ _ _ l.roomy same.3; counted = k.1 }
