use Rattle.std.proofs.Common.{◌∙◌}
use Rattle.crossbeam_deque.specs.Handles.{worker_view, worker_index}
use Rattle.steal_lanes.proofs.LaneMoves.{at_least, takes_first, after_take}
use Rattle.steal_lanes.proofs.lane.Lane.take.Goals as goal

pub pop_as-requires-clause-fifo : goal.pop_as-requires-clause-fifo
pop_as-requires-clause-fifo c = λ _. takes_first _ _

pub invariant_of-self : goal.invariant_of-self
invariant_of-self c =
    let l = c.args.self.now in
    let w = c.pop_as.new.self in
    let same = c.pop_as.ensures.same.0 in
    let k = after_take _ c.pop_as.result (worker_view l.own) (worker_view w) (worker_index l.own) (worker_index w) l.owns l.counted
    c.pop_as.ensures.same.1 c.pop_as.ensures.rule in
    record { fifo = same.1 ∙ l.fifo; first = same.2 ∙ l.first; owns = k.0; roomy = at_least _ _ _ l.roomy same.3; counted = k.1 }
