use Rattle.std.proofs.Common.{◌+◌, ◌-◌}
use Rattle.co_base.proofs.Flows.{Filled}
use Rattle.program_input.proofs.reading.read_within.Given as goal

abbrev pub invariant-loop-count : goal.invariant-loop-count
invariant-loop-count g l = Filled (g.S.Source.left l.initial.source) (g.S.Source.left l.source) (g.S.Source.faults l.initial.source)
    (g.S.Source.faults l.source) l.count l.limit l.bytes.items

abbrev pub decreases-loop-count : goal.decreases-loop-count
decreases-loop-count g l = l.limit + 1 - l.count
