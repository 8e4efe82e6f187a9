use Rattle.std.proofs.Common.{◌-◌, length}
use Rattle.co_base.proofs.Flows.{Written}
use Rattle.co_base.proofs.writing.write_all.Given as goal

abbrev pub invariant-loop-done : goal.invariant-loop-done
invariant-loop-done g l = Written (g.K.Sink.held l.initial.sink) (g.K.Sink.held l.sink) (g.K.Sink.faults l.initial.sink)
    (g.K.Sink.faults l.sink) l.done l.bytes

abbrev pub decreases-loop-done : goal.decreases-loop-done
decreases-loop-done g l = length l.bytes - l.done
