use Rattle.std.proofs.Common.{◌≡◌, ◌++◌, None, length, map}
use Rattle.run_explanation.specs.Waiting.{mark_of, waiting_from}
use Rattle.run_explanation.proofs.waiting.waiting_in.Given as goal

abbrev pub invariant-loop-rest : goal.invariant-loop-rest
invariant-loop-rest l = l.tags.items ++ waiting_from l.last (map mark_of l.rest) ≡ waiting_from None (map mark_of l.marks)

abbrev pub decreases-loop-rest : goal.decreases-loop-rest
decreases-loop-rest l = length l.rest
