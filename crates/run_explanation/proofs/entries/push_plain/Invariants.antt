use Rattle.std.proofs.Common.{◌≡◌, ◌++◌, length}
use Rattle.run_explanation.specs.Answers.{plain}
use Rattle.run_explanation.proofs.entries.push_plain.Given as goal

abbrev pub invariant-loop-rest : goal.invariant-loop-rest
invariant-loop-rest l = l.out.items ++ plain l.rest ≡ l.fn.out.items ++ plain l.hint

abbrev pub decreases-loop-rest : goal.decreases-loop-rest
decreases-loop-rest l = length l.rest
