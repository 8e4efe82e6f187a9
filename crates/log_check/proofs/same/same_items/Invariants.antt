use Rattle.std.proofs.Common.{◌≡◌, length}
use Rattle.log_check.proofs.same.same_items.Given as goal

abbrev pub invariant-loop-rest : goal.invariant-loop-rest
invariant-loop-rest l = l.rest ≡ l.others → l.left ≡ l.right

abbrev pub decreases-loop-rest : goal.decreases-loop-rest
decreases-loop-rest l = length l.rest
