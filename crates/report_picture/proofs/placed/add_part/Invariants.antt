use Rattle.std.proofs.Common.{◌≡◌, ◌++◌, filter, length}
use Rattle.report_picture.specs.Pictures.{is_within}
use Rattle.report_picture.proofs.placed.add_part.Given as goal

abbrev pub invariant-loop-rest : goal.invariant-loop-rest
invariant-loop-rest l = l.part.items ++ filter (is_within l.wanted) l.rest ≡ l.fn.part.items ++ filter (is_within l.wanted) l.drawn

abbrev pub decreases-loop-rest : goal.decreases-loop-rest
decreases-loop-rest l = length l.rest
