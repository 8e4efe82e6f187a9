use Rattle.std.proofs.Common.{◌≡◌, length}
use Rattle.end_search.specs.Blocks.{has_end}
use Rattle.end_search.proofs.wanted.has_end.Given as goal

abbrev pub invariant-lines : goal.invariant-lines
invariant-lines l = has_end l.back l.rest ≡ has_end l.back l.text

abbrev pub decreases-lines : goal.decreases-lines
decreases-lines l = length l.rest
