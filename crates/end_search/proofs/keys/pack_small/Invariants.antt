use Rattle.std.proofs.Common.{length}
use Rattle.end_search.proofs.keys.pack_small.Given as goal

abbrev pub decreases-loop-rest : goal.decreases-loop-rest
decreases-loop-rest l = length l.rest
