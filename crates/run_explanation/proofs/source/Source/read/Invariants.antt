use Rattle.std.proofs.Common.{length}
use Rattle.run_explanation.proofs.source.Source.read.Given as goal

abbrev pub decreases-lines : goal.decreases-lines
decreases-lines l = length l.rest
