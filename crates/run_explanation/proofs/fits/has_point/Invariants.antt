use Rattle.std.proofs.Common.{◌≡◌, length}
use Rattle.run_explanation.specs.Fitting.{has_point}
use Rattle.run_explanation.proofs.fits.has_point.Given as goal

abbrev pub invariant-loop-rest : goal.invariant-loop-rest
invariant-loop-rest l = has_point l.rest ≡ has_point l.word

abbrev pub decreases-loop-rest : goal.decreases-loop-rest
decreases-loop-rest l = length l.rest
