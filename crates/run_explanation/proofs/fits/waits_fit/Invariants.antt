use Rattle.std.proofs.Common.{◌≡◌, length}
use Rattle.script_reader.specs.Scripts.{program_of}
use Rattle.report_reader.specs.Words.{texts}
use Rattle.run_explanation.specs.Fitting.{waits_fit}
use Rattle.run_explanation.proofs.fits.waits_fit.Given as goal

abbrev pub invariant-loop-rest : goal.invariant-loop-rest
invariant-loop-rest l = waits_fit (program_of l.script) (texts l.rest) ≡ waits_fit (program_of l.script) (texts l.words)

abbrev pub decreases-loop-rest : goal.decreases-loop-rest
decreases-loop-rest l = length l.rest
