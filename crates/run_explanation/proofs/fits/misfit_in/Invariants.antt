use Rattle.std.proofs.Common.{◌≡◌, ◌+◌, ◌≤◌, ◌==◌, length}
use Rattle.std.specs.List.{slice_split}
use Rattle.script_reader.specs.Scripts.{program_of}
use Rattle.run_explanation.specs.Fitting.{misfit_from, misfit_in}
use Rattle.run_explanation.proofs.fits.misfit_in.Given as goal

abbrev pub invariant-lines : goal.invariant-lines
invariant-lines l = record {
  says : misfit_from (program_of l.script) l.number (slice_split (λ b. b == 10) l.rest) ≡ misfit_in (program_of l.script) l.text;
  count : l.number + length l.rest ≤ 67108865;
}

abbrev pub decreases-lines : goal.decreases-lines
decreases-lines l = length l.rest
