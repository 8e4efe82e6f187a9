use Rattle.std.proofs.Common.{◌≡◌, ◌+◌, length}
use Rattle.run_explanation.specs.Parts.{mark_from, mark_in}
use Rattle.run_explanation.proofs.parts.mark_in.Given as goal

abbrev pub invariant-loop-rest : goal.invariant-loop-rest
invariant-loop-rest l = record {
  found : mark_from l.place l.begins l.rest ≡ mark_in l.bytes;
  counted : l.place + length l.rest ≡ length l.bytes;
}

abbrev pub decreases-loop-rest : goal.decreases-loop-rest
decreases-loop-rest l = length l.rest
