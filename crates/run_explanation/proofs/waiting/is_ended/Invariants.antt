use Rattle.std.proofs.Common.{◌≡◌, length, map}
use Rattle.std.specs.List.{list_any}
use Rattle.run_explanation.specs.Waiting.{does_end, mark_of}
use Rattle.run_explanation.proofs.waiting.is_ended.Given as goal

abbrev pub invariant-loop-rest : goal.invariant-loop-rest
invariant-loop-rest l = list_any (does_end l.tag l.wait) (map mark_of l.rest) ≡ list_any (does_end l.tag l.wait) (map mark_of l.later)

abbrev pub decreases-loop-rest : goal.decreases-loop-rest
decreases-loop-rest l = length l.rest
