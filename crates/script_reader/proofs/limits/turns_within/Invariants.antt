use Rattle.std.proofs.Common.{◌≡◌, ◌≤◌, ◌*◌, min, length}
use Rattle.script_grammar.specs.Blocks.{product}
use Rattle.script_reader.proofs.limits.turns_within.Given as goal

abbrev pub invariant-loop-rest : goal.invariant-loop-rest
invariant-loop-rest l = record {
  within : l.turns ≤ 16001;
  product : min (l.turns * product l.rest) 16001 ≡ min (product l.nest) 16001;
}

abbrev pub decreases-loop-rest : goal.decreases-loop-rest
decreases-loop-rest l = length l.rest
