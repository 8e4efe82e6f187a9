use Rattle.std.proofs.Common.{◌≡◌, length}
use Rattle.script_grammar.specs.Words.{all_plain}
use Rattle.script_reader.proofs.words.every_plain.Given as goal

abbrev pub invariant-loop-rest : goal.invariant-loop-rest
invariant-loop-rest l = all_plain l.rest ≡ all_plain l.line

abbrev pub decreases-loop-rest : goal.decreases-loop-rest
decreases-loop-rest l = length l.rest
