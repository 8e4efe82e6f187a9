use Rattle.std.proofs.Common.{◌≡◌, ◌++◌, length}
use Rattle.std.specs.List.{concat}
use Rattle.script_grammar.specs.Words.{texts}
use Rattle.script_printer.proofs.generator.push_pieces.Given as goal

abbrev pub invariant-loop-rest : goal.invariant-loop-rest
invariant-loop-rest l = l.out.items ++ concat (texts l.rest) ≡ l.fn.out.items ++ concat (texts l.pieces)

abbrev pub decreases-loop-rest : goal.decreases-loop-rest
decreases-loop-rest l = length l.rest
