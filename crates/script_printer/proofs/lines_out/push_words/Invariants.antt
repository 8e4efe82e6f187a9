use Rattle.std.proofs.Common.{◌≡◌, ◌++◌, length}
use Rattle.script_grammar.specs.Words.{texts, spaced}
use Rattle.script_printer.proofs.Spacing.{spaced_behind}
use Rattle.script_printer.proofs.lines_out.push_words.Given as goal

abbrev pub invariant-loop-rest : goal.invariant-loop-rest
invariant-loop-rest l = l.out.items ++ spaced_behind (texts l.rest) ≡ l.fn.out.items ++ spaced (texts l.words)

abbrev pub decreases-loop-rest : goal.decreases-loop-rest
decreases-loop-rest l = length l.rest
