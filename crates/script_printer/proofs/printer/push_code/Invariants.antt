use Rattle.std.proofs.Common.{◌≡◌, ◌+◌, ◌≤◌, ◌++◌, length}
use Rattle.script_grammar.specs.Canonical.{code_lines}
use Rattle.script_printer.specs.Printing.{text_of, names_in}
use Rattle.script_printer.proofs.printer.push_code.Given as goal

abbrev pub invariant-loop-rest : goal.invariant-loop-rest
invariant-loop-rest l = record {
  few : l.depth + length l.rest ≤ length l.code + 1;
  same : l.out.items ++ text_of (code_lines (names_in l.names) l.depth l.rest) ≡ l.fn.out.items
      ++ text_of (code_lines (names_in l.names) 1 l.code);
}

abbrev pub decreases-loop-rest : goal.decreases-loop-rest
decreases-loop-rest l = length l.rest
