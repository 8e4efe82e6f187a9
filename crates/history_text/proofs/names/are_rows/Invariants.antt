use Rattle.std.proofs.Common.{◌≡◌, ◌+◌, length}
use Rattle.report_reader.specs.Words.{texts}
use Rattle.history_text.specs.Names.{are_rows}
use Rattle.history_text.proofs.names.are_rows.Given as goal

abbrev pub invariant-loop-rest : goal.invariant-loop-rest
invariant-loop-rest l = record {
  says : are_rows l.row (texts l.rest) ≡ are_rows 0 (texts l.names);
  count : l.row + length l.rest ≡ length l.names;
}

abbrev pub decreases-loop-rest : goal.decreases-loop-rest
decreases-loop-rest l = length l.rest
