use Rattle.std.proofs.Common.{◌≡◌, length}
use Rattle.report_reader.specs.Words.{texts}
use Rattle.history_text.specs.Names.{are_no_rows}
use Rattle.history_text.proofs.names.are_no_rows.Given as goal

abbrev pub invariant-loop-rest : goal.invariant-loop-rest
invariant-loop-rest l = are_no_rows (texts l.rest) ≡ are_no_rows (texts l.names)

abbrev pub decreases-loop-rest : goal.decreases-loop-rest
decreases-loop-rest l = length l.rest
