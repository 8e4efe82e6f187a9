use Rattle.std.proofs.Common.{◌≡◌, ◌+◌, ◌≤◌, length}
use Rattle.std.specs.List.{slice_split}
use Rattle.std.specs.Prelude.{◌==◌, []}
use Rattle.report_reader.specs.Words.{lines_of}
use Rattle.history_text.specs.Names.{listed}
use Rattle.history_text.specs.Lines.{lines_from}
use Rattle.history_text.proofs.lines.some_lines.Given as goal

abbrev pub invariant-lines : goal.invariant-lines
invariant-lines l = record {
  says : lines_from (listed l.names) l.number l.lines.items (slice_split (λ b. b == 10) l.rest)
      ≡ lines_from (listed l.names) 1 [] (lines_of l.text);
  count : l.number + length l.rest ≤ 67108865;
}

abbrev pub decreases-lines : goal.decreases-lines
decreases-lines l = length l.rest
