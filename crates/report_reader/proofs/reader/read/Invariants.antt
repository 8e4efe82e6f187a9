use Rattle.std.proofs.Common.{◌≡◌, ◌+◌, ◌≤◌, length}
use Rattle.std.specs.List.{slice_split}
use Rattle.std.specs.Prelude.{◌==◌}
use Rattle.report_reader.specs.Reports.{lines_from, report_of}
use Rattle.report_reader.specs.Reading.{view}
use Rattle.report_reader.proofs.reader.read.Given as goal

abbrev pub invariant-lines : goal.invariant-lines
invariant-lines l = record {
  says : lines_from l.number (view l.reading) (slice_split (λ b. b == 10) l.rest) ≡ report_of l.bytes;
  count : l.number + length l.rest ≤ 67108865;
}

abbrev pub decreases-lines : goal.decreases-lines
decreases-lines l = length l.rest
