use Rattle.std.proofs.Common.{◌≡◌, ◌+◌, ◌≤◌, length}
use Rattle.std.specs.List.{slice_split}
use Rattle.script_grammar.specs.Words.{is_line_feed, lines_of}
use Rattle.script_grammar.specs.Reads.{start}
use Rattle.script_grammar.specs.Texts.{lines_from}
use Rattle.script_reader.specs.Reading.{view}
use Rattle.script_reader.specs.Holding.{Holds, cost}
use Rattle.script_reader.proofs.text.lines_in.Given as goal

abbrev pub invariant-lines : goal.invariant-lines
invariant-lines l = record {
  says : lines_from l.number (view l.reading) (slice_split is_line_feed l.rest) ≡ lines_from 1 start (lines_of l.bytes);
  count : l.number + length (slice_split is_line_feed l.rest) ≡ length (lines_of l.bytes) + 1;
  holds : Holds l.reading;
  short : cost (view l.reading) + length l.rest ≤ 1048576;
}

abbrev pub decreases-lines : goal.decreases-lines
decreases-lines l = length l.rest
