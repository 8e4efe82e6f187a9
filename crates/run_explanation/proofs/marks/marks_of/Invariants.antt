use Rattle.std.proofs.Common.{◌≡◌, ◌++◌, length, map}
use Rattle.report_reader.specs.Reading.{told_lines}
use Rattle.run_explanation.specs.Waiting.{mark_of, marks_of}
use Rattle.run_explanation.proofs.marks.marks_of.Given as goal

abbrev pub invariant-loop-rest : goal.invariant-loop-rest
invariant-loop-rest l = map mark_of l.marks.items ++ marks_of (told_lines l.rest) ≡ marks_of (told_lines l.lines)

abbrev pub decreases-loop-rest : goal.decreases-loop-rest
decreases-loop-rest l = length l.rest
