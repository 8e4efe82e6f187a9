use Rattle.std.proofs.Common.{◌≡◌, length}
use Rattle.report_reader.specs.Reading.{told_lines}
use Rattle.report_picture.specs.Pictures.{all_have_columns}
use Rattle.report_picture.proofs.columns.all_have_columns.Given as goal

abbrev pub invariant-loop-rest : goal.invariant-loop-rest
invariant-loop-rest l = all_have_columns l.wanted l.tags (told_lines l.rest) ≡ all_have_columns l.wanted l.tags (told_lines l.lines)

abbrev pub decreases-loop-rest : goal.decreases-loop-rest
decreases-loop-rest l = length l.rest
