use Rattle.std.proofs.Common.{◌≡◌, length}
use Rattle.report_reader.specs.Reading.{told_lines}
use Rattle.report_picture.specs.Pictures.{tags_from, tags_of}
use Rattle.report_picture.proofs.columns.tags_of.Given as goal

abbrev pub invariant-loop-rest : goal.invariant-loop-rest
invariant-loop-rest l = tags_from l.wanted l.tags.items (told_lines l.rest) ≡ tags_of l.wanted (told_lines l.lines)

abbrev pub decreases-loop-rest : goal.decreases-loop-rest
decreases-loop-rest l = length l.rest
