use Rattle.std.proofs.Common.{◌≡◌, ◌++◌, map, filter, length}
use Rattle.report_reader.specs.Reading.{told, told_lines}
use Rattle.report_picture.specs.Pictures.{is_element}
use Rattle.report_picture.proofs.fates.add_lost.Given as goal

abbrev pub invariant-loop-rest : goal.invariant-loop-rest
invariant-loop-rest l =
    map (λ e. told e.line) l.lost.items ++ filter is_element (told_lines l.rest) ≡ map (λ e. told e.line) l.fn.lost.items ++ filter is_element (told_lines l.lines)

abbrev pub decreases-loop-rest : goal.decreases-loop-rest
decreases-loop-rest l = length l.rest
