use Rattle.std.proofs.Common.{◌≡◌, ◌++◌, false, map, filter, length}
use Rattle.report_reader.specs.Reading.{told, told_lines}
use Rattle.report_picture.specs.Traces.{is_traced}
use Rattle.report_picture.proofs.trace.add_moments.Given as goal

abbrev pub invariant-loop-rest : goal.invariant-loop-rest
invariant-loop-rest l = l.moments.full ≡ false
    → map (λ m. told m.line) l.moments.list.items ++ filter (is_traced l.wanted) (told_lines l.rest)
    ≡ map (λ m. told m.line) l.fn.moments.list.items ++ filter (is_traced l.wanted) (told_lines l.lines)

abbrev pub decreases-loop-rest : goal.decreases-loop-rest
decreases-loop-rest l = length l.rest
