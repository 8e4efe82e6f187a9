use Rattle.std.proofs.Common.{◌≡◌, length}
use Rattle.report_reader.specs.Reading.{told_lines}
use Rattle.report_picture.specs.Order.{all_stand_below}
use Rattle.report_picture.proofs.sources.all_stand_below.Given as goal

abbrev pub invariant-loop-rest : goal.invariant-loop-rest
invariant-loop-rest l =
    all_stand_below l.wanted l.tags (told_lines l.lines) l.drawn l.rest l.places
    ≡ all_stand_below l.wanted l.tags (told_lines l.lines) l.drawn l.drawn l.sources

abbrev pub decreases-loop-rest : goal.decreases-loop-rest
decreases-loop-rest l = length l.rest
