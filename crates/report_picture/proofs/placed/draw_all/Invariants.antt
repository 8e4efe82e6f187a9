use Rattle.std.proofs.Common.{◌≡◌, ◌++◌, filter, length, true}
use Rattle.report_reader.specs.Reading.{told_lines}
use Rattle.report_picture.specs.Order.{StandFrom}
use Rattle.report_picture.specs.Pictures.{StandInColumns, StandInOrder, is_drawn, lines_in}
use Rattle.report_picture.proofs.placed.draw_all.Given as goal

abbrev pub invariant-loop-rest : goal.invariant-loop-rest
invariant-loop-rest l = record {
  once : lines_in l.drawn.items ++ filter (is_drawn l.wanted l.tags) (told_lines l.rest)
      ≡ filter (is_drawn l.wanted l.tags) (told_lines l.lines);
  columns : StandInColumns l.tags l.drawn.items;
  order : StandInOrder l.drawn.items;
  rows : l.as_told ≡ true → StandFrom 0 l.drawn.items;
}

abbrev pub decreases-loop-rest : goal.decreases-loop-rest
decreases-loop-rest l = length l.rest
