use Rattle.std.proofs.Common.{◌≡◌}
use Rattle.word_rules.specs.Words.{base}
use Rattle.cell_words.proofs.meeting.count_cells.Given as goal

abbrev pub invariant-loop-i : goal.invariant-loop-i
invariant-loop-i l = l.cells ≡ base l.kinds l.i
