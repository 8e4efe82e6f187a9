use Rattle.std.proofs.Common.{◌≡◌}
use Rattle.word_rules.specs.Words.{base}
use Rattle.cell_words.specs.Sizes.{AreFirsts}
use Rattle.cell_words.proofs.meeting.first_cells.Given as goal

abbrev pub invariant-loop-i : goal.invariant-loop-i
invariant-loop-i l = record {
  next : l.next ≡ base l.kinds l.i;
  firsts : AreFirsts l.kinds l.i l.firsts.items;
}
