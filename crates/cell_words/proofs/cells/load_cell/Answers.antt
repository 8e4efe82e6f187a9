use Rattle.std.proofs.Common.{sym}
use Rattle.word_rules.specs.Cells.{spot}
use Rattle.cell_words.proofs.cells.load_cell.Goals as goal

pub load_numbered_cell-requires-clause-number : goal.load_numbered_cell-requires-clause-number
load_numbered_cell-requires-clause-number c = record {
  wait = spot c.args.c c.args.place;
  at = c.requires.at;
  is =
      sym c.number_of-cell.ensures;
}

pub returns-clause-word : goal.returns-clause-word
returns-clause-word c = c.load_numbered_cell.ensures.word (spot c.args.c c.args.place) c.requires.at (sym c.number_of-cell.ensures)
