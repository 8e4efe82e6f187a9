-- What a cell's word tells of an element that was put there.
use Rattle.std.specs.Prelude.{Bool, true, false}
use Rattle.word_rules.specs.declared.cell_word.CellState.{CellState}
use Rattle.word_rules.specs.declared.cell_word.CellState.TheVariants as cell

-- an element was put here, and may have been removed since
abbrev pub was_put : CellState → Bool
was_put cell.Free = false
was_put cell.Receiver = false
was_put cell.Offer = false
was_put cell.Buffered = true
was_put cell.Emptied = true
was_put cell.Closed = false
was_put cell.Voided = false
