-- Counted cells and a pass.
use Rattle.std.specs.Prelude.{◌≡◌, ℕ, true, List}
use Rattle.worded.specs.Views.{IsIdleSeatOf}
use Rattle.worded.specs.Histories.{entries_of}
use Rattle.worded.specs.Steps as steps
use Rattle.counted_cells.specs.declared.act.CellEntry.{CellEntry}
use Rattle.counted_cells.specs.declared.counted.Counted.{Counted}
use Rattle.counted_cells.specs.declared.pass.CountedPass.{CountedPass}
use Rattle.counted_cells.specs.Cells.{maker}
use Rattle.counted_cells.specs.Seen.{Seen}

-- what the pass knows
abbrev pub seen_by : CountedPass → Seen
seen_by pass = pass.seat.me.0

-- the pass is one of these cells
abbrev pub IsOf : Counted → CountedPass → Type 0
IsOf counted pass = IsIdleSeatOf counted.table.shared.table_id counted.cells pass.seat

-- it has its number still, and has split off as many
abbrev pub SamePass : CountedPass → CountedPass → Type 0
SamePass old new = (new.number ≡ old.number) × (new.splits ≡ old.splits)

-- it is the first pass, from which others are split off
abbrev pub IsFirst : CountedPass → Type 0
IsFirst pass = pass.seat.me.0.chief ≡ true

-- the entries of one number are the same
abbrev pub SameOf : ℕ → List CellEntry → List CellEntry → Type 0
SameOf t old new = entries_of maker t new ≡ entries_of maker t old

-- a pass that had seen `old` took in one that had seen `other`, and all of its numbers
abbrev pub EndAnswer : Seen → Seen → Seen → Type 0
EndAnswer = steps.EndAnswer SameOf
