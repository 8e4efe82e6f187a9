-- What was seen of counted cells, and what steps add.
use Rattle.std.specs.Prelude.{◌≡◌, ◌≢◌, ℕ, ◌<◌, Bool, true, false, List, [], ◌∷◌, ◌++◌}
use Rattle.worded.specs.Views.{has_tag}
use Rattle.worded.specs.Views as views
use Rattle.worded.specs.Histories.{entries_of}
use Rattle.worded.specs.Steps as steps
use Rattle.worded.specs.declared.view.View.{View}
use Rattle.counted_cells.specs.declared.act.CellAct.{CellAct}
use Rattle.counted_cells.specs.declared.act.CellEntry.{CellEntry}
use Rattle.counted_cells.specs.declared.cell_state.CellState.{CellState}
use Rattle.counted_cells.specs.Cells.{State, state_of, maker}

-- what a pass knows
abbrev pub Seen : Type 0
Seen = View CellEntry ℕ

-- what it has seen leaves this
abbrev pub now_in : Seen → State
now_in v = state_of v.seen

abbrev pub cell_in : Seen → ℕ → CellState
cell_in v i = (state_of v.seen).cells i

abbrev pub entry_of : ℕ → CellAct → CellEntry
entry_of who act = record { who = who; act = act }

abbrev pub first_tag : List ℕ → ℕ
first_tag [] = 0
first_tag (t ∷ ts) = t

-- whether a pass splits others off, and which numbers it has given out
abbrev pub tags_given : Seen → Bool × List ℕ
tags_given = views.tags_given

-- no number above n was given out
abbrev pub Ungiven : ℕ → Seen → Type 0
Ungiven n v = (t : ℕ) → n < t → has_tag t v.given ≡ false

-- others added to what was seen, and nothing under the numbers of the pass
abbrev pub Sees : Seen → Seen → Type 0
Sees = steps.Sees maker

-- the entry was made after all that was seen, and is the last that was then seen
abbrev pub Makes : Seen → CellEntry → Seen → Type 0
Makes = steps.Makes maker

-- who made these entries after what was seen, in their order, and nobody else did under a number of the pass
pub record Adds (who : ℕ) (made : List CellEntry) (v w : Seen) : Type 0 where
  pub rest : List CellEntry
  pub now : w.seen ≡ v.seen ++ rest
  pub mine : entries_of maker who rest ≡ made
  pub apart : (t : ℕ) → has_tag t v.tags ≡ true → t ≢ who → entries_of maker t rest ≡ []
  pub tags : w.tags ≡ v.tags
  pub giving : tags_given w ≡ tags_given v
