-- What may happen to one cell.
use Rattle.std.specs.Prelude.{◌≡◌, ℕ, ◌+◌, ◌==◌, ◌<◌, ◌≤◌, Bool, true, false, List, [], ◌∷◌, Some, if◌then◌else◌, slice_index}
use mathlib.Core.Option.{some}
use mathlib.Core.List.{IsPrefix}
use lib.ListN.{get_elem?}
use Rattle.atomic_table.specs.Table.{State as Table}
use Rattle.worded.specs.Views.{has_tag}
use Rattle.worded.specs.Histories.{entries_of}
use Rattle.worded.specs.declared.view.View.{View}
use Rattle.counted_cells.specs.declared.act.Side.{Side}
use Rattle.counted_cells.specs.declared.act.Waiter.{Waiter}
use Rattle.counted_cells.specs.declared.act.CellAct.{CellAct}
use Rattle.counted_cells.specs.declared.act.CellAct.TheVariants.{Draw, Miss, Place, Pair, GiveUp}
use Rattle.counted_cells.specs.declared.act.CellEntry.{CellEntry}
use Rattle.counted_cells.specs.declared.cell_state.CellState.{CellState}
use Rattle.counted_cells.specs.declared.cell_state.CellState.TheVariants.{Free, Waits, Paired, Broken}
use Rattle.counted_cells.specs.Cells.{State, same_side, other_side, side_of, partner, state_of, Legal, maker}
use Rattle.counted_cells.specs.Seen.{entry_of}
use Rattle.counted_cells.specs.Words.{word_count, Fits}

-- the entry is one at this cell, the draws apart
abbrev pub is_at : ℕ → CellAct → Bool
is_at p (Draw d i) = false
is_at p (Miss d) = false
is_at p (Place i w) = i == p
is_at p (Pair d i v) = i == p
is_at p (GiveUp d i) = i == p

-- the entries at this cell, the draws apart
abbrev pub at_cell : ℕ → List CellEntry → List CellEntry
at_cell p [] = []
at_cell p (e ∷ es) = if is_at p e.act then e ∷ at_cell p es else at_cell p es

-- the cell was drawn for this side
abbrev pub draws_cell : Side → ℕ → CellAct → Bool
draws_cell d p (Draw e i) = if same_side d e then i == p else false
draws_cell d p (Miss e) = false
draws_cell d p (Place i w) = false
draws_cell d p (Pair e i v) = false
draws_cell d p (GiveUp e i) = false

-- how often the cell was drawn for this side
abbrev pub draws_of : Side → ℕ → List CellEntry → ℕ
draws_of d p [] = 0
draws_of d p (e ∷ es) = if draws_cell d p e.act then 1 + draws_of d p es else draws_of d p es

-- What happened at a cell in which x stands. Nobody came; or one waits; or the one who drew it for the other side met it, and the value
-- is the sender's; or who waited gave up.
pub data Story (s : State) (p : ℕ) : CellState → List CellEntry → Type 0 where
  nobody : Story s p Free []
  one : (t : ℕ) (w : Waiter) → s.drawer (side_of w) p ≡ Some t → Story s p (Waits w) (entry_of t (Place p w) ∷ [])
  two : (t u v : ℕ) (d : Side)
      → s.drawer (other_side d) p ≡ Some t
      → s.drawer d p ≡ Some u
      → Story s p (Paired v) (entry_of t (Place p (partner d v)) ∷ entry_of u (Pair d p v) ∷ [])
  left : (t : ℕ) (w : Waiter)
      → s.drawer (side_of w) p ≡ Some t
      → Story s p (Broken (side_of w)) (entry_of t (Place p w) ∷ entry_of t (GiveUp (side_of w) p) ∷ [])

-- the cell was drawn at most once for each side, and this is what happened there
pub record HasStory (log : List CellEntry) (p : ℕ) : Type 0 where
  pub drawn : (d : Side) → draws_of d p log ≤ 1
  pub story : Story (state_of log) p ((state_of log).cells p) (at_cell p log)

-- The words are those of one legal history; each pass has seen a beginning of it, and all entries of its own numbers
pub record HoldsCells (cells : ℕ) (s : Table CellEntry (View CellEntry ℕ)) : Type 0 where
  pub log : List CellEntry
  pub legal : Legal cells log
  pub words : (i : ℕ) → i < word_count cells → Fits log i (slice_index s.words i)
  pub prefixes : (id : ℕ) (v : View CellEntry ℕ) → get_elem? s.views id ≡ some v → IsPrefix v.seen log
  pub own : (id t : ℕ) (v : View CellEntry ℕ)
      → get_elem? s.views id ≡ some v → has_tag t v.tags ≡ true → entries_of maker t log ≡ entries_of maker t v.seen
