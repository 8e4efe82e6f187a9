-- What a send that waits for nobody comes to.
use Rattle.std.specs.Prelude.{◌≡◌, ℕ, ◌≤◌, Bool, true, false}
use Rattle.counted_cells.specs.declared.act.Side.{Side}
use Rattle.counted_cells.specs.declared.act.Side.TheVariants.{Send}
use Rattle.counted_cells.specs.declared.cell_state.CellState.TheVariants.{Paired, Broken}
use Rattle.counted_cells.specs.Seen.{Seen, now_in, cell_in}

-- two met in its cell; or one of them gave up there; or all cells were drawn before
pub data MetOrLeft (cells : ℕ) (seen : Seen) : Bool → Type 0 where
  met : (i v : ℕ) → cell_in seen i ≡ Paired v → MetOrLeft cells seen true
  left : (i : ℕ) (side : Side) → cell_in seen i ≡ Broken side → MetOrLeft cells seen false
  spent : cells ≤ (now_in seen).drawn Send → MetOrLeft cells seen false
