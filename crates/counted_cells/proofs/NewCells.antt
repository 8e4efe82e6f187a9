-- Cells as they are made.
use Rattle.std.specs.Prelude.{◌≡◌, ℕ, ◌<◌, Bool, true, false, List, [], ◌∷◌, if◌then◌else◌, refl}
use Rattle.std.proofs.Common.{get_or, sym, ap, subst, arith, ne_eqb}
use Rattle.worded.specs.Views.{has_tag, first_view}
use Rattle.counted_cells.specs.Cells.{state_from, LegalFrom, Legal}
use Rattle.counted_cells.specs.Words.{Fits}
use Rattle.counted_cells.specs.Seen.{Seen}
use Rattle.counted_cells.proofs.StepsTell.{PassLaws}

pub nothing_yet : (cells : ℕ) → Legal cells []
unfolding LegalFrom
nothing_yet cells = tt

pub first_fits : (ws : List ℕ) (i : ℕ) → get_or ws i 0 ≡ 0 → Fits [] i (get_or ws i 0)
unfolding state_from
first_fits ws i none = record { counter = λ d e. none; cell = λ p e. none; narrow = λ p e. omega arith }

pub first_laws : (cells : ℕ) (v : Seen) → v ≡ first_view cells → PassLaws 0 0 v
unfolding LegalFrom
first_laws cells v e = subst (PassLaws 0 0) (sym e) (record { numbered = (refl, refl); ungiven = λ t lt. above t lt; legal = tt })
  where
    above : (t : ℕ) → 0 < t → has_tag t (0 ∷ []) ≡ false
    above t lt = ap (λ (b : Bool). if b then true else false) (ne_eqb t 0 (λ e. absurd (omega (arith, lt, e))))
