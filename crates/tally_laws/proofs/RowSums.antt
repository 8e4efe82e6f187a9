-- How many acts there are of a kind, row by row.
use Rattle.std.specs.Prelude.{◌≡◌, ◌≢◌, ℕ, ◌<◌, ◌≤◌, ◌==◌, Bool, true, false, ◌&&◌, cond, List, [], ◌∷◌, refl}
use Rattle.std.proofs.Common.{ap, ◌∙◌, arith}
use Rattle.std.proofs.lemmas.Bool.{eqb-true, eq-eqb}
use Rattle.channel_model.specs.Laws.{how_many}
use Rattle.job_model.specs.declared.acts.JobAct.{JobAct}
use Rattle.job_model.specs.Laws.{row_of_act}
use Rattle.tally_laws.specs.Sums.{sum_below}
use Rattle.tally_laws.proofs.Summed.{sum_add, sum_none, sum_at}
use Rattle.tally_laws.proofs.Parted.{both}

-- the act is of this kind, and of this row
abbrev pub AtRow : (ℕ → JobAct → Bool) → (JobAct → Bool) → Type 0
AtRow t kind = (r : ℕ) (a : JobAct) → t r a ≡ ((r == row_of_act a) && kind a)

module _ (t : ℕ → JobAct → Bool) (kind : JobAct → Bool) (at : AtRow t kind) where
  at_own : (a : JobAct) → t (row_of_act a) a ≡ kind a
  at_own a = at (row_of_act a) a ∙ ap (λ b. b && kind a) (eq-eqb (row_of_act a) (row_of_act a) refl)

  elsewhere : (r : ℕ) (a : JobAct) (b : Bool) → (r == row_of_act a) ≡ b → r ≢ row_of_act a → ◌≡◌ {A = ℕ} (cond (b && kind a) 1 0) 0
  elsewhere r a true e n = absurd (n (eqb-true r (row_of_act a) e))
  elsewhere r a false e n = refl

  never : (r : ℕ) (a : JobAct) (c : Bool) → ◌≡◌ {A = ℕ} (cond (c && false) 1 0) 0
  never r a true = refl
  never r a false = refl

  -- one act, over all rows
  one_act : (n : ℕ) (a : JobAct) (b : Bool) → kind a ≡ b → (b ≡ true → row_of_act a < n) → sum_below (λ r. cond (t r a) 1 0) n ≡ cond b 1 0
  one_act n a true e low =
      sum_at (λ r. cond (t r a) 1 0) n (row_of_act a) (low refl) (λ r l m. ap (λ c. cond c 1 0) (at r a)
      ∙ elsewhere r a (r == row_of_act a) refl m)
      ∙ ap (λ c. cond c 1 0) (at_own a ∙ e)
  one_act n a false e low = sum_none (λ r. cond (t r a) 1 0) n (λ r l. ap (λ c. cond c 1 0) (at r a ∙ ap (λ b. (r == row_of_act a) && b) e)
      ∙ never r a (r == row_of_act a))

  -- where each act of the kind is of a row below n, as many are of the kind as are of the rows
  pub by_rows : (n : ℕ) (acts : List JobAct) → ((r : ℕ) → 1 ≤ how_many (t r) acts → r < n)
      → sum_below (λ r. how_many (t r) acts) n ≡ how_many kind acts
  by_rows n [] low = sum_none (λ r. 0) n (λ r l. refl)
  by_rows n (a ∷ acts) low =
      let here = one_act n a (kind a) refl (λ e. low (row_of_act a)
      (let k : ◌≡◌ {A = ℕ} (cond (t (row_of_act a) a) 1 0) 1 = ap (λ c. cond c 1 0) (at_own a ∙ e) in omega (arith, k))) in
      let rest = by_rows n acts (λ r h. low r (omega (arith, h))) in
      sum_add (λ r. cond (t r a) 1 0) (λ r. how_many (t r) acts) n ∙ both _ _ _ _ here rest
