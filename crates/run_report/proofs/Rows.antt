-- Rows that grow by what stands behind their end anyway.
use Rattle.std.proofs.Common.{◌≡◌, ◌≢◌, ℕ, ◌<◌, List, [], ◌∷◌, length, slice_index_or, slice_set, zero, suc, refl, ap, sym, ◌∙◌, Vec, inl, inr, if◌then◌else◌, arith}
use Rattle.std.proofs.lemmas.Bool.Decides.{eqb_tells}
use Rattle.std.proofs.lemmas.List.{get_or-map}
use Rattle.channel_model.specs.Fates.{is_at}
use Rattle.std.specs.Global.{Global}
use Rattle.run_report.specs.Tables.{lists_of, value_in}

-- ---- a row in place of another

row_there : {T : Type 0} (rows : List (Vec T Global)) (c : ℕ) (row : Vec T Global) → c < length rows
    → slice_index_or (lists_of (slice_set rows c row)) c [] ≡ row.items
row_there [] c row h = absurd (omega arith)
row_there (r ∷ rows) zero row h = refl
row_there (r ∷ rows) (suc c) row h = row_there rows c row (omega arith)

row_elsewhere : {T : Type 0} (rows : List (Vec T Global)) (c d : ℕ) (row : Vec T Global) → d ≢ c
    → slice_index_or (lists_of (slice_set rows c row)) d [] ≡ slice_index_or (lists_of rows) d []
row_elsewhere [] c d row h = refl
row_elsewhere (r ∷ rows) zero zero row h = absurd (h refl)
row_elsewhere (r ∷ rows) zero (suc d) row h = refl
row_elsewhere (r ∷ rows) (suc c) zero row h = refl
row_elsewhere (r ∷ rows) (suc c) (suc d) row h = row_elsewhere rows c d row (λ e. h (ap suc e))

-- a row with one value set, in place of the channel's own
pub value_in-set : {T : Type 0} (rows grown : List (Vec T Global)) (c place : ℕ) (row : Vec T Global) (plain value : T)
    → c < length grown
    → ((d : ℕ) → slice_index_or (lists_of grown) d [] ≡ slice_index_or (lists_of rows) d [])
    → slice_index_or row.items place plain ≡ value
    → ((q : ℕ) → (q ≡ place → ⊥) → slice_index_or row.items q plain ≡ slice_index_or (slice_index_or (lists_of rows) c []) q plain)
    → (d q : ℕ) → value_in (lists_of (slice_set grown c row)) plain d q ≡
    (if is_at d q c place then value else value_in (lists_of rows) plain d q)
value_in-set rows grown c place row plain value within stays there others d q =
    elim (eqb_tells c d) [
      | inl x ↦ elim (eqb_tells place q) [
        | inl y ↦ rw (x.0, y.0) (rw (← x.1, ← y.1) (ap (λ r. slice_index_or r place plain) (row_there grown c row within) ∙ there))
        | inr y ↦ rw (x.0, y.0) (rw (← x.1) (ap (λ r. slice_index_or r q plain) (row_there grown c row within)
            ∙ others q (λ e. y.1 (sym e))))
      ]
      | inr x ↦ rw x.0 (ap (λ r. slice_index_or r q plain) (row_elsewhere grown c d row (λ e. x.1 (sym e)) ∙ stays d))
    ]

-- what stands in the row that was read
pub row_read : {T : Type 0} (rows : List (Vec T Global)) (c : ℕ) (row : Vec T Global) → c < length rows → row ≡ slice_index_or rows c row
    → slice_index_or (lists_of rows) c [] ≡ row.items
row_read rows c row h e = get_or-map (λ r. r.items) rows c row [] h ∙ ap (λ r. r.items) (sym e)
