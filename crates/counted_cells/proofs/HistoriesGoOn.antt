-- Histories of cells that go on.
use Rattle.std.specs.Prelude.{◌≡◌, ℕ, ◌==◌, Bool, true, false, List, [], ◌∷◌, ◌++◌, if◌then◌else◌, refl}
use Rattle.std.proofs.Common.{sym, ap, ◌∙◌, ne_eqb, eq-eqb}
use Rattle.worded.specs.Histories.{entries_of}
use Rattle.counted_cells.specs.declared.act.CellEntry.{CellEntry}
use Rattle.counted_cells.specs.Cells.{State, start, put, after, state_from, state_of, Needs, LegalFrom, Legal, maker}

-- ---- functions with one place changed

pub put_here : {A : Type 0} (i : ℕ) (x : A) (f : ℕ → A) → put i x f i ≡ x
put_here i x f = ap (λ (b : Bool). if b then x else f i) (eq-eqb i i refl)

pub put_else : {A : Type 0} (i j : ℕ) (x : A) (f : ℕ → A) → (i ≡ j → ⊥) → put i x f j ≡ f j
put_else i j x f ne = ap (λ (b : Bool). if b then x else f j) (ne_eqb i j ne)

-- ---- states

pub state_from-append : (s : State) (xs ys : List CellEntry) → state_from s (xs ++ ys) ≡ state_from (state_from s xs) ys
unfolding state_from
state_from-append s [] ys = refl
state_from-append s (e ∷ es) ys = state_from-append (after s e.who e.act) es ys

pub state_push : (xs : List CellEntry) (e : CellEntry) → state_of (xs ++ e ∷ []) ≡ after (state_of xs) e.who e.act
unfolding state_from
state_push xs e = state_from-append start xs (e ∷ [])

pub state_more : (xs ys : List CellEntry) → state_of (xs ++ ys) ≡ state_from (state_of xs) ys
state_more xs ys = state_from-append start xs ys

-- ---- legal histories

pub LegalFrom-append : (cells : ℕ) (s : State) (xs ys : List CellEntry) → LegalFrom cells s xs → LegalFrom cells (state_from s xs) ys
    → LegalFrom cells s (xs ++ ys)
unfolding state_from LegalFrom
LegalFrom-append cells s [] ys h k = k
LegalFrom-append cells s (e ∷ es) ys h k = (h.0, LegalFrom-append cells (after s e.who e.act) es ys h.1 k)

pub LegalFrom-parts : (cells : ℕ) (s : State) (xs ys : List CellEntry) → LegalFrom cells s (xs ++ ys) → LegalFrom cells s xs
    × LegalFrom cells (state_from s xs) ys
unfolding state_from LegalFrom
LegalFrom-parts cells s [] ys h = (tt, h)
LegalFrom-parts cells s (e ∷ es) ys h = let r = LegalFrom-parts cells (after s e.who e.act) es ys h.1 in ((h.0, r.0), r.1)

pub Legal_push : (cells : ℕ) (xs : List CellEntry) (e : CellEntry) → Legal cells xs → Needs cells (state_of xs) e.who e.act
    → Legal cells (xs ++ e ∷ [])
unfolding state_from LegalFrom
Legal_push cells xs e h k = LegalFrom-append cells start xs (e ∷ []) h (k, tt)

pub Legal-rest : (cells : ℕ) (xs ys : List CellEntry) → Legal cells (xs ++ ys) → Legal cells xs × LegalFrom cells (state_of xs) ys
Legal-rest cells xs ys h = LegalFrom-parts cells start xs ys h

pub last_needs : (cells : ℕ) (xs : List CellEntry) (e : CellEntry) → Legal cells (xs ++ e ∷ []) → Needs cells (state_of xs) e.who e.act
unfolding LegalFrom
last_needs cells xs e h = (Legal-rest cells xs (e ∷ []) h).1.0

-- ---- whose entries

pub apart_first : (who : ℕ) (e : CellEntry) (es : List CellEntry) → entries_of maker who (e ∷ es) ≡ [] → (e.who ≡ who → ⊥)
    × (entries_of maker who es ≡ [])
apart_first who e es h = by_test (e.who == who) refl h
  where
    by_test : (b : Bool) → (e.who == who) ≡ b → (if b then e ∷ entries_of maker who es else entries_of maker who es) ≡ []
        → (e.who ≡ who → ⊥) × (entries_of maker who es ≡ [])
    by_test true q k = cc
    by_test false q k = (λ u. let v : true ≡ false = sym (eq-eqb e.who who u) ∙ q in cc, k)
