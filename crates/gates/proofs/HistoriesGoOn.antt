-- Histories of gates that go on.
use Rattle.std.specs.Prelude.{◌≡◌, ℕ, ◌==◌, Bool, true, false, List, [], ◌∷◌, ◌++◌, if◌then◌else◌, refl}
use Rattle.std.proofs.Common.{sym, ap, ◌∙◌, ne_eqb, eq-eqb}
use Rattle.worded.specs.Histories.{entries_of}
use Rattle.gates.specs.declared.act.GateEntry.{GateEntry}
use Rattle.gates.specs.Gates.{State, start, put, after, state_from, state_of, Needs, LegalFrom, Legal, maker}

-- ---- functions with one place changed

pub put_here : {A : Type 0} (i : ℕ) (x : A) (f : ℕ → A) → put i x f i ≡ x
put_here i x f = ap (λ (b : Bool). if b then x else f i) (eq-eqb i i refl)

pub put_else : {A : Type 0} (i j : ℕ) (x : A) (f : ℕ → A) → (i ≡ j → ⊥) → put i x f j ≡ f j
put_else i j x f ne = ap (λ (b : Bool). if b then x else f j) (ne_eqb i j ne)

pub put_false : (i j : ℕ) (f : ℕ → Bool) → f j ≡ false → put i false f j ≡ false
put_false i j f h = by_test (i == j)
  where
    by_test : (b : Bool) → (if b then false else f j) ≡ false
    by_test true = refl
    by_test false = h

-- ---- states

pub state_from-append : (s : State) (xs ys : List GateEntry) → state_from s (xs ++ ys) ≡ state_from (state_from s xs) ys
unfolding state_from
state_from-append s [] ys = refl
state_from-append s (e ∷ es) ys = state_from-append (after s e.who e.act) es ys

pub state_push : (n : ℕ) (xs : List GateEntry) (e : GateEntry) → state_of n (xs ++ e ∷ []) ≡ after (state_of n xs) e.who e.act
unfolding state_from
state_push n xs e = state_from-append (start n) xs (e ∷ [])

pub state_more : (n : ℕ) (xs ys : List GateEntry) → state_of n (xs ++ ys) ≡ state_from (state_of n xs) ys
state_more n xs ys = state_from-append (start n) xs ys

-- ---- legal histories

pub LegalFrom-append : (s : State) (xs ys : List GateEntry) → LegalFrom s xs → LegalFrom (state_from s xs) ys → LegalFrom s (xs ++ ys)
unfolding state_from LegalFrom
LegalFrom-append s [] ys h k = k
LegalFrom-append s (e ∷ es) ys h k = (h.0, LegalFrom-append (after s e.who e.act) es ys h.1 k)

pub LegalFrom-parts : (s : State) (xs ys : List GateEntry) → LegalFrom s (xs ++ ys) → LegalFrom s xs × LegalFrom (state_from s xs) ys
unfolding state_from LegalFrom
LegalFrom-parts s [] ys h = (tt, h)
LegalFrom-parts s (e ∷ es) ys h = let r = LegalFrom-parts (after s e.who e.act) es ys h.1 in ((h.0, r.0), r.1)

pub Legal_push : (n : ℕ) (xs : List GateEntry) (e : GateEntry) → Legal n xs → Needs (state_of n xs) e.who e.act → Legal n (xs ++ e ∷ [])
unfolding state_from LegalFrom
Legal_push n xs e h k = LegalFrom-append (start n) xs (e ∷ []) h (k, tt)

pub Legal-rest : (n : ℕ) (xs ys : List GateEntry) → Legal n (xs ++ ys) → Legal n xs × LegalFrom (state_of n xs) ys
Legal-rest n xs ys h = LegalFrom-parts (start n) xs ys h

pub last_needs : (n : ℕ) (xs : List GateEntry) (e : GateEntry) → Legal n (xs ++ e ∷ []) → Needs (state_of n xs) e.who e.act
unfolding LegalFrom
last_needs n xs e h = (Legal-rest n xs (e ∷ []) h).1.0

-- ---- whose entries

pub apart_first : (who : ℕ) (e : GateEntry) (es : List GateEntry) → entries_of maker who (e ∷ es) ≡ [] → (e.who ≡ who → ⊥)
    × (entries_of maker who es ≡ [])
apart_first who e es h = by_test (e.who == who) refl h
  where
    by_test : (b : Bool) → (e.who == who) ≡ b → (if b then e ∷ entries_of maker who es else entries_of maker who es) ≡ []
        → (e.who ≡ who → ⊥) × (entries_of maker who es ≡ [])
    by_test true q k = cc
    by_test false q k = (λ u. let v : true ≡ false = sym (eq-eqb e.who who u) ∙ q in cc, k)
