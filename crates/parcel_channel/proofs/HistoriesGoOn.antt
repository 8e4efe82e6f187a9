-- Histories of parcels that go on.
use Rattle.std.specs.Prelude.{◌≡◌, ℕ, ◌==◌, Bool, true, false, List, [], ◌∷◌, ◌++◌, if◌then◌else◌, refl}
use Rattle.std.proofs.Common.{sym, ap, ◌∙◌, ne_eqb, eq-eqb, append_assoc}
use Rattle.worded.specs.Histories.{entries_of}
use Rattle.parcel_channel.specs.declared.parcel.ParcelEntry.{ParcelEntry}
use Rattle.parcel_channel.specs.Parcels.{State, start, put, after, state_from, state_of, Needs, LegalFrom, Legal, maker, moved_by, moves}

pub put_here : {A : Type 0} (i : ℕ) (x : A) (f : ℕ → A) → put i x f i ≡ x
put_here i x f = ap (λ (b : Bool). if b then x else f i) (eq-eqb i i refl)

pub put_else : {A : Type 0} (i j : ℕ) (x : A) (f : ℕ → A) → (i ≡ j → ⊥) → put i x f j ≡ f j
put_else i j x f ne = ap (λ (b : Bool). if b then x else f j) (ne_eqb i j ne)

module _ {T : Type 0} where
  pub state_from-append : (s : State T) (xs ys : List (ParcelEntry T)) → state_from s (xs ++ ys) ≡ state_from (state_from s xs) ys
  unfolding state_from
  state_from-append s [] ys = refl
  state_from-append s (e ∷ es) ys = state_from-append (after s e.who e.act) es ys

  pub state_push : (xs : List (ParcelEntry T)) (e : ParcelEntry T) → state_of (xs ++ e ∷ []) ≡ after (state_of xs) e.who e.act
  unfolding state_from
  state_push xs e = state_from-append start xs (e ∷ [])

  pub state_more : (xs ys : List (ParcelEntry T)) → state_of (xs ++ ys) ≡ state_from (state_of xs) ys
  state_more xs ys = state_from-append start xs ys

  pub LegalFrom-append : (n : ℕ) (s : State T) (xs ys : List (ParcelEntry T)) → LegalFrom n s xs → LegalFrom n (state_from s xs) ys
      → LegalFrom n s (xs ++ ys)
  unfolding state_from LegalFrom
  LegalFrom-append n s [] ys h k = k
  LegalFrom-append n s (e ∷ es) ys h k = (h.0, LegalFrom-append n (after s e.who e.act) es ys h.1 k)

  pub LegalFrom-parts : (n : ℕ) (s : State T) (xs ys : List (ParcelEntry T)) → LegalFrom n s (xs ++ ys) → LegalFrom n s xs
      × LegalFrom n (state_from s xs) ys
  unfolding state_from LegalFrom
  LegalFrom-parts n s [] ys h = (tt, h)
  LegalFrom-parts n s (e ∷ es) ys h = let r = LegalFrom-parts n (after s e.who e.act) es ys h.1 in ((h.0, r.0), r.1)

  pub Legal_push : (n : ℕ) (xs : List (ParcelEntry T)) (e : ParcelEntry T) → Legal n xs → Needs n (state_of xs) e.who e.act
      → Legal n (xs ++ e ∷ [])
  unfolding state_from LegalFrom
  Legal_push n xs e h k = LegalFrom-append n start xs (e ∷ []) h (k, tt)

  pub Legal-rest : (n : ℕ) (xs ys : List (ParcelEntry T)) → Legal n (xs ++ ys) → Legal n xs × LegalFrom n (state_of xs) ys
  Legal-rest n xs ys h = LegalFrom-parts n start xs ys h

  pub apart_first : (who : ℕ) (e : ParcelEntry T) (es : List (ParcelEntry T)) → entries_of maker who (e ∷ es) ≡ [] → (e.who ≡ who → ⊥)
      × (entries_of maker who es ≡ [])
  apart_first who e es h = by_test (e.who == who) refl h
    where
      by_test : (b : Bool) → (e.who == who) ≡ b → (if b then e ∷ entries_of maker who es else entries_of maker who es) ≡ []
          → (e.who ≡ who → ⊥) × (entries_of maker who es ≡ [])
      by_test true q k = cc
      by_test false q k = (λ u. let v : true ≡ false = sym (eq-eqb e.who who u) ∙ q in cc, k)

  pub moves-append : (xs ys : List (ParcelEntry T)) → moves (xs ++ ys) ≡ moves xs ++ moves ys
  moves-append [] ys = refl
  moves-append (e ∷ es) ys = ap (λ l. moved_by e.act ++ l) (moves-append es ys) ∙ sym (append_assoc (moved_by e.act) (moves es) (moves ys))
