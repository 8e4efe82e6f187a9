-- Tasks in lists, by their tags.
use Rattle.std.proofs.Common.{◌≡◌, ℕ, zero, suc, ◌+◌, ◌-◌, ◌<◌, List, [], ◌∷◌, ◌++◌, ◌⊎◌, ⊎_elim, length, get_or, sym, refl, ap, ◌∙◌, arith, length-append, Option, Some}
use mathlib.Core.Logic.{dite}
use mathlib.Core.Option.{some, some-injective, some-ne-none}
use native.Mathlib.Decide.{ℕ_discrete}
use lib.ListN.{get_elem?}
use Rattle.atomic_table.proofs.Lists.{at_index, at_longer, at_last}
use Rattle.task_berths.specs.Answers.{HaveTags, AllAtHome}
use Rattle.task_berths.proofs.SeatsComeAndGo.{at_more}

module _ {A : Type 0} where
  pub at_less : (l : List A) (i : ℕ) (a : A) → get_elem? l i ≡ some a → i < length l
  at_less [] i a e = absurd (some-ne-none a (sym e))
  at_less (x ∷ xs) zero a e = omega arith
  at_less (x ∷ xs) (suc i) a e = let h = at_less xs i a e in omega (arith, h)

  pub at_get : (l : List A) (i : ℕ) (a d : A) → get_elem? l i ≡ some a → get_or l i d ≡ a
  at_get [] i a d e = absurd (some-ne-none a (sym e))
  at_get (x ∷ xs) zero a d e = some-injective x a e
  at_get (x ∷ xs) (suc i) a d e = at_get xs i a d e

module _ {T : Type 0} (tag_of : T → ℕ) where
  -- the tags fall from n
  abbrev pub Turned : ℕ → List T → Type 0
  Turned n xs = (t : ℕ) (y : T) → get_elem? xs t ≡ some y → tag_of y + suc t ≡ n

  pub tags_more : (xs : List T) (y : T) → HaveTags tag_of xs → tag_of y ≡ length xs → HaveTags tag_of (xs ++ y ∷ [])
  tags_more xs y h e t z at = ⊎_elim (λ q. h t z q) (λ (q : (t ≡ length xs) × (y ≡ z)). ap tag_of (sym q.1) ∙ e
      ∙ sym q.0) (at_more xs y z t at)

  pub home_more : (xs : List (Option T)) (y : T) → AllAtHome tag_of xs → tag_of y ≡ length xs → AllAtHome tag_of (xs ++ Some y ∷ [])
  home_more xs y h e t lt = dite (ℕ_discrete t (length xs))
      (λ is. (y, at_last xs (Some y) t (sym is), e ∙ sym is))
      (λ ne. let z = h t (omega (arith, lt, ne, length-append xs (Some y ∷ []))) in (z.0, at_longer xs (Some y ∷ []) t (Some z.0) z.1, z.2))

  pub in_slot : (xs : List (Option T)) (i : ℕ) (r : Option T) → AllAtHome tag_of xs → get_elem? xs i ≡ some r → (y : T) × (r ≡ Some y)
      × (tag_of y ≡ i)
  in_slot xs i r h e = let z = h i (at_less xs i r e) in (z.0, some-injective r (Some z.0) (sym e ∙ z.1), z.2)

  pub turned_first : (xs ys : List T) → HaveTags tag_of xs → length ys ≡ length xs
      → ((k : ℕ) (d : T) → k < length xs → get_or ys k d ≡ get_or xs (length xs - 1 - k) d) → Turned (length xs) ys
  turned_first xs ys h long rev t y e = let lt = at_less ys t y e in
      let i : ℕ = length xs - 1 - t in
      let lt' : i < length xs = omega (arith, lt, long) in
      let at : get_elem? xs i ≡ some y = at_index xs i y lt' (sym (at_get ys t y y e) ∙ rev t y (omega (arith, lt, long))) in
      omega (arith, h i y at, lt, long)

  pub turned_rest : (n : ℕ) (xs : List T) (y : T) → Turned n (xs ++ y ∷ []) → Turned n xs × (tag_of y + suc (length xs) ≡ n)
  turned_rest n xs y h = ((λ t z e. h t z (at_longer xs (y ∷ []) t z e)), h (length xs) y (at_last xs y (length xs) refl))
