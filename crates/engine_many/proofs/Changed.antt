-- A list in which one element is changed.
use Rattle.std.specs.Prelude.{◌≡◌, ℕ, zero, suc, ◌<◌, List, [], ◌∷◌, length, map, refl}
use Rattle.std.specs.List.{All}
use Rattle.std.proofs.Common.{ap, arith, get_or, set, take}
use Rattle.std.proofs.lemmas.List.Elements.{All-head, All-tail, All-cons, All-nil}

module _ {X : Type 0} where
  pub map_changed : {Y : Type 0} (f : X → Y) (xs : List X) (i : ℕ) (d y : X) → f y ≡ f (get_or xs i d) → map f (set xs i y) ≡ map f xs
  map_changed f [] i d y e = refl
  map_changed f (x ∷ xs) zero d y e = ap (λ v. v ∷ map f xs) e
  map_changed f (x ∷ xs) (suc i) d y e = ap (λ l. f x ∷ l) (map_changed f xs i d y e)

  pub all_changed : (P : X → Type 0) (xs : List X) (i : ℕ) (d y : X) → i < length xs → (P (get_or xs i d) → P y) → All P xs
      → All P (set xs i y)
  all_changed P [] i d y lt h all = absurd (omega (arith, lt))
  all_changed P (x ∷ xs) zero d y lt h all = All-cons P y xs (h (All-head P x xs all)) (All-tail P x xs all)
  all_changed P (x ∷ xs) (suc i) d y lt h all =
      let less : i < length xs = omega (arith, lt) in
      All-cons P x (set xs i y) (All-head P x xs all) (all_changed P xs i d y less h (All-tail P x xs all))

  -- and of those up to it, one more
  pub all_up_to : (P : X → Type 0) (xs : List X) (i : ℕ) (y : X) → i < length xs → All P (take i xs) → P y
      → All P (take (suc i) (set xs i y))
  all_up_to P [] i y lt all h = absurd (omega (arith, lt))
  all_up_to P (x ∷ xs) zero y lt all h = All-cons P y [] h (All-nil P)
  all_up_to P (x ∷ xs) (suc i) y lt all h =
      let less : i < length xs = omega (arith, lt) in
      All-cons P x (take (suc i) (set xs i y)) (All-head P x (take i xs) all) (all_up_to P xs i y less (All-tail P x (take i xs) all) h)
