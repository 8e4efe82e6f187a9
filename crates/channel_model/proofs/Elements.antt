-- What holds of all elements of a list, and of the list with fewer or with one more.
use Rattle.std.specs.Prelude.{◌≡◌, Bool, true, false, ◌&&◌, cond, List, [], ◌∷◌, ◌++◌, filter, refl}
use Rattle.std.specs.List.{list_all}
use Rattle.std.proofs.Common.{sym, ap, ◌∙◌}
use Rattle.std.proofs.lemmas.Bool.{true≢false, and_parts}

pub all_filter : {X : Type 0} (p q : X → Bool) (xs : List X) → list_all p xs ≡ true → list_all p (filter q xs) ≡ true
all_filter p q [] h = refl
all_filter p q (x ∷ xs) h = by_test (λ h. all_filter p q xs h) (p x) (q x) refl h
  where
    by_test : (list_all p xs ≡ true → list_all p (filter q xs) ≡ true) → (a b : Bool) → p x ≡ a → (a && list_all p xs) ≡ true
        → list_all p (cond b (x ∷ filter q xs) (filter q xs)) ≡ true
    by_test rest true true e h = ap (λ (t : Bool). t && list_all p (filter q xs)) e ∙ rest h
    by_test rest true false e h = rest h
    by_test rest false b e h = absurd (true≢false (sym h))

pub all_rest : {X : Type 0} (p : X → Bool) (x : X) (xs : List X) → list_all p (x ∷ xs) ≡ true → list_all p xs ≡ true
all_rest p x xs h = (and_parts (p x) _ h).1

pub all_first : {X : Type 0} (p : X → Bool) (x : X) (xs : List X) → list_all p (x ∷ xs) ≡ true → p x ≡ true
all_first p x xs h = (and_parts (p x) _ h).0

pub all_more : {X : Type 0} (p : X → Bool) (x : X) (xs : List X) → p x ≡ true → list_all p xs ≡ true → list_all p (x ∷ xs) ≡ true
all_more p x xs e h = ap (λ (t : Bool). t && list_all p xs) e ∙ h

pub all_push : {X : Type 0} (p : X → Bool) (xs : List X) (y : X) → list_all p xs ≡ true → p y ≡ true → list_all p (xs ++ y ∷ []) ≡ true
all_push p [] y h e = all_more p y [] e refl
all_push p (x ∷ xs) y h e = all_more p x (xs ++ y ∷ []) (all_first p x xs h) (all_push p xs y (all_rest p x xs h) e)
