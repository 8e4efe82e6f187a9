-- What is said of all acts, and of the acts with one more.
use Rattle.std.specs.Prelude.{◌≡◌, ℕ, ◌+◌, ◌≤◌, Bool, true, false, ◌||◌, cond, List, [], ◌∷◌, ◌++◌, Option, Some, None, refl, ◌⊎◌}
use Rattle.std.specs.List.{list_any}
use Rattle.std.proofs.Common.{sym, ap, ◌∙◌, arith, inl, inr, ⊎_elim}
use Rattle.std.proofs.lemmas.Bool.{cases_lt, or_left}
use Rattle.std.proofs.Math.Bool.{or-true}
use Rattle.std.proofs.lemmas.List.Folds.{list_any-append}
use Rattle.channel_model.specs.declared.acts.Act.{Act}
use Rattle.channel_model.specs.Fates.{first_some, or_else}
use Rattle.channel_model.specs.Laws.{how_many}

pub any_kept : {X : Type 0} (f : X → Bool) (xs ys : List X) → list_any f xs ≡ true → list_any f (xs ++ ys) ≡ true
any_kept f xs ys e = list_any-append f xs ys ∙ ap (λ b. b || list_any f ys) e

pub any_last : {X : Type 0} (f : X → Bool) (xs : List X) (x : X) → f x ≡ true → list_any f (xs ++ x ∷ []) ≡ true
any_last f xs x e = list_any-append f xs (x ∷ []) ∙ ap (λ b. list_any f xs || b) (or_left (f x) false e) ∙ or-true (list_any f xs)

or_cases : (a b : Bool) → (a || (b || false)) ≡ true → (a ≡ true) ⊎ (b ≡ true)
or_cases true b e = inl refl
or_cases false true e = inr refl
or_cases false false e = cc

pub any_cases : {X : Type 0} (f : X → Bool) (xs : List X) (x : X) → list_any f (xs ++ x ∷ []) ≡ true → (list_any f xs ≡ true) ⊎ (f x ≡ true)
any_cases f xs x e = or_cases (list_any f xs) (f x) (sym (list_any-append f xs (x ∷ [])) ∙ e)

counted_one : (b r : Bool) (n : ℕ) → (b || r) ≡ true → (r ≡ true → 1 ≤ n) → 1 ≤ cond b 1 0 + n
counted_one true r n e k = omega arith
counted_one false r n e k = omega (arith, k e)

-- where one passes, at least one does
pub any_count : {X : Type 0} (f : X → Bool) (xs : List X) → list_any f xs ≡ true → 1 ≤ how_many f xs
any_count f [] e = cc
any_count f (x ∷ xs) e = counted_one (f x) (list_any f xs) (how_many f xs) e (any_count f xs)

one_counted : (b r : Bool) (n : ℕ) → 1 ≤ cond b 1 0 + n → (1 ≤ n → r ≡ true) → (b || r) ≡ true
one_counted true r n h k = refl
one_counted false r n h k = k (omega arith)

pub count_any : {X : Type 0} (f : X → Bool) (xs : List X) → 1 ≤ how_many f xs → list_any f xs ≡ true
count_any f [] h = absurd (omega arith)
count_any f (x ∷ xs) h = one_counted (f x) (list_any f xs) (how_many f xs) h (count_any f xs)

-- an element that passes the test, with all that it shows of the list
abbrev Found : {X : Type 0} → (X → Bool) → List X → Type 0
Found {X} f xs = (x : X) × (f x ≡ true) × ((g : X → Bool) → g x ≡ true → list_any g xs ≡ true)

found_later : {X : Type 0} (f : X → Bool) (x : X) (xs : List X) → Found f xs → Found f (x ∷ xs)
found_later f x xs r = (r.0, r.1, λ g k. ap (λ b. g x || b) (r.2 g k) ∙ or-true (g x))

found_by : {X : Type 0} (f : X → Bool) (x : X) (xs : List X) (b : Bool) → f x ≡ b → (b || list_any f xs) ≡ true
    → (list_any f xs ≡ true → Found f xs) → Found f (x ∷ xs)
found_by f x xs true t e k = (x, t, λ g h. ap (λ b. b || list_any g xs) h)
found_by f x xs false t e k = found_later f x xs (k e)

pub found : {X : Type 0} (f : X → Bool) (xs : List X) → list_any f xs ≡ true → (x : X) × (f x ≡ true)
    × ((g : X → Bool) → g x ≡ true → list_any g xs ≡ true)
found f [] e = cc
found f (x ∷ xs) e = found_by f x xs (f x) refl e (found f xs)

else_kept : {A : Type 0} (x y z : Option A) (v : A) → or_else x y ≡ Some v → (y ≡ Some v → z ≡ Some v) → or_else x z ≡ Some v
else_kept None y z v e k = k e
else_kept (Some u) y z v e k = e

-- what the first act says stays
pub first_kept : {A : Type 0} (f : Act → Option A) (xs ys : List Act) (v : A) → first_some f xs ≡ Some v → first_some f (xs ++ ys) ≡ Some v
first_kept f [] ys v e = cc
first_kept f (x ∷ xs) ys v e = else_kept (f x) (first_some f xs) (first_some f (xs ++ ys)) v e (first_kept f xs ys v)

else_none : {A : Type 0} (x y z u : Option A) → or_else x y ≡ None → (y ≡ None → z ≡ u) → or_else x z ≡ u
else_none None y z u e k = k e
else_none (Some v) y z u e k = cc

else_nothing : {A : Type 0} (x : Option A) → or_else x None ≡ x
else_nothing None = refl
else_nothing (Some v) = refl

pub first_last : {A : Type 0} (f : Act → Option A) (xs : List Act) (x : Act) → first_some f xs ≡ None → first_some f (xs ++ x ∷ []) ≡ f x
first_last f [] x e = else_nothing (f x)
first_last f (y ∷ ys) x e = else_none (f y) (first_some f ys) (first_some f (ys ++ x ∷ [])) (f x) e (first_last f ys x)

first_by : {A : Type 0} (f : Act → Option A) (x : Act) (xs : List Act) (v : A) (o : Option A) → f x ≡ o
    → or_else o (first_some f xs) ≡ Some v
    → (first_some f xs ≡ Some v → (y : Act) × (f y ≡ Some v) × ((g : Act → Bool) → g y ≡ true → list_any g xs ≡ true)) → (y : Act)
    × (f y ≡ Some v) × ((g : Act → Bool) → g y ≡ true → (g x || list_any g xs) ≡ true)
first_by f x xs v None t e k = let r = k e in (r.0, r.1, λ g h. ap (λ b. g x || b) (r.2 g h) ∙ or-true (g x))
first_by f x xs v (Some u) t e k = (x, t ∙ e, λ g h. ap (λ b. b || list_any g xs) h)

-- the act that says it first, with all that it shows of the acts
pub first_found : {A : Type 0} (f : Act → Option A) (xs : List Act) (v : A) → first_some f xs ≡ Some v → (x : Act) × (f x ≡ Some v)
    × ((g : Act → Bool) → g x ≡ true → list_any g xs ≡ true)
first_found f [] v e = cc
first_found f (x ∷ xs) v e = first_by f x xs v (f x) refl e (first_found f xs v)

there_by : {A : Type 0} (f : Act → Option A) (g : Act → Bool) → ((x : Act) → g x ≡ true → (v : A) × (f x ≡ Some v))
    → (x : Act) (xs : List Act) (o : Option A) → f x ≡ o → (g x || list_any g xs) ≡ true
    → (list_any g xs ≡ true → (v : A) × (first_some f xs ≡ Some v)) → (v : A) × (or_else o (first_some f xs) ≡ Some v)
there_by f g k x xs (Some u) t e h = (u, refl)
there_by {A} f g k x xs None t e h = by_test (g x) refl e
  where
    by_test : (b : Bool) → g x ≡ b → (b || list_any g xs) ≡ true → (v : A) × (first_some f xs ≡ Some v)
    by_test true m e = let r = k x m in let n = r.1 in cc
    by_test false m e = h e

-- where an act passes that says something, something is said
pub first_there : {A : Type 0} (f : Act → Option A) (g : Act → Bool) → ((x : Act) → g x ≡ true → (v : A) × (f x ≡ Some v)) → (xs : List Act)
    → list_any g xs ≡ true → (v : A) × (first_some f xs ≡ Some v)
first_there f g k [] e = cc
first_there f g k (x ∷ xs) e = there_by f g k x xs (f x) refl e (first_there f g k xs)

-- nothing passes that is not counted
pub none_count : {X : Type 0} (f : X → Bool) (xs : List X) → list_any f xs ≡ false → how_many f xs ≡ 0
none_count f xs e = ⊎_elim (λ lt. let k = count_any f xs lt in cc) (λ z. omega arith) (cases_lt 0 (how_many f xs))
