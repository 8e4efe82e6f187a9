-- Places in lists, and lists of which one element is changed.
use Rattle.std.proofs.Common.{Option, None, ◌≡◌, ◌≢◌, ℕ, ◌+◌, ◌<◌, ◌≤◌, List, [], ◌∷◌, ◌++◌, length, get_or, set, zero, suc, Some, refl, ap, sym, subst, arith, slice_get}
use Rattle.std.specs.List.{All, sum_by}
use Rattle.std.proofs.lemmas.List.Elements.{All-head, All-tail}
use Rattle.std.proofs.lemmas.List.Sums.{sum_by-set}
use Rattle.std.proofs.lemmas.Option.{get_or_from_slice_get}

pub slice_get-set_same : {A : Type 0} (xs : List A) (k : ℕ) (y : A) → k < length xs → slice_get (set xs k y) k ≡ Some y
slice_get-set_same [] k y lt = absurd (omega (arith, lt))
slice_get-set_same (x ∷ xs) zero y lt = refl
slice_get-set_same (x ∷ xs) (suc k) y lt = slice_get-set_same xs k y (omega (arith, lt))

pub slice_get-set_other : {A : Type 0} (xs : List A) (k j : ℕ) (y : A) → k ≢ j → slice_get (set xs k y) j ≡ slice_get xs j
slice_get-set_other [] k j y n = refl
slice_get-set_other (x ∷ xs) zero zero y n = absurd (n refl)
slice_get-set_other (x ∷ xs) zero (suc j) y n = refl
slice_get-set_other (x ∷ xs) (suc k) zero y n = refl
slice_get-set_other (x ∷ xs) (suc k) (suc j) y n = slice_get-set_other xs k j y (λ e. n (ap (λ i. suc i) e))

pub slice_get-Some : {A : Type 0} (xs : List A) (k : ℕ) (x : A) → k < length xs → x ≡ get_or xs k x → slice_get xs k ≡ Some x
slice_get-Some [] k x lt e = absurd (omega (arith, lt))
slice_get-Some (y ∷ xs) zero x lt e = ap (λ z. Some z) (sym e)
slice_get-Some (y ∷ xs) (suc k) x lt e = slice_get-Some xs k x (omega (arith, lt)) e

-- the sum rises by less than this where one element does
pub sum_by-set_by : {A : Type 0} (f : A → ℕ) (xs : List A) (k : ℕ) (x y : A) (m : ℕ) → k < length xs → slice_get xs k ≡ Some x
    → f y < f x + m → sum_by f (set xs k y) < sum_by f xs + m
sum_by-set_by f xs k x y m lt at less =
    let sums = sum_by-set f xs k y x lt in
    let here : f (get_or xs k x) ≡ f x = ap f (get_or_from_slice_get xs k x x at) in
    omega (arith, sums, here, less)

pub sum_by-set_same : {A : Type 0} (f : A → ℕ) (xs : List A) (k : ℕ) (x y : A) → k < length xs → slice_get xs k ≡ Some x → f y ≡ f x
    → sum_by f (set xs k y) ≡ sum_by f xs
sum_by-set_same f xs k x y lt at same =
    let sums = sum_by-set f xs k y x lt in
    let here : f (get_or xs k x) ≡ f x = ap f (get_or_from_slice_get xs k x x at) in
    omega (arith, sums, here, same)

pub within : {A : Type 0} (xs : List A) (k : ℕ) (x : A) → slice_get xs k ≡ Some x → k < length xs
within [] k x e = cc
within (y ∷ xs) zero x e = omega arith
within (y ∷ xs) (suc k) x e = let h = within xs k x e in omega (arith, h)

-- what holds of every place holds of every place of a list that has one element more
pub pushed_at : {A : Type 0} (P : ℕ → Option A → Type 0) (xs : List A) (y : A) → ((k : ℕ) → P k None) → ((k : ℕ) → P k (slice_get xs k))
    → P (length xs) (Some y) → (k : ℕ) → P k (slice_get (xs ++ y ∷ []) k)
pushed_at P [] y none all here zero = here
pushed_at P [] y none all here (suc k) = none (suc k)
pushed_at P (x ∷ xs) y none all here zero = all zero
pushed_at P (x ∷ xs) y none all here (suc k) = pushed_at (λ n. P (suc n)) xs y (λ n. none (suc n)) (λ n. all (suc n)) here k

pub some_at : {A : Type 0} (xs : List A) (k : ℕ) → k < length xs → (x : A) × (slice_get xs k ≡ Some x)
some_at [] k lt = absurd (omega (arith, lt))
some_at (x ∷ xs) zero lt = (x, refl)
some_at (x ∷ xs) (suc k) lt = some_at xs k (omega (arith, lt))

pub none_past : {A : Type 0} (xs : List A) (k : ℕ) → slice_get xs k ≡ None → length xs ≤ k
none_past [] k e = omega arith
none_past (x ∷ xs) zero e = cc
none_past (x ∷ xs) (suc k) e = let h = none_past xs k e in omega (arith, h)

-- what holds of each element holds of the one at a place
pub all_at : {A : Type 0} (P : A → Type 0) (xs : List A) (k : ℕ) (x : A) → All P xs → slice_get xs k ≡ Some x → P x
all_at P [] k x h e = cc
all_at P (y ∷ ys) zero x h e = let same : y ≡ x = cc in subst P same (All-head P y ys h)
all_at P (y ∷ ys) (suc k) x h e = all_at P ys k x (All-tail P y ys h) e
