-- The call of the clause at a place, and the calls up to it.
use Rattle.std.specs.Prelude.{◌≡◌, ℕ, ◌+◌, ◌<◌, zero, suc, List, [], ◌∷◌, ◌++◌, length, map, take, drop, Some, slice_get, refl}
use Rattle.std.proofs.Common.{sym, ap, ◌∙◌, get_or, option_map, arith}
use Rattle.std.proofs.lemmas.Option.{slice_get-map, slice_get-get_or}
use Rattle.select_calls.specs.declared.clause.Clause.{Clause}
use Rattle.select_calls.specs.Clauses.{call_of, calls_of}

pub call_at : (clauses : List Clause) (i : ℕ) (d x : Clause) → i < length clauses → get_or clauses i d ≡ x
    → slice_get (calls_of clauses) i ≡ Some (call_of x)
call_at clauses i d x lt e = slice_get-map call_of clauses i ∙ ap (option_map call_of) (slice_get-get_or clauses i d lt ∙ ap Some e)

pub length_calls : (clauses : List Clause) → length (calls_of clauses) ≡ length clauses
length_calls [] = refl
length_calls (x ∷ xs) = ap suc (length_calls xs)

pub call_there : (clauses : List Clause) (i : ℕ) (d x : Clause) → i < length (calls_of clauses) → get_or clauses i d ≡ x
    → slice_get (calls_of clauses) i ≡ Some (call_of x)
call_there clauses i d x lt e = call_at clauses i d x (let same = length_calls clauses in omega (arith, lt, same)) e

one_more : (i : ℕ) → i + 1 ≡ suc i
one_more i = omega arith

take_suc : {A : Type 0} (xs : List A) (i : ℕ) (x : A) → slice_get xs i ≡ Some x → take (suc i) xs ≡ take i xs ++ x ∷ []
take_suc [] i x e = cc
take_suc (y ∷ xs) zero x e = let k : y ≡ x = cc in ap (λ z. z ∷ []) k
take_suc (y ∷ xs) (suc i) x e = ap (λ l. y ∷ l) (take_suc xs i x e)

split_suc : {A : Type 0} (xs : List A) (i : ℕ) (x : A) → slice_get xs i ≡ Some x → xs ≡ take i xs ++ x ∷ drop (suc i) xs
split_suc [] i x e = cc
split_suc (y ∷ xs) zero x e = let k : y ≡ x = cc in ap (λ z. z ∷ xs) k
split_suc (y ∷ xs) (suc i) x e = ap (λ l. y ∷ l) (split_suc xs i x e)

pub take_next : {A : Type 0} (xs : List A) (i : ℕ) (x : A) → slice_get xs i ≡ Some x → take (i + 1) xs ≡ take i xs ++ x ∷ []
take_next xs i x e = ap (λ n. take n xs) (one_more i) ∙ take_suc xs i x e

pub split_at : {A : Type 0} (xs : List A) (i : ℕ) (x : A) → slice_get xs i ≡ Some x → xs ≡ take i xs ++ x ∷ drop (i + 1) xs
split_at xs i x e = split_suc xs i x e ∙ ap (λ n. take i xs ++ x ∷ drop n xs) (sym (one_more i))

pub take_drop : {A : Type 0} (xs : List A) (i : ℕ) → xs ≡ take i xs ++ drop i xs
take_drop xs zero = refl
take_drop [] (suc i) = refl
take_drop (y ∷ xs) (suc i) = ap (λ l. y ∷ l) (take_drop xs i)

pub take_all : {A : Type 0} (xs : List A) → take (length xs) xs ≡ xs
take_all [] = refl
take_all (y ∷ xs) = ap (λ l. y ∷ l) (take_all xs)

pub length_take : {A : Type 0} (xs : List A) (i : ℕ) (x : A) → slice_get xs i ≡ Some x → length (take i xs) ≡ i
length_take [] i x e = cc
length_take (y ∷ xs) zero x e = refl
length_take (y ∷ xs) (suc i) x e = ap suc (length_take xs i x e)

pub map_next : {A B : Type 0} (f : A → B) (xs : List A) (x : A) → map f (xs ++ x ∷ []) ≡ map f xs ++ f x ∷ []
map_next f [] x = refl
map_next f (y ∷ xs) x = ap (λ l. f y ∷ l) (map_next f xs x)

-- those up to a place, and what is left of the first so many
pub take_before : {A : Type 0} (xs : List A) (count i : ℕ) (x : A) → i < count → slice_get xs i ≡ Some x → (later : List A)
    × (take count xs ≡ take i xs ++ x ∷ later)
take_before [] count i x lt e = cc
take_before (y ∷ xs) zero i x lt e = absurd (omega (arith, lt))
take_before (y ∷ xs) (suc count) zero x lt e = (take count xs, let k : y ≡ x = cc in ap (λ z. z ∷ take count xs) k)
take_before (y ∷ xs) (suc count) (suc i) x lt e = let t = take_before xs count i x (omega (arith, lt)) e in (t.0, ap (λ l. y ∷ l) t.1)
