-- A list that is copied element by element.
use Rattle.std.proofs.Common.{◌≡◌, ℕ, zero, suc, ◌+◌, ◌<◌, List, [], ◌∷◌, ◌++◌, length, sym, refl, ap, ◌∙◌, arith, length-append}
use mathlib.Core.Logic.{dite}
use mathlib.Core.Option.{some}
use native.Mathlib.Decide.{ℕ_discrete}
use lib.ListN.{get_elem?}
use Rattle.atomic_table.proofs.Lists.{at_last}
use Rattle.parcel_channel.specs.Hubs.{IsCopied}

get_before : {A : Type 0} (xs ys : List A) (k : ℕ) → k < length xs → get_elem? (xs ++ ys) k ≡ get_elem? xs k
get_before [] ys k lt = absurd (omega (arith, lt))
get_before (x ∷ xs) ys zero lt = refl
get_before (x ∷ xs) ys (suc k) lt = get_before xs ys k (omega (arith, lt))

before_last : (n k m : ℕ) → k < m → m ≡ n + 1 → (k ≡ n → ⊥) → k < n
before_last n k m lt is ne = omega (arith, lt, is, ne)

pub copied_more : {A : Type 0} (from to : List A) (x : A) (n : ℕ) → n ≡ length to → get_elem? from n ≡ some x → IsCopied from to
    → IsCopied from (to ++ x ∷ [])
copied_more from to x n is at h = λ k lt. dite (ℕ_discrete k (length to))
    (λ e. at_last to x k (sym e) ∙ sym (ap (get_elem? from) (e ∙ sym is) ∙ at))
    (λ ne. let l = before_last (length to) k (length (to ++ x ∷ [])) lt (length-append to (x ∷ [])) ne in get_before to (x ∷ []) k l
    ∙ h k l)
