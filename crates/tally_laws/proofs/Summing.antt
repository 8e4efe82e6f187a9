-- Sums over callers, of which one made an act, and over the items of a list.
use Rattle.std.specs.Prelude.{◌≡◌, ◌≢◌, ℕ, zero, suc, ◌+◌, ◌<◌, ◌≤◌, ◌==◌, cond, List, [], ◌∷◌, length, refl, if◌then◌else◌, slice_index_or}
use Rattle.std.proofs.Common.{sym, ap, ◌∙◌, arith}
use Rattle.std.proofs.lemmas.Bool.{ne_eqb}
use Rattle.channel_model.proofs.Placed.{same_number}
use Rattle.tally_laws.specs.Sums.{sum_below}
use Rattle.tally_laws.proofs.Summed.{sum_at}

pub one_maker : (b : ℕ) (n who : ℕ) → who < n → sum_below (λ k. cond (who == k) b 0) n ≡ b
one_maker b n who l =
    sum_at (λ k. cond (who == k) b 0) n who l (λ i m a. ap (λ t. cond t b 0) (ne_eqb who i (λ e. a (sym e))))
    ∙ ap (λ t. cond t b 0) (same_number who)

-- ---- lists, item by item

pub sum_first : (f : ℕ → ℕ) (n : ℕ) → sum_below f (suc n) ≡ f 0 + sum_below (λ k. f (suc k)) n
sum_first f zero = refl
sum_first f (suc n) = let k = sum_first f n in omega arith

-- a sum over the items of a list
abbrev pub sum_over : {X : Type 0} → (X → ℕ) → List X → ℕ
sum_over f [] = 0
sum_over f (x ∷ xs) = f x + sum_over f xs

pub by_items : {X : Type 0} (f : X → ℕ) (d : X) (xs : List X) → sum_below (λ k. f (slice_index_or xs k d)) (length xs) ≡ sum_over f xs
by_items f d [] = refl
by_items f d (x ∷ xs) = let k = sum_first (λ k. f (slice_index_or (x ∷ xs) k d)) (length xs) in let m = by_items f d xs in omega arith

-- the item past the end of a list
pub item_past : {X : Type 0} (d : X) (xs : List X) (k : ℕ) → length xs ≤ k → slice_index_or xs k d ≡ d
item_past d [] k h = refl
item_past d (x ∷ xs) zero h = absurd (omega arith)
item_past d (x ∷ xs) (suc k) h = item_past d xs k (omega arith)
