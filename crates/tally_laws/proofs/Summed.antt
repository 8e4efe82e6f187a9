-- Sums over numbers below a bound, and over the places of channels.
use Rattle.std.specs.Prelude.{◌≡◌, ◌≢◌, ℕ, zero, suc, ◌+◌, ◌<◌, refl}
use Rattle.std.proofs.Common.{ap, ◌∙◌, arith, ⊎_elim}
use Rattle.std.proofs.lemmas.Bool.{cases_lt}
use Rattle.tally_laws.specs.Sums.{sum_below, sum_places}

pub sum_add : (f g : ℕ → ℕ) (n : ℕ) → sum_below (λ i. f i + g i) n ≡ sum_below f n + sum_below g n
sum_add f g zero = refl
sum_add f g (suc n) = let k = sum_add f g n in omega arith

pub sum_same : (f g : ℕ → ℕ) (n : ℕ) → ((i : ℕ) → i < n → f i ≡ g i) → sum_below f n ≡ sum_below g n
sum_same f g zero h = refl
sum_same f g (suc n) h = let a = h n (omega arith) in let k = sum_same f g n (λ i l. h i (omega arith)) in omega arith

pub sum_none : (f : ℕ → ℕ) (n : ℕ) → ((i : ℕ) → i < n → f i ≡ 0) → sum_below f n ≡ 0
sum_none f zero h = refl
sum_none f (suc n) h = let a = h n (omega arith) in let k = sum_none f n (λ i l. h i (omega arith)) in omega arith

-- all but one of them are 0
pub sum_at : (f : ℕ → ℕ) (n k : ℕ) → k < n → ((i : ℕ) → i < n → i ≢ k → f i ≡ 0) → sum_below f n ≡ f k
sum_at f zero k l h = absurd (omega arith)
sum_at f (suc n) k l h =
    ⊎_elim
    (λ m. let a : f n ≡ 0 = h n (omega arith) (λ e. absurd (omega arith)) in let r = sum_at f n k m (λ i j. h i (omega arith))
    in omega arith)
    (λ m. let e : n ≡ k = omega arith in let r = sum_none f n (λ i j. h i (omega arith) (λ x. absurd (omega arith)))
    in let q : f n ≡ f k = ap f e in omega arith)
    (cases_lt k n)

pub places_add : (n : ℕ) (m : ℕ → ℕ) (f g : ℕ → ℕ → ℕ) → sum_places n m (λ c p. f c p + g c p) ≡ sum_places n m f + sum_places n m g
places_add n m f g =
    sum_same (λ c. sum_below (λ p. f c p + g c p) (m c)) (λ c. sum_below (f c) (m c) + sum_below (g c) (m c)) n
    (λ c l. sum_add (f c) (g c) (m c))
    ∙ sum_add (λ c. sum_below (f c) (m c)) (λ c. sum_below (g c) (m c)) n

pub places_same : (n : ℕ) (m : ℕ → ℕ) (f g : ℕ → ℕ → ℕ) → ((c p : ℕ) → c < n → p < m c → f c p ≡ g c p)
    → sum_places n m f ≡ sum_places n m g
places_same n m f g h = sum_same (λ c. sum_below (f c) (m c)) (λ c. sum_below (g c) (m c)) n
    (λ c l. sum_same (f c) (g c) (m c) (λ p k. h c p l k))

pub places_none : (n : ℕ) (m : ℕ → ℕ) (f : ℕ → ℕ → ℕ) → ((c p : ℕ) → f c p ≡ 0) → sum_places n m f ≡ 0
places_none n m f h = sum_none (λ c. sum_below (f c) (m c)) n (λ c l. sum_none (f c) (m c) (λ p k. h c p))

-- all places but one have 0
pub places_at_one : (n : ℕ) (m : ℕ → ℕ) (f : ℕ → ℕ → ℕ) (c p : ℕ) → c < n → p < m c → ((d q : ℕ) → f d q ≢ 0 → (d ≡ c) × (q ≡ p))
    → sum_places n m f ≡ f c p
places_at_one n m f c p lc lp h =
    sum_at (λ d. sum_below (f d) (m d)) n c lc (λ d l a. sum_none (f d) (m d) (λ q k. zero_there d q (λ x. a (h d q x).0)))
    ∙ sum_at (f c) (m c) p lp (λ q l a. zero_there c q (λ x. a (h c q x).1))
  where
    zero_there : (d q : ℕ) → (f d q ≢ 0 → ⊥) → f d q ≡ 0
    zero_there d q x = ⊎_elim (λ l. absurd (x (λ e. absurd (omega arith)))) (λ l. omega arith) (cases_lt 0 (f d q))
