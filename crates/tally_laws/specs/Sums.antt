-- Sums over numbers below a bound, and over places.
use Rattle.std.specs.Prelude.{ℕ, zero, suc, ◌+◌}

-- the sum of f over the numbers below n
abbrev pub sum_below : (ℕ → ℕ) → ℕ → ℕ
sum_below f zero = 0
sum_below f (suc n) = f n + sum_below f n

-- the sum of f over the places of the first n channels, of which each has so many
abbrev pub sum_places : ℕ → (ℕ → ℕ) → (ℕ → ℕ → ℕ) → ℕ
sum_places n places f = sum_below (λ c. sum_below (f c) (places c)) n
