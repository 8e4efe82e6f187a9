-- Sums over the first numbers.
use Rattle.std.specs.Prelude.{ℕ, zero, suc, ◌+◌, Bool, cond}

-- f 0 + .. + f (m - 1)
unfoldable pub sum_of : ℕ → (ℕ → ℕ) → ℕ
sum_of zero f = 0
sum_of (suc m) f = sum_of m f + f m

-- how many numbers below m pass the test
abbrev pub count_of : ℕ → (ℕ → Bool) → ℕ
count_of m test = sum_of m (λ p. cond (test p) 1 0)
