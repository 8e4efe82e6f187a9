-- The bit of a tag in a set.
use Rattle.std.specs.Prelude.{◌≡◌, ℕ, ◌*◌, ◌%◌, ◌^◌, ◌<◌}
use Rattle.std.proofs.Common.{ap, ◌∙◌, arith}
use Rattle.std.proofs.Math.Nat.{mod-eq_of_lt}
use Rattle.std.proofs.Math.Pow.{pow-lt}

pub one_bit : (t : ℕ) → t < 64 → 1 * 2 ^ t % 2 ^ 64 ≡ 2 ^ t
one_bit t lt = let h : 2 ^ t < 2 ^ 64 = pow-lt lt in ap (λ z. z % 2 ^ 64) (one_times (2 ^ t)) ∙ mod-eq_of_lt h
  where
    one_times : (m : ℕ) → 1 * m ≡ m
    one_times m = omega arith
