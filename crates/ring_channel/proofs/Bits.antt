-- The bits of a word of who waits.
use Rattle.std.specs.Prelude.{◌≡◌, ℕ, ◌-◌, ◌*◌, ◌%◌, ◌^◌, ◌<◌}
use Rattle.std.proofs.Common.{sym, ap, ◌∙◌, subst, arith}
use Rattle.std.proofs.Math.Nat.{mod-eq_of_lt}
use Rattle.std.proofs.Math.Pow.{pow-lt}
use Rattle.std.proofs.Common.{w64}
use Rattle.std.specs.Int.{bit_at, bit_not}
use Rattle.std.specs.Int.Bits.{bit_and}
use Rattle.std.proofs.lemmas.Nat.Bits.{bit_at_clear_same, bit_at_clear_other}
use mathlib.Core.Logic.{dite}
use native.Mathlib.Decide.{ℕ_discrete}
use Rattle.ring_channel.specs.Rings.{cleared}

pub one_bit : (t : ℕ) → t < 64 → 1 * 2 ^ t % 2 ^ 64 ≡ 2 ^ t
one_bit t lt = let h : 2 ^ t < 2 ^ 64 = pow-lt lt in ap (λ z. z % 2 ^ 64) (one_times (2 ^ t)) ∙ mod-eq_of_lt h
  where
    one_times : (m : ℕ) → 1 * m ≡ m
    one_times m = omega arith

as_cleared : (mask t : ℕ) → t < 64 → bit_and mask (bit_not w64 (1 * 2 ^ t % 2 ^ 64)) ≡ cleared t mask
as_cleared mask t lt = ap (λ z. bit_and mask (2 ^ 64 - 1 - z)) (one_bit t lt)

pub cleared_here : (mask t : ℕ) → t < 64 → bit_at (cleared t mask) t ≡ 0
cleared_here mask t lt = subst (λ z. bit_at z t ≡ 0) (as_cleared mask t lt) (bit_at_clear_same w64 mask t lt)

pub cleared_else : (mask t u : ℕ) → t < 64 → u < 64 → (u ≡ t → ⊥) → bit_at (cleared t mask) u ≡ bit_at mask u
cleared_else mask t u lt lu ne = subst (λ z. bit_at z u ≡ bit_at mask u) (as_cleared mask t lt) (bit_at_clear_other w64 mask t lt u lu ne)

-- a word without one of its bits tells which
pub same_cleared : (mask t u : ℕ) → t < 64 → u < 64 → bit_at mask u ≡ 1 → cleared t mask ≡ cleared u mask → t ≡ u
same_cleared mask t u lt lu set is = dite (ℕ_discrete u t)
    (λ e. sym e)
    (λ ne. let z : ◌≡◌ {A = ℕ} 1 0 = sym set ∙ sym (cleared_else mask t u lt lu ne) ∙ ap (λ k. bit_at k u) is ∙ cleared_here mask u lu in
    absurd (omega (arith, z)))
