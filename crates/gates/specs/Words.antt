-- The word of a gate.
use Rattle.std.specs.Prelude.{◌≡◌, ℕ, zero, suc, ◌+◌, ◌*◌, ◌%◌, ◌==◌, Bool, List, nat_lt, ◌&&◌}
use Rattle.std.specs.Int.{bit_at}
use Rattle.gates.specs.declared.act.GateEntry.{GateEntry}
use Rattle.gates.specs.Gates.{State, one_if, state_of}

-- the bits of a test of the numbers below k
unfoldable pub mask_of : (ℕ → Bool) → ℕ → ℕ
mask_of f zero = 0
mask_of f (suc k) = one_if (f 0) + 2 * mask_of (λ t. f (suc t)) k

-- the free permits in the lowest 16 bits, and who waits in the 48 others
abbrev pub word_of : State → ℕ
word_of s = s.free + 65536 * mask_of s.waits 48

-- what a word says of the free permits
abbrev pub free_in : ℕ → ℕ
free_in w = w % 65536

-- what a word says of who waits
abbrev pub waits_in : ℕ → ℕ → Bool
waits_in w t = nat_lt t 48 && (bit_at w (16 + t) == 1)

-- the word i of a gate of n permits may be w after this history
pub record Fits (n : ℕ) (log : List GateEntry) (i w : ℕ) : Type 0 where
  pub word : i ≡ 0 → w ≡ word_of (state_of n log)
