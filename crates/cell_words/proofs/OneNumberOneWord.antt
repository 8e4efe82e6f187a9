-- The numbers of words are apart.
use Rattle.std.proofs.Common.{◌≡◌, ℕ, zero, suc, ◌+◌, ◌*◌, ◌<◌, ◌≤◌, [], ◌∷◌, length, refl, ap, arith}
use Rattle.channel_model.specs.Channels.{Shape, places_at}
use Rattle.word_rules.specs.Words.{cells_in, number, cell_number, wait_number, send_number, receive_number, run_number, decided_number, mark_number, word_count}

pub number_apart : (shape : Shape) (c d p q : ℕ) → c < length shape → d < length shape → p ≤ places_at shape c → q ≤ places_at shape d
    → number shape c p ≡ number shape d q → (c ≡ d) × (p ≡ q)
number_apart [] c d p q lc ld lp lq e = absurd (omega arith)
number_apart (x ∷ xs) zero zero p q lc ld lp lq e = (refl, omega arith)
number_apart (x ∷ xs) zero (suc d) p q lc ld lp lq e = absurd (omega arith)
number_apart (x ∷ xs) (suc c) zero p q lc ld lp lq e = absurd (omega arith)
number_apart (x ∷ xs) (suc c) (suc d) p q lc ld lp lq e = let h = number_apart xs c d p q (omega arith) (omega arith) lp lq (omega arith)
    in (ap suc h.0, h.1)

pub number_within : (shape : Shape) (c p : ℕ) → c < length shape → p ≤ places_at shape c → number shape c p < cells_in shape
number_within [] c p lc lp = absurd (omega arith)
number_within (x ∷ xs) zero p lc lp = omega arith
number_within (x ∷ xs) (suc c) p lc lp = let h = number_within xs c p (omega arith) lp in omega arith

pub cell_not_wait : (shape : Shape) (c d p q : ℕ) → cell_number shape c p ≡ wait_number shape d q → ⊥
cell_not_wait shape c d p q e = omega arith

pub wait_not_send : (shape : Shape) (c d p : ℕ) → wait_number shape c p ≡ send_number shape d → ⊥
wait_not_send shape c d p e = omega arith

pub cell_not_receive : (shape : Shape) (c d p : ℕ) → c < length shape → p ≤ places_at shape c
    → cell_number shape c p ≡ receive_number shape d → ⊥
cell_not_receive shape c d p lc lp e = let h = number_within shape c p lc lp in omega arith

pub cell_not_send : (shape : Shape) (c d p : ℕ) → c < length shape → p ≤ places_at shape c → cell_number shape c p ≡ send_number shape d → ⊥
cell_not_send shape c d p lc lp e = let h = number_within shape c p lc lp in omega arith

pub wait_not_receive : (shape : Shape) (c d p : ℕ) → wait_number shape c p ≡ receive_number shape d → ⊥
wait_not_receive shape c d p e = omega arith

pub same_number : (n m : ℕ) → 2 * n ≡ 2 * m → n ≡ m
same_number n m e = omega arith

pub same_number_odd : (n m : ℕ) → 2 * n + 1 ≡ 2 * m + 1 → n ≡ m
same_number_odd n m e = omega arith

pub cell_within : (shape : Shape) (c p : ℕ) → c < length shape → p ≤ places_at shape c → cell_number shape c p < word_count shape
cell_within shape c p lc lp = let h = number_within shape c p lc lp in omega arith

pub cell_not_run : (shape : Shape) (c d p : ℕ) → c < length shape → p ≤ places_at shape c → cell_number shape c p ≡ run_number shape d → ⊥
cell_not_run shape c d p lc lp e = let h = number_within shape c p lc lp in omega arith

pub wait_not_run : (shape : Shape) (c d p : ℕ) → c < length shape → p ≤ places_at shape c → wait_number shape c p ≡ run_number shape d → ⊥
wait_not_run shape c d p lc lp e = let h = number_within shape c p lc lp in omega arith

pub cell_not_decided : (shape : Shape) (c d p : ℕ) → c < length shape → p ≤ places_at shape c
    → cell_number shape c p ≡ decided_number shape d
    → ⊥
cell_not_decided shape c d p lc lp e = let h = number_within shape c p lc lp in omega arith

pub wait_not_decided : (shape : Shape) (c d p : ℕ) → c < length shape → p ≤ places_at shape c
    → wait_number shape c p ≡ decided_number shape d
    → ⊥
wait_not_decided shape c d p lc lp e = let h = number_within shape c p lc lp in omega arith

pub cell_not_mark : (shape : Shape) (c d p q : ℕ) → c < length shape → p ≤ places_at shape c → cell_number shape c p ≡ mark_number shape d q
    → ⊥
cell_not_mark shape c d p q lc lp e = let h = number_within shape c p lc lp in omega arith

pub wait_not_mark : (shape : Shape) (c d p q : ℕ) → c < length shape → p ≤ places_at shape c → wait_number shape c p ≡ mark_number shape d q
    → ⊥
wait_not_mark shape c d p q lc lp e = let h = number_within shape c p lc lp in omega arith

pub mark_within : (shape : Shape) (c p : ℕ) → c < length shape → p ≤ places_at shape c → mark_number shape c p < word_count shape
mark_within shape c p lc lp = let h = number_within shape c p lc lp in omega arith

pub same_mark : (shape : Shape) (c d p q : ℕ) → c < length shape → d < length shape → p ≤ places_at shape c → q ≤ places_at shape d
    → mark_number shape c p ≡ mark_number shape d q → (c ≡ d) × (p ≡ q)
same_mark shape c d p q lc ld lp lq e = number_apart shape c d p q lc ld lp lq (omega arith)
