-- A counter that is raised says the truth, whatever others do.
use Rattle.std.proofs.Common.{◌≡◌, ℕ, ◌+◌, ◌*◌, ◌/◌, ◌%◌, ◌<◌, ◌≤◌, max, Bool, List, Some, ◌++◌, length, sym, ◌∙◌, subst, arith}
use Rattle.std.proofs.lemmas.Bool.Decides.{nat_tests}
use mathlib.Core.Logic.{dite}
use native.Mathlib.Decide.{dec_le}
use Rattle.worded.specs.Exchanges.{MayLift}
use Rattle.joined_words.specs.Seen.{view_of}
use Rattle.channel_model.specs.Laws.{NoneBelow}
use Rattle.channel_model.specs.declared.acts.Entry.{Entry}
use Rattle.channel_model.specs.Channels.{Shape, places_at}
use Rattle.channel_model.specs.Histories.{replay, Legal}
use Rattle.word_rules.specs.Words.{send_number, receive_number, run_number, decided_number, mark_number, WereKept, IsKeptRun, fate, WereDecided, AreDecided, mark_told, IsMark, Fits, maker}
use Rattle.cell_words.specs.Seen.{Seen, at_channel}
use Rattle.cell_words.proofs.OneNumberOneWord.{cell_not_send, cell_not_receive, cell_not_run, wait_not_send, wait_not_receive, wait_not_run, cell_not_decided, wait_not_decided, cell_not_mark, wait_not_mark, same_mark}
use Rattle.channel_model.proofs.GoneForGood.{below_lasts}
use Rattle.channel_model.proofs.Sound.{sound}
use Rattle.cell_words.proofs.PlacesWereKept.{were_kept_more}
use Rattle.cell_words.proofs.PlacesDecided.{were_decided_more, mark_more}

max_most : (n k : ℕ) (P : ℕ → Type 0) → P n → P k → P (max n k)
max_most n k P a b = dite (dec_le n k) (λ le. let e : k ≡ max n k = omega arith in subst P e b) (λ gt. let e : n ≡ max n k = omega arith
    in subst P e a)

same_channel : (shape : Shape) (c d : ℕ) → send_number shape c ≡ send_number shape d → c ≡ d
same_channel shape c d e = omega arith

same_channel_received : (shape : Shape) (c d : ℕ) → receive_number shape c ≡ receive_number shape d → c ≡ d
same_channel_received shape c d e = omega arith

send_not_receive : (shape : Shape) (c d : ℕ) → send_number shape c ≡ receive_number shape d → ⊥
send_not_receive shape c d e = omega arith

same_channel_run : (shape : Shape) (c d : ℕ) → run_number shape c ≡ run_number shape d → c ≡ d
same_channel_run shape c d e = omega arith

send_not_run : (shape : Shape) (c d : ℕ) → send_number shape c ≡ run_number shape d → ⊥
send_not_run shape c d e = omega arith

receive_not_run : (shape : Shape) (c d : ℕ) → receive_number shape c ≡ run_number shape d → ⊥
receive_not_run shape c d e = omega arith

same_channel_decided : (shape : Shape) (c d : ℕ) → decided_number shape c ≡ decided_number shape d → c ≡ d
same_channel_decided shape c d e = omega arith

send_not_decided : (shape : Shape) (c d : ℕ) → send_number shape c ≡ decided_number shape d → ⊥
send_not_decided shape c d e = omega arith

receive_not_decided : (shape : Shape) (c d : ℕ) → receive_number shape c ≡ decided_number shape d → ⊥
receive_not_decided shape c d e = omega arith

run_not_decided : (shape : Shape) (c d : ℕ) → run_number shape c ≡ decided_number shape d → ⊥
run_not_decided shape c d e = omega arith

send_not_mark : (shape : Shape) (c d q : ℕ) → c < length shape → send_number shape c ≡ mark_number shape d q → ⊥
send_not_mark shape c d q lc e = omega arith

receive_not_mark : (shape : Shape) (c d q : ℕ) → c < length shape → receive_number shape c ≡ mark_number shape d q → ⊥
receive_not_mark shape c d q lc e = omega arith

run_not_mark : (shape : Shape) (c d q : ℕ) → c < length shape → run_number shape c ≡ mark_number shape d q → ⊥
run_not_mark shape c d q lc e = omega arith

decided_not_mark : (shape : Shape) (c d q : ℕ) → c < length shape → decided_number shape c ≡ mark_number shape d q → ⊥
decided_not_mark shape c d q lc e = omega arith

pub raises_sends : (shape : Shape) (c k : ℕ) (v : Seen) → c < length shape → NoneBelow k 0 (at_channel v.seen c)
    → MayLift (Legal shape) (Fits shape) maker (view_of v) (send_number shape c) k
raises_sends shape c k v lc low others n added f = record {
  cell = λ d q ld lq e. absurd (cell_not_send shape d c q ld lq (sym e));
  wait = λ d q ld lq e. absurd (wait_not_send shape d c q (sym e));
  sends = λ d ld e. max_most n k (λ z. NoneBelow z 0 ((replay (v.seen ++ others)).channels d)) (f.sends d ld e)
      (subst (λ z. NoneBelow k 0 ((replay (v.seen ++ others)).channels z)) (same_channel shape c d e)
      (below_lasts shape v.seen others c k 0 added.is_legal low));
  receives = λ d ld e. absurd (send_not_receive shape c d e);
  run = λ d ld e. absurd (send_not_run shape c d e);
  decided = λ d ld e. absurd (send_not_decided shape c d e);
  mark = λ d q ld lq e. absurd (send_not_mark shape c d q lc e);
}

pub raises_receives : (shape : Shape) (c k : ℕ) (v : Seen) → c < length shape → NoneBelow 0 k (at_channel v.seen c)
    → MayLift (Legal shape) (Fits shape) maker (view_of v) (receive_number shape c) k
raises_receives shape c k v lc low others n added f = record {
  cell = λ d q ld lq e. absurd (cell_not_receive shape d c q ld lq (sym e));
  wait = λ d q ld lq e. absurd (wait_not_receive shape d c q (sym e));
  sends = λ d ld e. absurd (send_not_receive shape d c (sym e));
  receives = λ d ld e. max_most n k (λ z. NoneBelow 0 z ((replay (v.seen ++ others)).channels d)) (f.receives d ld e)
      (subst (λ z. NoneBelow 0 k ((replay (v.seen ++ others)).channels z)) (same_channel_received shape c d e)
      (below_lasts shape v.seen others c 0 k added.is_legal low));
  run = λ d ld e. absurd (receive_not_run shape c d e);
  decided = λ d ld e. absurd (receive_not_decided shape c d e);
  mark = λ d q ld lq e. absurd (receive_not_mark shape c d q lc e);
}

pub raises_run : (shape : Shape) (c k : ℕ) (v : Seen) → c < length shape → IsKeptRun v.seen c k
    → MayLift (Legal shape) (Fits shape) maker (view_of v) (run_number shape c) k
raises_run shape c k v lc kept others n added f = record {
  cell = λ d q ld lq e. absurd (cell_not_run shape d c q ld lq (sym e));
  wait = λ d q ld lq e. absurd (wait_not_run shape d c q ld lq (sym e));
  sends = λ d ld e. absurd (send_not_run shape d c (sym e));
  receives = λ d ld e. absurd (receive_not_run shape d c (sym e));
  run = λ d ld e. max_most n k (IsKeptRun (v.seen ++ others) d) (f.run d ld e)
      (subst (λ z. IsKeptRun (v.seen ++ others) z k) (same_channel_run shape c d e)
      (were_kept_more shape c (k % 4294967296) (k / 4294967296) v.seen others added.is_legal kept));
  decided = λ d ld e. absurd (run_not_decided shape c d e);
  mark = λ d q ld lq e. absurd (run_not_mark shape c d q lc e);
}

pub raises_decided : (shape : Shape) (c k : ℕ) (v : Seen) → c < length shape → AreDecided shape v.seen c k
    → MayLift (Legal shape) (Fits shape) maker (view_of v) (decided_number shape c) k
raises_decided shape c k v lc is others n added f = record {
  cell = λ d q ld lq e. absurd (cell_not_decided shape d c q ld lq (sym e));
  wait = λ d q ld lq e. absurd (wait_not_decided shape d c q ld lq (sym e));
  sends = λ d ld e. absurd (send_not_decided shape d c (sym e));
  receives = λ d ld e. absurd (receive_not_decided shape d c (sym e));
  run = λ d ld e. absurd (run_not_decided shape d c (sym e));
  decided = λ d ld e. max_most n k (AreDecided shape (v.seen ++ others) d) (f.decided d ld e)
      (subst (λ z. AreDecided shape (v.seen ++ others) z k) (same_channel_decided shape c d e)
      (were_decided_more shape c _ _ _ v.seen others added.is_legal is));
  mark = λ d q ld lq e. absurd (decided_not_mark shape c d q lc e);
}

pub raises_mark : (shape : Shape) (c p k : ℕ) (v : Seen) → c < length shape → p ≤ places_at shape c → IsMark shape v.seen c p k
    → MayLift (Legal shape) (Fits shape) maker (view_of v) (mark_number shape c p) k
raises_mark shape c p k v lc lp is others n added f = record {
  cell = λ d q ld lq e. absurd (cell_not_mark shape d c q p ld lq (sym e));
  wait = λ d q ld lq e. absurd (wait_not_mark shape d c q p ld lq (sym e));
  sends = λ d ld e. absurd (send_not_mark shape d c p ld (sym e));
  receives = λ d ld e. absurd (receive_not_mark shape d c p ld (sym e));
  run = λ d ld e. absurd (run_not_mark shape d c p ld (sym e));
  decided = λ d ld e. absurd (decided_not_mark shape d c p ld (sym e));
  mark = λ d q ld lq e. let h = same_mark shape c d p q lc ld lp lq e in
      max_most n k (IsMark shape (v.seen ++ others) d q) (f.mark d q ld lq e)
      (subst (λ (z : ℕ × ℕ). IsMark shape (v.seen ++ others) z.0 z.1 k) (λ i. (h.0 i, h.1 i))
      (mark_more shape c p k v.seen others added.is_legal is));
}

-- the word of a mark
pub mark_is : (shape : Shape) (log : List Entry) (c p n : ℕ) (kept : Bool) → mark_told n ≡ Some kept → fate shape log c p ≡ Some kept
    → IsMark shape log c p n
mark_is shape log c p n kept told is = record {
  told = λ b e. is ∙ (sym told ∙ e);
  behind = λ lt. absurd (none_told n lt kept told);
}
  where
    none_told : (n : ℕ) → n < 4611686018427387904 → (kept : Bool) → mark_told n ≡ Some kept → ⊥
    none_told n lt kept e = grind (arith, nat_tests, e)

-- of places behind it
pub behind_is : (shape : Shape) (log : List Entry) (c p to count : ℕ) → to < 2097152 → count < 2097152
    → WereDecided shape log c (p + 1) to count → IsMark shape log c p (to * 2097152 + count)
behind_is shape log c p to count lt few h =
    let quotient : (to * 2097152 + count) / 2097152 ≡ to = omega (arith, few) in
    let rest : (to * 2097152 + count) % 2097152 ≡ count = omega (arith, few) in
    record {
      told = λ b e. absurd (none_told (to * 2097152 + count) (omega (arith, lt, few)) b e);
      behind = λ less. subst (λ (z : ℕ × ℕ). WereDecided shape log c (p + 1) z.0 z.1) (λ i. (sym quotient i, sym rest i)) h;
    }
  where
    none_told : (n : ℕ) → n < 4611686018427387904 → (b : Bool) → mark_told n ≡ Some b → ⊥
    none_told n less b e = grind (arith, nat_tests, e)

-- the word that says of which places it is decided
pub decided_is : (shape : Shape) (log : List Entry) (c from to count : ℕ) → from < 2097152 → count < 2097152
    → WereDecided shape log c from to count → AreDecided shape log c (to * 4398046511104 + (from * 2097152 + count))
decided_is shape log c from to count lf lc h =
    is ((n / 2097152) % 2097152) (n / 4398046511104) (n % 2097152) (omega arith) (omega arith) (omega arith)
  where
    n : ℕ
    n = to * 4398046511104 + (from * 2097152 + count)

    is : (f t k : ℕ) → from ≡ f → to ≡ t → count ≡ k → WereDecided shape log c f t k
    is f t k ef et ek = subst (λ (z : ℕ). WereDecided shape log c z t k) ef
        (subst (λ (z : ℕ). WereDecided shape log c from z k) et (subst (λ (z : ℕ). WereDecided shape log c from to z) ek h))

-- the word that says so of a run
pub run_is : (log : List Entry) (c from to : ℕ) → from < 4294967296 → WereKept log c from to → IsKeptRun log c (to * 4294967296 + from)
run_is log c from to lt h p le less = h p (omega arith) (omega arith)

-- what a counter says is a place
pub hint_fits : (shape : Shape) (c n m : ℕ) (log : List Entry) → Legal shape log → places_at shape c ≤ 1048576
    → NoneBelow n m (at_channel log c) → (n < 4294967296) × (m < 4294967296)
hint_fits shape c n m log l few h = let t = (sound shape log l).channels c in let a = h.given in let b = h.given_offers in let w = t.within
    in (omega arith, omega arith)
