-- What a word tells of the state, and what an act makes of it.
use Rattle.std.specs.Prelude.{◌≡◌, ℕ, zero, suc, ◌+◌, ◌*◌, ◌-◌, ◌/◌, ◌%◌, ◌^◌, ◌==◌, ◌<◌, ◌≤◌, Bool, true, false, length, nat_lt, ◌&&◌, refl}
use Rattle.std.proofs.Common.{sym, ap, ◌∙◌, subst, arith, w64, pow-suc, shr-shr}
use Rattle.std.proofs.lemmas.Bool.{lt-ltb, ltb-true, ltb-false, and_right}
use Rattle.std.specs.Int.{bit_at, trailing_zeros}
use Rattle.std.proofs.lemmas.Nat.Bits.{bit_at_lowest, bit_at-suc, bit_at_above, bit_at_cat_high, bit_at-trailing_zeros}
use Rattle.gates.specs.declared.act.GateAct.{GateAct}
use Rattle.gates.specs.declared.act.GateAct.TheVariants.{Take, Wait, Give, Grant, GiveUp}
use Rattle.gates.specs.Gates.{State, put, one_if, after, holds, Needs}
use Rattle.gates.specs.Words.{mask_of, word_of, free_in, waits_in}
use Rattle.gates.specs.Answers.{Allows, ReadyFor, TurnsWord, MayTurnWord, HasBit}
use Rattle.gates.proofs.HistoriesGoOn.{put_here, put_else}
use Rattle.gates.proofs.StatesStaySound.{Sound, sound_step, Counted, holds_more, one_small}

-- ---- masks

doubles : (k : ℕ) → 2 ^ suc k ≡ 2 * 2 ^ k
doubles k = omega (arith, pow-suc 2 k)

doubled : (b m p q : ℕ) → b ≤ 1 → m < p → q ≡ 2 * p → b + 2 * m < q
doubled b m p q h k e = omega (arith, h, k, e)

pub mask_small : (f : ℕ → Bool) (k : ℕ) → mask_of f k < 2 ^ k
unfolding mask_of
mask_small f zero = omega arith
mask_small f (suc k) = doubled (one_if (f 0)) (mask_of (λ t. f (suc t)) k) (2 ^ k) (2 ^ suc k) (one_small (f 0))
    (mask_small (λ t. f (suc t)) k) (doubles k)

mask_same : (f g : ℕ → Bool) (k : ℕ) → ((t : ℕ) → f t ≡ g t) → mask_of f k ≡ mask_of g k
unfolding mask_of
mask_same f g zero h = refl
mask_same f g (suc k) h = λ i. one_if (h 0 i) + 2 * mask_same (λ t. f (suc t)) (λ t. g (suc t)) k (λ t. h (suc t)) i

first_up : (a b x y : ℕ) → a ≡ 0 → b ≡ 1 → y ≡ x → b + 2 * y ≡ (a + 2 * x) + 1
first_up a b x y e f h = omega (arith, e, f, h)

later_up : (a b x y p q : ℕ) → b ≡ a → y ≡ x + p → q ≡ 2 * p → b + 2 * y ≡ (a + 2 * x) + q
later_up a b x y p q e f h = omega (arith, e, f, h)

-- one bit more
pub mask_put : (f g : ℕ → Bool) (t k : ℕ) → t < k → f t ≡ false → g t ≡ true → ((u : ℕ) → (t ≡ u → ⊥) → g u ≡ f u)
    → mask_of g k ≡ mask_of f k + 2 ^ t
unfolding mask_of
mask_put f g t zero lt unset set same = absurd (omega (arith, lt))
mask_put f g zero (suc k) lt unset set same = first_up (one_if (f 0)) (one_if (g 0)) (mask_of (λ u. f (suc u)) k)
    (mask_of (λ u. g (suc u)) k)
    (ap one_if unset) (ap one_if set)
    (mask_same (λ u. g (suc u)) (λ u. f (suc u)) k (λ u. same (suc u) (λ e. absurd (omega (arith, e)))))
mask_put f g (suc t) (suc k) lt unset set same = later_up (one_if (f 0)) (one_if (g 0)) (mask_of (λ u. f (suc u)) k)
    (mask_of (λ u. g (suc u)) k) (2 ^ t) (2 ^ suc t) (ap one_if (same 0 (λ e. absurd (omega (arith, e)))))
    (mask_put (λ u. f (suc u)) (λ u. g (suc u)) t k (omega (arith, lt)) unset set
    (λ u ne. same (suc u) (λ e. ne (omega (arith, e))))) (doubles t)

lowest : (b m : ℕ) → b ≤ 1 → (b + 2 * m) % 2 ≡ b
lowest b m h = omega (arith, h)

halved : (b m : ℕ) → b ≤ 1 → (b + 2 * m) / 2 ≡ m
halved b m h = omega (arith, h)

pub mask_bit : (f : ℕ → Bool) (k i : ℕ) → i < k → bit_at (mask_of f k) i ≡ one_if (f i)
unfolding mask_of
mask_bit f zero i lt = absurd (omega (arith, lt))
mask_bit f (suc k) zero lt = bit_at_lowest (one_if (f 0) + 2 * mask_of (λ t. f (suc t)) k)
    ∙ lowest (one_if (f 0)) (mask_of (λ t. f (suc t)) k) (one_small (f 0))
mask_bit f (suc k) (suc i) lt = bit_at-suc (one_if (f 0) + 2 * mask_of (λ t. f (suc t)) k) i
    ∙ ap (λ x. bit_at x i) (halved (one_if (f 0)) (mask_of (λ t. f (suc t)) k) (one_small (f 0)))
    ∙ mask_bit (λ t. f (suc t)) k i (omega (arith, lt))

-- ---- what a word tells

fits_word : (f m : ℕ) → f ≤ 65535 → m < 281474976710656 → f + 65536 * m < 2 ^ 64
fits_word f m h k = omega (arith, h, k)

few_free : (n f l : ℕ) → f + l ≡ n → n ≤ 65535 → f ≤ 65535
few_free n f l e h = omega (arith, e, h)

pub word_small : (n : ℕ) (s : State) → Sound n s → n ≤ 65535 → word_of s < 2 ^ 64
word_small n s h le = fits_word s.free (mask_of s.waits 48) (few_free n s.free (length s.holders) h.total le) (mask_small s.waits 48)

low_part : (f m : ℕ) → f ≤ 65535 → (f + 65536 * m) % 65536 ≡ f
low_part f m h = omega (arith, h)

pub free_told : (n : ℕ) (s : State) → Sound n s → n ≤ 65535 → free_in (word_of s) ≡ s.free
free_told n s h le = low_part s.free (mask_of s.waits 48) (few_free n s.free (length s.holders) h.total le)

is_one : (b : Bool) → (one_if b == 1) ≡ b
is_one true = refl
is_one false = refl

turned_round : (f m : ℕ) → f + 65536 * m ≡ m * 2 ^ 16 + f
turned_round f m = omega arith

down : (t : ℕ) → (16 + t) - 16 ≡ t
down t = omega arith

high_from : (t : ℕ) → 16 ≤ 16 + t
high_from t = omega arith

below_16 : (f : ℕ) → f ≤ 65535 → f < 2 ^ 16
below_16 f h = omega (arith, h)

pub waits_told : (n : ℕ) (s : State) (t : ℕ) → Sound n s → n ≤ 65535 → waits_in (word_of s) t ≡ s.waits t
waits_told n s t h le = by_test (nat_lt t 48) refl
  where
    bit : t < 48 → bit_at (word_of s) (16 + t) ≡ one_if (s.waits t)
    bit lt = ap (λ w. bit_at w (16 + t)) (turned_round s.free (mask_of s.waits 48))
        ∙ bit_at_cat_high (mask_of s.waits 48) 16 s.free (16 + t)
        (below_16 s.free (few_free n s.free (length s.holders) h.total le)) (high_from t)
        ∙ ap (bit_at (mask_of s.waits 48)) (down t) ∙ mask_bit s.waits 48 t lt

    by_test : (b : Bool) → nat_lt t 48 ≡ b → (nat_lt t 48 && (bit_at (word_of s) (16 + t) == 1)) ≡ s.waits t
    by_test true is = ap (λ b. b && (bit_at (word_of s) (16 + t) == 1)) is ∙ ap (λ x. x == 1) (bit (ltb-true t 48 is)) ∙ is_one (s.waits t)
    by_test false is = ap (λ b. b && (bit_at (word_of s) (16 + t) == 1)) is ∙ sym (h.few t (ltb-false t 48 is))

-- nobody waits by a word that is as small as the number of permits
pub nobody_told : (w t : ℕ) → w < 65536 → waits_in w t ≡ false
nobody_told w t lt = and_right (nat_lt t 48) (bit_at w (16 + t) == 1)
    (ap (λ x. x == 1) (bit_at_above w 16 (16 + t) lt (high_from t)))

high_some : (w : ℕ) → 65536 ≤ w → 0 < w / 65536
high_some w h = omega (arith, h)

high_small : (w : ℕ) → w < 2 ^ 64 → w / 65536 < 2 ^ 48
high_small w h = omega (arith, h)

less : (m : ℕ) → m < 2 ^ 48 → m < 2 ^ 64
less m h = omega (arith, h)

-- the lowest bit of those who wait
pub lowest_waits : (w : ℕ) → 65536 ≤ w → w < 2 ^ 64 → waits_in w (trailing_zeros w64 (w / 65536)) ≡ true
lowest_waits w some small = (λ i. lt-ltb t 48 low i && (bit i == 1))
  where
    m : ℕ
    m = w / 65536

    t : ℕ
    t = trailing_zeros w64 m

    found : (t < 64) × (bit_at m t ≡ 1) × ((i : ℕ) → i < t → bit_at m i ≡ 0)
    found = bit_at-trailing_zeros w64 m (high_some w some) (less m (high_small w small))

    low : t < 48
    low = by_test (nat_lt t 48) refl
      where
        by_test : (b : Bool) → nat_lt t 48 ≡ b → t < 48
        by_test true is = ltb-true t 48 is
        by_test false is = let z : ◌≡◌ {A = ℕ} 1 0 = sym found.1 ∙ bit_at_above m 48 t (high_small w small) (ltb-false t 48 is) in
            absurd (omega (arith, z))

    bit : bit_at w (16 + t) ≡ 1
    bit = ap (λ x. x % 2) (sym (shr-shr w 16 t)) ∙ found.1

-- ---- what an act makes of a word

act_take : (f m : ℕ) → 0 < f → f + 65536 * m ≡ ((f - 1) + 65536 * m) + 1
act_take f m h = omega (arith, h)

act_give : (f m : ℕ) → suc f + 65536 * m ≡ (f + 65536 * m) + 1
act_give f m = omega arith

bit_up : (f m k p : ℕ) → k ≡ m + p → f + 65536 * k ≡ (f + 65536 * m) + 65536 * p
bit_up f m k p e = omega (arith, e)

-- who waits has a bit
pub low_of : (n : ℕ) (s : State) (t : ℕ) → Sound n s → s.waits t ≡ true → t < 48
low_of n s t h set = by_test (nat_lt t 48) refl
  where
    by_test : (b : Bool) → nat_lt t 48 ≡ b → t < 48
    by_test true is = ltb-true t 48 is
    by_test false is = let z : true ≡ false = sym set ∙ h.few t (ltb-false t 48 is) in cc

bit_cleared : (s : State) (t : ℕ) → t < 48 → s.waits t ≡ true → mask_of s.waits 48 ≡ mask_of (put t false s.waits) 48 + 2 ^ t
bit_cleared s t lt set = mask_put (put t false s.waits) s.waits t 48 lt (put_here t false s.waits) set
    (λ u ne. sym (put_else t u false s.waits ne))

pub turns_word : (n : ℕ) (s : State) (who : ℕ) (act : GateAct) → Sound n s → Needs s who act
    → TurnsWord who act (word_of s) (word_of (after s who act))
turns_word n s who Take h k = act_take s.free (mask_of s.waits 48) k
turns_word n s who Wait h k = bit_up s.free (mask_of s.waits 48) (mask_of (put who true s.waits) 48) (2 ^ who)
    (mask_put s.waits (put who true s.waits) who 48 k.2 k.1 (put_here who true s.waits) (λ u ne. put_else who u true s.waits ne))
turns_word n s who Give h k = act_give s.free (mask_of s.waits 48)
turns_word n s who (Grant t) h k = bit_up s.free (mask_of (put t false s.waits) 48) (mask_of s.waits 48) (2 ^ t)
    (bit_cleared s t (low_of n s t h k.1) k.1)
turns_word n s who GiveUp h k = bit_up s.free (mask_of (put who false s.waits) 48) (mask_of s.waits 48) (2 ^ who)
    (bit_cleared s who (low_of n s who h k) k)

pub has_bit : (n : ℕ) (s : State) (who : ℕ) (act : GateAct) → Sound n s → Needs s who act → HasBit who act
has_bit n s who Wait h k = k.2
has_bit n s who (Grant t) h k = low_of n s t h k.1
has_bit n s who GiveUp h k = low_of n s who h k
has_bit n s who other h k = tt

pub may_turn_word : (n w : ℕ) (s : State) (who : ℕ) (act : GateAct) → w ≡ word_of s → Sound n s → n ≤ 65535 → Needs s who act
    → MayTurnWord who act w
may_turn_word n w s who act is h le k = subst (MayTurnWord who act) (sym is)
    (word_of (after s who act), turns_word n s who act h k, word_small n (after s who act) (sound_step n s who act h k) le)

pub same_turn : (who : ℕ) (act : GateAct) (w x y : ℕ) → TurnsWord who act w x → TurnsWord who act w y → x ≡ y
same_turn who Wait w x y h k = h ∙ sym k
same_turn who Give w x y h k = h ∙ sym k
same_turn who other w x y h k = omega (arith, h, k)

-- ---- one word, one answer

pub same_free : (n : ℕ) (s r : State) → Sound n s → Sound n r → n ≤ 65535 → word_of s ≡ word_of r → s.free ≡ r.free
same_free n s r h k le is = sym (free_told n s h le) ∙ ap free_in is ∙ free_told n r k le

pub same_waits : (n : ℕ) (s r : State) (t : ℕ) → Sound n s → Sound n r → n ≤ 65535 → word_of s ≡ word_of r → s.waits t ≡ r.waits t
same_waits n s r t h k le is = sym (waits_told n s t h le) ∙ ap (λ w. waits_in w t) is ∙ waits_told n r t k le

-- what an act needs is told by the word, and by who holds how many
pub needs_again : (n : ℕ) (s r : State) (who : ℕ) (act : GateAct) → Sound n s → Sound n r → n ≤ 65535 → word_of s ≡ word_of r
    → holds who s ≡ holds who r → Needs s who act → Needs r who act
needs_again n s r who Take h k le is same q = subst (λ f. 0 < f) (same_free n s r h k le is) q
needs_again n s r who Wait h k le is same q = (
  sym (same_free n s r h k le is) ∙ q.0,
  sym (same_waits n s r who h k le is) ∙ q.1,
  q.2,
)
needs_again n s r who Give h k le is same q = (
  subst (λ f. 0 < f) same q.0,
  λ t. sym (same_waits n s r t h k le is) ∙ q.1 t,
)
needs_again n s r who (Grant t) h k le is same q = (subst (λ f. 0 < f) same q.0, sym (same_waits n s r t h k le is) ∙ q.1)
needs_again n s r who GiveUp h k le is same q = sym (same_waits n s r who h k le is) ∙ q

some_held : (held c : ℕ) → 0 < held → held ≤ c → 0 < c
some_held held c h k = omega (arith, h, k)

-- an act that the word allows may come
pub needs_told : (n w : ℕ) (s : State) (who held : ℕ) (waits : Bool) (act : GateAct) → w ≡ word_of s → Sound n s → n ≤ 65535
    → Counted who held waits s → ReadyFor act held waits → Allows who w act → Needs s who act
needs_told n w s who held waits Take is h le c r a = subst (λ f. 0 < f) (ap free_in is ∙ free_told n s h le) a
needs_told n w s who held waits Wait is h le c r a = (sym (free_told n s h le) ∙ sym (ap free_in is) ∙ a.0, c.calm r, a.1)
needs_told n w s who held waits Give is h le c r a = (
  some_held held (holds who s) r (holds_more who held waits s c),
  λ t. sym (waits_told n s t h le) ∙ sym (ap (λ x. waits_in x t) is) ∙ a t,
)
needs_told n w s who held waits (Grant t) is h le c r a = (
  some_held held (holds who s) r (holds_more who held waits s c),
  sym (waits_told n s t h le) ∙ sym (ap (λ x. waits_in x t) is) ∙ a,
)
needs_told n w s who held waits GiveUp is h le c r a = sym (waits_told n s who h le) ∙ sym (ap (λ x. waits_in x who) is) ∙ a

-- whether a tag waits is told by the word
pub waits_found : (n w t : ℕ) (s : State) (b : Bool) → w ≡ word_of s → Sound n s → n ≤ 65535 → waits_in w t ≡ b → s.waits t ≡ b
waits_found n w t s b is h le e = sym (waits_told n s t h le) ∙ sym (ap (λ x. waits_in x t) is) ∙ e
