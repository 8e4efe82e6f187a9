-- A counter is the number of its entries.
use Rattle.std.proofs.Common.{◌≡◌, ℕ, ◌+◌, ◌≤◌, zero, suc, arith, true, List, [], ◌∷◌, ◌++◌, length, get_or, refl, ap, subst}
use mathlib.Core.Option.{Option, some, none}
use mathlib.Core.List.{IsPrefix}
use Rattle.worded.specs.declared.view.View.{View}
use Rattle.worded.specs.Views.{has_tag}
use Rattle.worded.specs.Exchanges.{MayEnter, Exchanged, Met}
use Rattle.worded.proofs.TagsNotGiven.{by_exchange}
use Rattle.joined_words.specs.Parts.{IsEntryAnd}

one_longer : {A : Type 0} (xs : List A) (x : A) → length (xs ++ x ∷ []) ≡ length xs + 1
one_longer [] x = refl
one_longer (y ∷ ys) x = let h = one_longer ys x in omega arith

longer : {A : Type 0} (xs ys : List A) → length xs ≤ length (xs ++ ys)
longer [] ys = omega arith
longer (x ∷ xs) ys = let h = longer xs ys in omega arith

pub prefix_length : {A : Type 0} (xs ys : List A) → IsPrefix xs ys → length xs ≤ length ys
prefix_length xs ys p = subst (λ l. length xs ≤ length l) p.1 (longer xs p.0)

-- an entry more is one number more
pub may_count : (v : View ℕ ℕ) (n : ℕ) (x : Option ℕ) → IsEntryAnd x (λ e. has_tag e v.tags ≡ true)
    → IsEntryAnd x (MayEnter (λ log. Unit {0}) (λ log i m. i ≡ 0 → m ≡ length log) (λ e. e) v 0 n (n + 1))
may_count v n none own = absurd own
may_count v n (some e) own = record {
  own = own;
  steps = λ others added found. (
    tt,
    λ z. let h = found refl in let l = one_longer (v.seen ++ others) e in omega arith,
    λ j m ne fit z. absurd (ne z),
  );
}

-- a step tells a seat all that it had not seen
pub idle_after : {E K : Type 0} (legal : List E → Type 0) (fits : List E → ℕ → ℕ → Type 0) (who : E → ℕ) (word old n : ℕ) (e : E)
    (v w : View E K) → Exchanged legal fits who word old n (some e) v w → (w.key ≡ v.key) × (w.heard_tags ≡ [])
idle_after {E} {K} legal fits who word old n e v w told = by_exchange legal fits who word old n e v w
    ((w.key ≡ v.key) × (w.heard_tags ≡ []))
    (λ m. (ap (λ (u : View E K). u.key) m.now, ap (λ (u : View E K). u.heard_tags) m.now))
    (λ l. (ap (λ (u : View E K). u.key) l.now, ap (λ (u : View E K). u.heard_tags) l.now)) told

pub key_met : {E K : Type 0} {legal : List E → Type 0} {fits : List E → ℕ → ℕ → Type 0} {who : E → ℕ} {v w : View E K} {seen : List E}
    → Met legal fits who v seen w → w.key ≡ v.key
key_met {E} {K} m = ap (λ (u : View E K). u.key) m.now

zero_more : (ws : List ℕ) → ((i : ℕ) → get_or ws i 0 ≡ 0) → (i : ℕ) → get_or (0 ∷ ws) i 0 ≡ 0
zero_more ws h zero = refl
zero_more ws h (suc i) = h i

-- the words of two counters at first
abbrev pub zeros : List ℕ
zeros = 0 ∷ 0 ∷ 0 ∷ 0 ∷ 0 ∷ 0 ∷ 0 ∷ 0 ∷ 0 ∷ 0 ∷ []

pub ten_zeros : (i : ℕ) → get_or zeros i 0 ≡ 0
ten_zeros = zero_more (0 ∷ 0 ∷ 0 ∷ 0 ∷ 0 ∷ 0 ∷ 0 ∷ 0 ∷ 0 ∷ [])
    (zero_more (0 ∷ 0 ∷ 0 ∷ 0 ∷ 0 ∷ 0 ∷ 0 ∷ 0 ∷ []) (zero_more (0 ∷ 0 ∷ 0 ∷ 0 ∷ 0 ∷ 0 ∷ 0 ∷ [])
    (zero_more (0 ∷ 0 ∷ 0 ∷ 0 ∷ 0 ∷ 0 ∷ []) (zero_more (0 ∷ 0 ∷ 0 ∷ 0 ∷ 0 ∷ [])
    (zero_more (0 ∷ 0 ∷ 0 ∷ 0 ∷ []) (zero_more (0 ∷ 0 ∷ 0 ∷ [])
    (zero_more (0 ∷ 0 ∷ []) (zero_more (0 ∷ []) (zero_more [] (λ i. refl))))))))))
