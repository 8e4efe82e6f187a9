-- What a step does to the words of the berths, and lists of tags.
use Rattle.std.proofs.Common.{◌≡◌, ◌≢◌, ℕ, zero, suc, ◌+◌, ◌/◌, ◌%◌, eqb, Bool, true, false, true≢false, if◌then◌else◌, List, [], ◌∷◌, ◌++◌, ◌⊎◌, inl, inr, ⊎_elim, sym, refl, ap, ◌∙◌, subst, arith, eq-eqb, ne_eqb, append-nil}
use mathlib.Core.Logic.{dite}
use native.Mathlib.Decide.{ℕ_discrete}
use Rattle.task_berths.specs.declared.rule.BerthStep.{BerthStep}
use Rattle.task_berths.specs.declared.rule.BerthStep.TheVariants.{Take, Ask, Leave}
use Rattle.task_berths.specs.Words.{Begins, out_word, asked_word, word_by, word_after, word_of, takes_in}
use Rattle.task_berths.specs.Views.{has_tag, without_tag}

pub begins_all : (log : List BerthStep) → Begins log log
begins_all log = ([], sym (append-nil log))

pub word-append : (t w : ℕ) (xs ys : List BerthStep) → word_after t w (xs ++ ys) ≡ word_after t (word_after t w xs) ys
word-append t w [] ys = refl
word-append t w (x ∷ xs) ys = word-append t (word_by t w x) xs ys

-- one step more
pub word-snoc : (t : ℕ) (log : List BerthStep) (e : BerthStep) → word_of t (log ++ e ∷ []) ≡ word_by t (word_of t log) e
word-snoc t log e = word-append t 0 log (e ∷ [])

pub taken_here : (t w k : ℕ) → word_by t w (Take t k) ≡ out_word k
taken_here t w k = ap (λ (b : Bool). if b then out_word k else w) (eq-eqb t t refl)

pub taken_else : (u t w k : ℕ) → t ≢ u → word_by u w (Take t k) ≡ w
taken_else u t w k ne = ap (λ (b : Bool). if b then out_word k else w) (ne_eqb t u ne)

pub asked_here : (t w : ℕ) → word_by t w (Ask t) ≡ asked_word w
asked_here t w = ap (λ (b : Bool). if b then asked_word w else w) (eq-eqb t t refl)

pub asked_else : (u t w : ℕ) → t ≢ u → word_by u w (Ask t) ≡ w
asked_else u t w ne = ap (λ (b : Bool). if b then asked_word w else w) (ne_eqb t u ne)

pub left_here : (t w : ℕ) → word_by t w (Leave t) ≡ 0
left_here t w = ap (λ (b : Bool). if b then 0 else w) (eq-eqb t t refl)

pub left_else : (u t w : ℕ) → t ≢ u → word_by u w (Leave t) ≡ w
left_else u t w ne = ap (λ (b : Bool). if b then 0 else w) (ne_eqb t u ne)

pub asked-even : (w : ℕ) → w ≢ 0 → w % 2 ≡ 0 → asked_word w ≡ w + 1
asked-even zero ne e = absurd (ne refl)
asked-even (suc w) ne e = omega (arith, e)

pub asked-half : (w : ℕ) → asked_word w / 2 ≡ w / 2
asked-half zero = refl
asked-half (suc w) = omega arith

pub asked_out : (w : ℕ) → w ≢ 0 → asked_word w ≢ 0
asked_out zero ne = λ e. ne refl
asked_out (suc w) ne = λ e. absurd (omega (arith, e))

pub has_here : (t : ℕ) (xs : List ℕ) → has_tag t (t ∷ xs) ≡ true
has_here t xs = ap (λ (b : Bool). if b then true else has_tag t xs) (eq-eqb t t refl)

pub has_else : (u t : ℕ) (xs : List ℕ) → u ≢ t → has_tag u (t ∷ xs) ≡ has_tag u xs
has_else u t xs ne = ap (λ (b : Bool). if b then true else has_tag u xs) (ne_eqb u t ne)

pub has_none : (t : ℕ) → has_tag t [] ≡ true → ⊥
has_none t h = true≢false (sym h)

pub without_here : (t : ℕ) (xs : List ℕ) → has_tag t (without_tag t xs) ≡ false
without_here t [] = refl
without_here t (x ∷ xs) = go (without_here t xs)
  where
    go : has_tag t (without_tag t xs) ≡ false → has_tag t (without_tag t (x ∷ xs)) ≡ false
    go ih = dite (ℕ_discrete t x)
        (λ e. ap (λ (b : Bool). has_tag t (if b then without_tag t xs else x ∷ without_tag t xs)) (eq-eqb t x e) ∙ ih)
        (λ ne. ap (λ (b : Bool). has_tag t (if b then without_tag t xs else x ∷ without_tag t xs)) (ne_eqb t x ne)
        ∙ has_else t x (without_tag t xs) ne ∙ ih)

pub without_else : (u t : ℕ) (xs : List ℕ) → u ≢ t → has_tag u (without_tag t xs) ≡ has_tag u xs
without_else u t [] ne = refl
without_else u t (x ∷ xs) ne = go (without_else u t xs ne)
  where
    go : has_tag u (without_tag t xs) ≡ has_tag u xs → has_tag u (without_tag t (x ∷ xs)) ≡ has_tag u (x ∷ xs)
    go ih = dite (ℕ_discrete t x)
        (λ e. ap (λ (b : Bool). has_tag u (if b then without_tag t xs else x ∷ without_tag t xs)) (eq-eqb t x e) ∙ ih
        ∙ sym (has_else u x xs (λ same. ne (same ∙ sym e))))
        (λ apart. ap (λ (b : Bool). has_tag u (if b then without_tag t xs else x ∷ without_tag t xs)) (ne_eqb t x apart)
        ∙ ap (λ (b : Bool). if eqb u x then true else b) ih)

take_later : (t : ℕ) (e : BerthStep) (es : List BerthStep) → (a : List BerthStep) × (b : List BerthStep) × (k : ℕ)
    × (es ≡ a ++ Take t k ∷ b) → (a : List BerthStep) × (b : List BerthStep) × (k : ℕ) × (e ∷ es ≡ a ++ Take t k ∷ b)
take_later t e es h = (e ∷ h.0, h.1, h.2, ap (λ l. e ∷ l) h.3)

-- a take of t is among the steps, or the word is 0 or as before but for the asking
pub take_or_stays : (t w : ℕ) (es : List BerthStep) → ((a : List BerthStep) × (b : List BerthStep) × (k : ℕ) × (es ≡ a ++ Take t k ∷ b))
    ⊎ ((word_after t w es ≡ 0) ⊎ ((w ≢ 0) × (word_after t w es / 2 ≡ w / 2)))
take_or_stays t w [] = dite (ℕ_discrete w 0) (λ e. inr (inl e)) (λ ne. inr (inr (ne, refl)))
take_or_stays t w (Take u k ∷ es) = dite (ℕ_discrete u t)
    (λ e. inl ([], es, k, ap (λ x. Take x k ∷ es) e))
    (λ ne. ⊎_elim (λ h. inl (take_later t (Take u k) es h))
    (λ h. inr (subst (λ x. (word_after t x es ≡ 0) ⊎ ((w ≢ 0) × (word_after t x es / 2 ≡ w / 2))) (sym (taken_else t u w k ne)) h))
    (take_or_stays t w es))
take_or_stays t w (Ask u ∷ es) = dite (ℕ_discrete u t)
    (λ e. ⊎_elim (λ h. inl (take_later t (Ask u) es h)) (λ h. inr
    (subst (λ x. (word_after t x es ≡ 0) ⊎ ((w ≢ 0) × (word_after t x es / 2 ≡ w / 2)))
    (sym (ap (λ y. word_by t w (Ask y)) e ∙ asked_here t w))
    (⊎_elim inl (λ q. inr ((λ z. q.0 (ap asked_word z)), q.1 ∙ asked-half w)) h))) (take_or_stays t (asked_word w) es))
    (λ ne. ⊎_elim (λ h. inl (take_later t (Ask u) es h)) (λ h. inr
    (subst (λ x. (word_after t x es ≡ 0) ⊎ ((w ≢ 0) × (word_after t x es / 2 ≡ w / 2))) (sym (asked_else t u w ne)) h))
    (take_or_stays t w es))
take_or_stays t w (Leave u ∷ es) = dite (ℕ_discrete u t)
    (λ e. ⊎_elim (λ h. inl (take_later t (Leave u) es h))
    (λ h. inr (subst (λ x. (word_after t x es ≡ 0) ⊎ ((w ≢ 0) × (word_after t x es / 2 ≡ w / 2)))
    (sym (ap (λ y. word_by t w (Leave y)) e ∙ left_here t w)) (⊎_elim inl (λ q. absurd (q.0 refl)) h))) (take_or_stays t 0 es))
    (λ ne. ⊎_elim (λ h. inl (take_later t (Leave u) es h))
    (λ h. inr (subst (λ x. (word_after t x es ≡ 0) ⊎ ((w ≢ 0) × (word_after t x es / 2 ≡ w / 2))) (sym (left_else t u w ne)) h))
    (take_or_stays t w es))

pub takes-append : (xs ys : List BerthStep) → takes_in (xs ++ ys) ≡ takes_in xs + takes_in ys
takes-append [] ys = omega arith
takes-append (Take u k ∷ xs) ys = let q = takes-append xs ys in omega (arith, q)
takes-append (Ask u ∷ xs) ys = takes-append xs ys
takes-append (Leave u ∷ xs) ys = takes-append xs ys
