-- A word says who took the task last, and whether it was asked since.
use Rattle.std.proofs.Common.{◌≡◌, ◌≢◌, ℕ, zero, suc, ◌+◌, ◌%◌, Bool, true, false, if◌then◌else◌, List, [], ◌∷◌, ◌++◌, ◌⊎◌, inl, inr, ⊎_elim, sym, refl, ap, ◌∙◌, arith, eq-eqb, ne_eqb}
use mathlib.Core.Logic.{dite}
use native.Mathlib.Decide.{ℕ_discrete}
use Rattle.task_berths.specs.declared.rule.BerthStep.{BerthStep}
use Rattle.task_berths.specs.declared.rule.BerthStep.TheVariants.{Take, Ask, Leave}
use Rattle.task_berths.specs.Words.{out_word, asked_word, word_by, word_after, word_of}
use Rattle.task_berths.specs.LastMoves.{is_moved, is_asked, IsWith, SaysWhere}
use Rattle.task_berths.proofs.WordsByStep.{taken_here, taken_else, asked_here, asked_else, left_here, left_else}

-- the word out of these steps, where none moves the task
abbrev if_asked : Bool → ℕ → ℕ
if_asked true w = asked_word w
if_asked false w = w

-- what steps make of a word that was w before them
record Stays (t w : ℕ) (es : List BerthStep) : Type 0 where
  still : is_moved t es ≡ false
  word : word_after t w es ≡ if_asked (is_asked t es) w

record Comes (t w : ℕ) (es : List BerthStep) : Type 0 where
  before : List BerthStep
  after : List BerthStep
  left : es ≡ before ++ Leave t ∷ after
  still : is_moved t after ≡ false
  word : word_after t w es ≡ 0

record Goes (t w : ℕ) (es : List BerthStep) : Type 0 where
  k : ℕ
  asked : Bool
  with_it : IsWith t k asked es
  word : word_after t w es ≡ (if asked then suc (out_word k) else out_word k)

asked_again : (w : ℕ) → asked_word (asked_word w) ≡ asked_word w
asked_again zero = refl
asked_again (suc w) = omega arith

asked_out : (k : ℕ) → asked_word (out_word k) ≡ suc (out_word k)
asked_out k = odd (out_word k) (omega arith) (omega arith)
  where
    odd : (w : ℕ) → w ≢ 0 → w % 2 ≡ 0 → asked_word w ≡ suc w
    odd zero ne e = absurd (ne refl)
    odd (suc w) ne e = omega (arith, e)

asked_as : (b : Bool) (k : ℕ) → if_asked b (out_word k) ≡ (if b then suc (out_word k) else out_word k)
asked_as true k = asked_out k
asked_as false k = refl

asked_none : (b : Bool) → if_asked b 0 ≡ 0
asked_none true = refl
asked_none false = refl

asked_more : (b : Bool) (w : ℕ) → if_asked b (asked_word w) ≡ asked_word w
asked_more true w = asked_again w
asked_more false w = refl

-- a step more in front
longer_home : (t w : ℕ) (e : BerthStep) (es : List BerthStep) → Comes t (word_by t w e) es → Comes t w (e ∷ es)
longer_home t w e es c = record { before = e ∷ c.before; after = c.after; left = ap (λ l. e ∷ l) c.left; still = c.still; word = c.word }

longer_with : (t w : ℕ) (e : BerthStep) (es : List BerthStep) → Goes t (word_by t w e) es → Goes t w (e ∷ es)
longer_with t w e es c = record {
  k = c.k;
  asked = c.asked;
  with_it = record {
    before = e ∷ c.with_it.before;
    after = c.with_it.after;
    taken = ap (λ l. e ∷ l) c.with_it.taken;
    still =
        c.with_it.still;
    asks = c.with_it.asks;
  };
  word = c.word;
}

longer : (t w : ℕ) (e : BerthStep) (es : List BerthStep)
    → (Stays t (word_by t w e) es → Stays t w (e ∷ es) ⊎ (Comes t w (e ∷ es) ⊎ Goes t w (e ∷ es)))
    → Stays t (word_by t w e) es ⊎ (Comes t (word_by t w e) es ⊎ Goes t (word_by t w e) es) → Stays t w (e ∷ es)
    ⊎ (Comes t w (e ∷ es) ⊎ Goes t w (e ∷ es))
longer t w e es first rest = ⊎_elim first (λ q. ⊎_elim (λ c. inr (inl (longer_home t w e es c))) (λ c. inr (inr (longer_with t w e es c)))
    q) rest

says : (t w : ℕ) (es : List BerthStep) → Stays t w es ⊎ (Comes t w es ⊎ Goes t w es)
says t w [] = inl record { still = refl; word = refl }
says t w (Take u k ∷ es) = longer t w (Take u k) es (λ s. dite (ℕ_discrete u t)
    (λ e. inr (inr record {
      k = k;
      asked = is_asked t es;
      with_it = record { before = []; after = es; taken = ap (λ x. Take x k ∷ es) e; still = s.still; asks = refl };
      word = s.word ∙ ap (if_asked (is_asked t es)) (ap (λ x. word_by t w (Take x k)) e ∙ taken_here t w k) ∙ asked_as (is_asked t es) k;
    }))
    (λ ne. inl record {
      still = ap (λ (b : Bool). if b then true else is_moved t es) (ne_eqb u t ne) ∙ s.still;
      word = s.word ∙ ap (if_asked (is_asked t es)) (taken_else t u w k ne);
    })) (says t (word_by t w (Take u k)) es)
says t w (Ask u ∷ es) = longer t w (Ask u) es (λ s. dite (ℕ_discrete u t)
    (λ e. inl record {
      still = s.still;
      word = s.word ∙ ap (if_asked (is_asked t es)) (ap (λ x. word_by t w (Ask x)) e ∙ asked_here t w) ∙ asked_more (is_asked t es) w
          ∙ sym (ap (λ (b : Bool). if_asked (if b then true else is_asked t es) w) (eq-eqb u t e));
    })
    (λ ne. inl record {
      still = s.still;
      word = s.word ∙ ap (if_asked (is_asked t es)) (asked_else t u w ne)
          ∙ sym (ap (λ (b : Bool). if_asked (if b then true else is_asked t es) w) (ne_eqb u t ne));
    })) (says t (word_by t w (Ask u)) es)
says t w (Leave u ∷ es) = longer t w (Leave u) es (λ s. dite (ℕ_discrete u t)
    (λ e. inr (inl record {
      before = [];
      after = es;
      left = ap (λ x. Leave x ∷ es) e;
      still = s.still;
      word = s.word ∙ ap (if_asked (is_asked t es)) (ap (λ x. word_by t w (Leave x)) e ∙ left_here t w) ∙ asked_none (is_asked t es);
    }))
    (λ ne. inl record {
      still = ap (λ (b : Bool). if b then true else is_moved t es) (ne_eqb u t ne) ∙ s.still;
      word = s.word ∙ ap (if_asked (is_asked t es)) (left_else t u w ne);
    })) (says t (word_by t w (Leave u)) es)

pub says_where : (t : ℕ) (log : List BerthStep) → SaysWhere t log (word_of t log)
says_where t log = ⊎_elim
    (λ (s : Stays t 0 log). inl (s.word ∙ asked_none (is_asked t log), inl s.still))
    (λ (q : Comes t 0 log ⊎ Goes t 0 log). ⊎_elim
    (λ (c : Comes t 0 log). inl (c.word, inr (c.before, c.after, c.left, c.still)))
    (λ (c : Goes t 0 log). inr (c.k, c.asked, c.word, c.with_it))
    q)
    (says t 0 log)
