-- The words of a forest that has the root alone.
use Rattle.std.specs.Prelude.{◌≡◌, ℕ, ◌+◌, ◌*◌, ◌==◌, Bool, false, [], Some, None, option_map, if◌then◌else◌, refl}
use Rattle.std.proofs.Common.{inl, sym, ap, ◌∙◌, arith, eq-eqb, ne_eqb}
use mathlib.Core.Logic.{dite}
use native.Mathlib.Decide.{ℕ_discrete}
use Rattle.job_model.specs.Trees.{Shape, root}
use Rattle.word_rules.specs.declared.size.ForestSize.{ForestSize}
use Rattle.word_rules.specs.Rows.{word_of}
use Rattle.word_rules.specs.Deeds.{store_from, store_of, job_word, word_or, DoneFrom, IsDone, Fits}

pub nothing_yet : (shape : Shape) → IsDone shape []
unfolding DoneFrom
nothing_yet shape = tt

first_job : (r : ℕ) → job_word (store_of []) r ≡ (if (2 * r) == 0 then 2 else 0)
unfolding store_from
first_job r = dite (ℕ_discrete r 0)
    (λ e. ap (λ (n : ℕ). job_word (store_of []) n) e ∙ sym (ap (λ (b : Bool). if b then 2 else 0) (eq-eqb (2 * r) 0 (omega arith))))
    (λ ne. ap2 (ne_eqb r 0 ne) ∙ sym (ap (λ (b : Bool). if b then 2 else 0) (ne_eqb (2 * r) 0 (λ k. ne (omega arith)))))
  where
    ap2 : (r == 0) ≡ false → job_word (store_of []) r ≡ 0
    ap2 e = ap (λ (b : Bool). word_or (if b then 7 else 0) (option_map word_of (if b then Some root else None))) e

first_link : (r : ℕ) → (store_of []).links r ≡ 0
unfolding store_from
first_link r = refl

pub first_words_fit : (n : ℕ → ℕ) → ((i : ℕ) → n i ≡ (if i == 0 then 2 else 0)) → (size : ForestSize) (i : ℕ) → Fits size [] i (n i)
first_words_fit n h size i = record {
  job = λ r e. h i ∙ ap (λ (n : ℕ). if n == 0 then 2 else 0) e ∙ sym (first_job r);
  link = λ r ne e. inl (h i ∙ ap (λ (b : Bool). if b then 2 else 0)
      (ne_eqb i 0 (λ z. absurd (let k : 0 ≡ 2 * r + 1 = sym z ∙ e in omega arith))) ∙ sym (first_link r));
  hint = λ e r le lt. absurd (let k : n i ≡ 0 = h i ∙ ap (λ (n : ℕ). if n == 0 then 2 else 0) e in omega arith);
}
