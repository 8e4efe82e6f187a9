-- Where a history grew by one coroutine's own entries alone, how far it had come is known by how many of these there were.
use Rattle.std.specs.Prelude.{◌≡◌, ℕ, suc, ◌+◌, ◌==◌, true, List, [], ◌∷◌, ◌++◌, length, take, refl, if◌then◌else◌}
use Rattle.std.proofs.Common.{ap, sym, ◌∙◌, append_assoc, arith, length-append}
use Rattle.std.proofs.Math.Seq.{take-append_seam}
use Rattle.std.proofs.lemmas.List.{append_cancel_left}
use mathlib.Core.List.{IsPrefix}
use Rattle.std.proofs.lemmas.Bool.{eq-eqb}
use Rattle.channel_model.specs.declared.acts.Act.{Act}
use Rattle.channel_model.specs.declared.acts.Entry.{Entry}
use Rattle.channel_model.specs.Histories.{acts_of}
use Rattle.channel_model.specs.Floors.{entries_by}
use Rattle.job_model.specs.declared.acts.JobAct.{JobAct}
use Rattle.job_model.specs.declared.acts.JobEntry.{JobEntry}
use Rattle.job_model.specs.Histories.{acts_of as job_acts_of}
use Rattle.job_model.specs.Floors.{entries_by as job_entries_by}

module _ {E A : Type 0} (part : ℕ → List E → List A) (splits : (k : ℕ) (xs ys : List E) → part k (xs ++ ys) ≡ part k xs ++ part k ys) where
  -- each beginning of what was added is k's
  pub known_by : (k n : ℕ) (old at whole mine : List E) → ((xs ys : List E) → xs ++ ys ≡ mine → length (part k xs) ≡ length xs)
      → whole ≡ old ++ mine → IsPrefix old at → IsPrefix at whole
      → length (part k at) ≡ length (part k old) + n → take (length old + n) whole ≡ at
  known_by k n old at whole mine all e (a, p) (b, q) counted =
      let same : old ++ (a ++ b) ≡ old ++ mine = sym (append_assoc old a b) ∙ ap (λ l. l ++ b) p ∙ q ∙ e in
      let own : length (part k a) ≡ length a = all a b (append_cancel_left old (a ++ b) mine same) in
      let parts : length (part k at) ≡ length (part k old ++ part k a) = ap (λ l. length (part k l)) (sym p) ∙ ap length (splits k old a) in
      let sum = length-append (part k old) (part k a) in
      let long : length at ≡ length old + length a = ap length (sym p) ∙ length-append old a in
      let number : length old + n ≡ length at = omega (arith, own, parts, sum, long, counted) in
      ap (λ m. take m whole) number ∙ ap (λ l. take (length at) l) (sym q) ∙ take-append_seam at b

pub calls_are_all : (k : ℕ) (acts : List Act) (xs ys : List Entry) → xs ++ ys ≡ entries_by k acts → length (acts_of k xs) ≡ length xs
unfolding acts_of
calls_are_all k acts [] ys e = refl
calls_are_all k [] (x ∷ xs) ys e = cc
calls_are_all k (act ∷ acts) (x ∷ xs) ys e =
    let rest : xs ++ ys ≡ entries_by k acts = cc in
    let first : x ≡ record { who = k; act = act } = cc in
    let who : (x.who == k) ≡ true = ap (λ (y : Entry). y.who == k) first ∙ eq-eqb k k refl in
    ap (λ b. length (if b then x.act ∷ acts_of k xs else acts_of k xs)) who ∙ ap suc (calls_are_all k acts xs ys rest)

pub jobs_are_all : (k : ℕ) (acts : List JobAct) (xs ys : List JobEntry) → xs ++ ys ≡ job_entries_by k acts
    → length (job_acts_of k xs) ≡ length xs
unfolding job_acts_of
jobs_are_all k acts [] ys e = refl
jobs_are_all k [] (x ∷ xs) ys e = cc
jobs_are_all k (act ∷ acts) (x ∷ xs) ys e =
    let rest : xs ++ ys ≡ job_entries_by k acts = cc in
    let first : x ≡ record { who = k; act = act } = cc in
    let who : (x.who == k) ≡ true = ap (λ (y : JobEntry). y.who == k) first ∙ eq-eqb k k refl in
    ap (λ b. length (if b then x.act ∷ job_acts_of k xs else job_acts_of k xs)) who ∙ ap suc (jobs_are_all k acts xs ys rest)
