-- Counts that go on by one.
use Rattle.std.proofs.Common.{◌≡◌, ℕ, zero, suc, ◌+◌, ◌<◌, length, List, [], ◌∷◌, map, Option, refl, sym, ap, subst, ◌∙◌, arith}
use Rattle.std.specs.List.{fold, range_with_len}
use Rattle.std.proofs.lemmas.List.Sums.{fold-append}
use Rattle.channel_model.specs.declared.acts.Fate.{Fate}
use Rattle.job_model.specs.declared.acts.JobAct.{JobAct}
use Rattle.script_reader.specs.declared.script.Channel.{Channel}
use Rattle.script_reader.specs.Programs.{declared_of}
use Rattle.run_report.specs.declared.counts.ElementCounts.{ElementCounts}
use Rattle.run_report.specs.declared.job_facts.JobFacts.{JobFacts}
use Rattle.run_report.specs.JobFacts.{facts_at, job_facts_of}
use Rattle.run_report.specs.Summaries.{jobs_counted, no_jobs, with_channels, with_places, with_row}
use Rattle.run_report.specs.Counted.{rows_counted, with_row_by}
use Rattle.run_report.proofs.Lines.{range_with_len-more}

fold-range_more : {B : Type 0} (f : B → ℕ → B) (a : B) (n : ℕ) → fold f a (range_with_len 0 (n + 1)) ≡ f (fold f a (range_with_len 0 n)) n
fold-range_more f a n = ap (fold f a) (range_with_len-more n) ∙ fold-append f a (range_with_len 0 n) (n ∷ [])

-- with one more
pub one_more : {B : Type 0} (f : B → ℕ → B) (a before new : B) (n : ℕ) → before ≡ fold f a (range_with_len 0 n) → new ≡ f before n
    → new ≡ fold f a (range_with_len 0 (n + 1))
one_more f a before new n b e = e ∙ ap (λ x. f x n) b ∙ sym (fold-range_more f a n)

-- with the elements of one more channel
pub channels_counted : (elements : ℕ → ℕ → Option (ℕ × Fate)) (c : ℕ) (n new all : ElementCounts) (channel : Channel)
    (rest more : List Channel)
    → channel ∷ more ≡ rest
    → new ≡ with_places elements c n channel.places
    → with_channels elements c n (map declared_of rest) ≡ all
    → with_channels elements (c + 1) new (map declared_of more) ≡ all
channels_counted elements c n new all channel rest more r e h =
    ap (λ m. with_channels elements (c + 1) m (map declared_of more)) e ∙ ap (λ l. with_channels elements c n (map declared_of l)) r ∙ h

-- what is counted by the same steps
fold-range_same : {B : Type 0} (f g : B → ℕ → B) (a : B) (n : ℕ) → ((b : B) (r : ℕ) → r < n → f b r ≡ g b r)
    → fold f a (range_with_len 0 n) ≡ fold g a (range_with_len 0 n)
fold-range_same f g a zero h = refl
fold-range_same f g a (suc n) h =
    let m : n + 1 ≡ suc n = omega arith in
    subst (λ k. fold f a (range_with_len 0 k) ≡ fold g a (range_with_len 0 k)) m
    (fold-range_more f a n
    ∙ ap (λ b. f b n) (fold-range_same f g a n (λ b r k. h b r (omega (arith, k))))
    ∙ h (fold g a (range_with_len 0 n)) n (omega arith)
    ∙ sym (fold-range_more g a n))

-- what is counted of a row is what the acts say of it
pub rows_counted-said : (n : ℕ) (table : List JobFacts) (acts : List JobAct) → length table ≡ n
    → ((r : ℕ) → r < n → facts_at table r ≡ job_facts_of r acts) → rows_counted table (length table) ≡ jobs_counted acts n
rows_counted-said n table acts e h =
    ap (rows_counted table) e
    ∙ fold-range_same (λ m r. with_row_by m r (facts_at table r)) (with_row acts) no_jobs n (λ b r k. ap (with_row_by b r) (h r k))
