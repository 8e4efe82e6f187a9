-- Lines that are written one after the other.
use Rattle.std.proofs.Common.{◌≡◌, ℕ, zero, suc, ◌+◌, ◌<◌, ◌≤◌, length, List, [], ◌∷◌, ◌++◌, map, Option, refl, sym, ap, subst, ◌∙◌, arith}
use Rattle.std.specs.List.{flat_map, range_with_len}
use Rattle.std.proofs.lemmas.List.{append-nil, append_assoc, flat_map_more}
use Rattle.std.proofs.lemmas.List.FromFn.{map-range_with_len_more}
use Rattle.channel_model.specs.declared.acts.Fate.{Fate}
use Rattle.script_reader.specs.declared.script.Channel.{Channel}
use Rattle.script_reader.specs.Programs.{declared_of}
use Rattle.job_model.specs.declared.acts.JobAct.{JobAct}
use Rattle.run_report.specs.declared.job_facts.JobFacts.{JobFacts}
use Rattle.run_report.specs.Elements.{places_text, elements_text}
use Rattle.run_report.specs.Jobs.{job_line, jobs_text}
use Rattle.run_report.specs.JobFacts.{job_facts_of, facts_at, job_line_by, lines_by}

map-same : {A : Type 0} (xs : List A) → map (λ x. x) xs ≡ xs
map-same [] = refl
map-same (x ∷ xs) = ap (λ l. x ∷ l) (map-same xs)

pub range_with_len-more : (n : ℕ) → range_with_len 0 (n + 1) ≡ range_with_len 0 n ++ n ∷ []
range_with_len-more n =
    sym (map-same (range_with_len 0 (n + 1))) ∙ map-range_with_len_more (λ k. k) 0 n n (omega arith)
    ∙ ap (λ l. l ++ n ∷ []) (map-same (range_with_len 0 n))

pub flat_map-range_more : (f : ℕ → List ℕ) (n : ℕ) → flat_map f (range_with_len 0 (n + 1)) ≡ flat_map f (range_with_len 0 n) ++ f n
flat_map-range_more f n = ap (flat_map f) (range_with_len-more n) ∙ sym (flat_map_more f [] (range_with_len 0 n) n)

-- the lines of one place more
pub places_more : (f : ℕ → List ℕ) (out before new : List ℕ) (n : ℕ) → before ≡ out ++ flat_map f (range_with_len 0 n) → new ≡ before ++ f n
    → new ≡ out ++ flat_map f (range_with_len 0 (n + 1))
places_more f out before new n b e =
    e
    ∙ ap (λ l. l ++ f n) b
    ∙ append_assoc out (flat_map f (range_with_len 0 n)) (f n)
    ∙ ap (λ l. out ++ l) (sym (flat_map-range_more f n))

-- no line stands behind the last place that has one
pub places_end : (f : ℕ → List ℕ) (m k n : ℕ) → m + k ≡ n → ((p : ℕ) → m ≤ p → f p ≡ [])
    → flat_map f (range_with_len 0 n) ≡ flat_map f (range_with_len 0 m)
places_end f m zero n e h = ap (λ (j : ℕ). flat_map f (range_with_len 0 j)) (omega (arith, e))
places_end f m (suc k) n e h =
    let s : n ≡ (m + k) + 1 = omega (arith, e) in
    ap (λ (j : ℕ). flat_map f (range_with_len 0 j)) s
    ∙ flat_map-range_more f (m + k)
    ∙ ap (λ (l : List ℕ). flat_map f (range_with_len 0 (m + k)) ++ l) (h (m + k) (omega arith))
    ∙ append-nil (flat_map f (range_with_len 0 (m + k)))
    ∙ places_end f m k (m + k) refl h

-- the lines of one channel more
pub channels_more : (elements : ℕ → ℕ → Option (ℕ × Fate)) (c : ℕ) (out new all : List ℕ) (channel : Channel) (rest more : List Channel)
    → channel ∷ more ≡ rest
    → new ≡ out ++ places_text elements c (declared_of channel)
    → out ++ elements_text elements c (map declared_of rest) ≡ all
    → new ++ elements_text elements (c + 1) (map declared_of more) ≡ all
channels_more elements c out new all channel rest more r n h =
    ap (λ l. l ++ elements_text elements (c + 1) (map declared_of more)) n
    ∙ append_assoc out (places_text elements c (declared_of channel)) (elements_text elements (c + 1) (map declared_of more))
    ∙ ap (λ l. out ++ elements_text elements c (map declared_of l)) r
    ∙ h

-- ---- the lines of the rows

-- the lines of a range, where each is the same
flat_map-range : (f g : ℕ → List ℕ) (n : ℕ) → ((r : ℕ) → r < n → f r ≡ g r)
    → flat_map f (range_with_len 0 n) ≡ flat_map g (range_with_len 0 n)
flat_map-range f g zero h = refl
flat_map-range f g (suc n) h =
    let m : n + 1 ≡ suc n = omega arith in
    let Same : ℕ → Type 0 = λ k. flat_map f (range_with_len 0 k) ≡ flat_map g (range_with_len 0 k) in
    subst Same m (flat_map-range_more f n ∙ (λ i. flat_map-range f g n (λ r k. h r (omega (arith, k))) i ++ h n (omega arith) i)
    ∙ sym (flat_map-range_more g n))

-- what the lines of a row are is what the acts say of it
job_line-said : (r : ℕ) (acts : List JobAct) → job_line_by r (job_facts_of r acts) ≡ job_line r acts
job_line-said r acts = refl

-- the lines of a table that says what the acts say
pub lines_by-table : (n : ℕ) (table : List JobFacts) (acts : List JobAct) → length table ≡ n
    → ((r : ℕ) → r < n → facts_at table r ≡ job_facts_of r acts) → lines_by (length table) table ≡ jobs_text n acts
lines_by-table n table acts e h =
    ap (λ k. lines_by k table) e
    ∙ flat_map-range (λ r. job_line_by r (facts_at table r)) (λ r. job_line r acts) n (λ r k. ap (job_line_by r) (h r k)
    ∙ job_line-said r acts)
