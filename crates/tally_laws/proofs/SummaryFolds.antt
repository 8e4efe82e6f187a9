-- The folds of the summary, as sums over the places of the declared channels.
use Rattle.std.specs.Prelude.{◌≡◌, ℕ, zero, suc, ◌+◌, ◌==◌, ◌&&◌, cond, List, [], ◌∷◌, ◌++◌, length, map, Option, Some, None, refl, is_some}
use Rattle.std.specs.List.{fold, range_with_len}
use Rattle.std.proofs.Common.{sym, ap, ◌∙◌, arith}
use lib.Chars.{codes}
use Rattle.channel_model.specs.declared.acts.Act.{Act}
use Rattle.channel_model.specs.declared.acts.Entry.{Entry}
use Rattle.channel_model.specs.declared.acts.Fate.{Fate}
use Rattle.channel_model.specs.declared.acts.Fate.TheVariants as fate
use Rattle.channel_model.specs.Channels.{Shape, places_at}
use Rattle.channel_model.specs.Fates.{element_at, fate_at}
use Rattle.channel_model.specs.Histories.{replay, acts_in}
use Rattle.job_model.specs.declared.acts.JobEntry.{JobEntry}
use Rattle.note_book.specs.declared.book.Item.{Item}
use Rattle.script_grammar.specs.Programs.{Declared, Program}
use Rattle.script_grammar.specs.Tags.{job_count}
use Rattle.script_meaning.specs.Books.{BooksOf}
use Rattle.run_report.specs.Elements.{channel_acts_noted, element_of, with_fate}
use Rattle.run_report.specs.Jobs.{end_noted, job_acts_noted}
use Rattle.run_report.specs.Summaries.{no_elements, with_place, with_places, with_channels, jobs_counted, job_counts_text, element_counts_text, result_text, summary_text}
use Rattle.tally_laws.specs.Counts.{Counts}
use Rattle.tally_laws.specs.Elements.{number_of, has_fate, places_where, AreFatesOf}
use Rattle.tally_laws.specs.Settlings.{ResolvedAreSettled}
use Rattle.tally_laws.specs.Sums.{sum_below}
use Rattle.tally_laws.specs.Tallies.{tallied}
use Rattle.tally_laws.proofs.Summed.{sum_same}
use Rattle.tally_laws.proofs.Summing.{sum_first}
use Rattle.tally_laws.proofs.Tallied.{run_tallied}
use Rattle.tally_laws.specs.TallyTexts.{numbers_text, tally_text, line_of_tallies}

-- one for a place that has an element of this fate
abbrev fated : Fate → Option (ℕ × Fate) → ℕ
fated g None = 0
fated g (Some x) = cond (number_of x.1 == number_of g) 1 0

-- the channels of these declarations
abbrev shape_in : List Declared → Shape
shape_in channels = map (λ c. (c.kind, c.places)) channels

places_field : (field : _ → ℕ) (g : Fate) → ((n : _) (x : Option (ℕ × Fate)) → field (with_place n x) ≡ field n + fated g x)
    → (e : ℕ → Option (ℕ × Fate)) (n : _) (i k : ℕ)
    → field (fold (λ m p. with_place m (e p)) n (range_with_len i k)) ≡ field n + sum_below (λ p. fated g (e (i + p))) k
places_field field g step e n i zero = omega arith
places_field field g step e n i (suc k) =
    let a = places_field field g step e (with_place n (e i)) (i + 1) k in
    let b = step n (e i) in
    let c = sum_first (λ p. fated g (e (i + p))) k in
    let z : i + 0 ≡ i = omega arith in
    let d : ◌≡◌ {A = ℕ} (fated g (e (i + 0))) (fated g (e i)) = ap {B = ℕ} (λ p. fated g (e p)) z in
    let f = sum_same (λ p. fated g (e (i + 1 + p))) (λ p. fated g (e (i + suc p))) k (λ p l. let q : i + 1 + p ≡ i + suc p = omega arith
    in ap {B = ℕ} (λ x. fated g (e x)) q) in
    omega arith

channels_field : (field : _ → ℕ) (g : Fate) → ((n : _) (x : Option (ℕ × Fate)) → field (with_place n x) ≡ field n + fated g x)
    → (e : ℕ → ℕ → Option (ℕ × Fate)) (c : ℕ) (n : _) (channels : List Declared)
    → field (with_channels e c n channels) ≡ field n + sum_below
    (λ d. sum_below (λ p. fated g (e (c + d) p)) (places_at (shape_in channels) d)) (length (shape_in channels))
channels_field field g step e c n [] = omega arith
channels_field field g step e c n (x ∷ channels) =
    let a = channels_field field g step e (c + 1) (with_places e c n x.places) channels in
    let b = places_field field g step (e c) n 0 x.places in
    let h = sum_first (λ d. sum_below (λ p. fated g (e (c + d) p)) (places_at (shape_in (x ∷ channels)) d)) (length (shape_in channels)) in
    let i = sum_same (λ p. fated g (e c (0 + p))) (λ p. fated g (e (c + 0) p)) x.places (λ p l. let q : c ≡ c + 0 = omega arith
    in let r : 0 + p ≡ p = omega arith in ap {B = ℕ} (λ y. fated g (e c y)) r ∙ ap {B = ℕ} (λ y. fated g (e y p)) q) in
    let j = sum_same (λ d. sum_below (λ p. fated g (e (c + 1 + d) p)) (places_at (shape_in channels) d))
    (λ d. sum_below (λ p. fated g (e (c + suc d) p)) (places_at (shape_in channels) d)) (length (shape_in channels))
    (λ d l. let q : c + 1 + d ≡ c + suc d = omega arith in
    ap {B = ℕ} (λ y. sum_below (λ p. fated g (e y p)) (places_at (shape_in channels) d)) q) in
    omega arith

received_step : (n : _) (x : Option (ℕ × Fate)) → (with_place n x).received ≡ n.received + fated fate.Received x
received_step n (Some (v, fate.Received)) = refl
received_step n other = omega arith

undelivered_step : (n : _) (x : Option (ℕ × Fate)) → (with_place n x).undelivered ≡ n.undelivered + fated fate.Undelivered x
undelivered_step n (Some (v, fate.Undelivered)) = refl
undelivered_step n other = omega arith

dropped_step : (n : _) (x : Option (ℕ × Fate)) → (with_place n x).dropped ≡ n.dropped + fated fate.Dropped x
dropped_step n (Some (v, fate.Dropped)) = refl
dropped_step n other = omega arith

spurned_step : (n : _) (x : Option (ℕ × Fate)) → (with_place n x).spurned ≡ n.spurned + fated fate.Spurned x
spurned_step n (Some (v, fate.Spurned)) = refl
spurned_step n other = omega arith

withdrawn_step : (n : _) (x : Option (ℕ × Fate)) → (with_place n x).withdrawn ≡ n.withdrawn + fated fate.Withdrawn x
withdrawn_step n (Some (v, fate.Withdrawn)) = refl
withdrawn_step n other = omega arith

held_step : (n : _) (x : Option (ℕ × Fate)) → (with_place n x).held ≡ n.held + fated fate.Held x
held_step n (Some (v, fate.Held)) = refl
held_step n other = omega arith

-- ---- the elements of all acts

fated_here : (g : Fate) (o : Option ℕ) (f : Fate) → fated g (with_fate o f) ≡ cond (is_some o && (number_of f == number_of g)) 1 0
fated_here g None f = refl
fated_here g (Some v) f = refl

-- the sum of the elements of one fate, those of these acts
fate_sum : (g : Fate) (acts : List Act) (e : ℕ → ℕ → Option (ℕ × Fate)) (channels : List Declared)
    → ((c p : ℕ) → element_of acts c p ≡ e c p)
    → sum_below (λ d. sum_below (λ p. fated g (e (0 + d) p)) (places_at (shape_in channels) d)) (length (shape_in channels)) ≡
    places_where (shape_in channels) (has_fate g acts)
fate_sum g acts e channels same =
    sum_same (λ d. sum_below (λ p. fated g (e (0 + d) p)) (places_at (shape_in channels) d))
    (λ c. sum_below (λ p. cond (has_fate g acts c p) 1 0) (places_at (shape_in channels) c)) (length (shape_in channels))
    (λ d l. sum_same (λ p. fated g (e (0 + d) p)) (λ p. cond (has_fate g acts d p) 1 0) (places_at (shape_in channels) d)
    (λ p m. let q : 0 + d ≡ d = omega arith in ap {B = ℕ} (λ y. fated g (e y p)) q
    ∙ (ap {B = ℕ} (fated g) (sym (same d p)) ∙ fated_here g (element_at d p acts) (fate_at d p acts))))

-- the same numbers give the same text
same_text : (v a b c d e f a' b' c' d' e' f' : ℕ) → a ≡ a' → b ≡ b' → c ≡ c' → d ≡ d' → e ≡ e' → f ≡ f'
    → numbers_text v a b c d e f ≡ numbers_text v a' b' c' d' e' f'
same_text v a b c d e f a' b' c' d' e' f' p q r s t u =
    ap (λ i. numbers_text v i b c d e f) p
    ∙ (ap (λ i. numbers_text v a' i c d e f) q
    ∙ (ap (λ i. numbers_text v a' b' i d e f) r
    ∙ (ap (λ i. numbers_text v a' b' c' i e f) s
    ∙ (ap (λ i. numbers_text v a' b' c' d' i f) t
    ∙ ap (λ i. numbers_text v a' b' c' d' e' i) u))))

-- what the folds give where this became of so many elements
elements_counted : (version : ℕ) (channels : List Declared) (acts : List Act) (e : ℕ → ℕ → Option (ℕ × Fate)) (n : Counts)
    → ((c p : ℕ) → element_of acts c p ≡ e c p) → AreFatesOf (shape_in channels) acts n
    → element_counts_text version (with_channels e 0 no_elements channels) ≡ tally_text version n
elements_counted version channels acts e n same f =
    same_text version _ _ _ _ _ _ _ _ _ _ _ _
    (let a = channels_field (λ x. x.received) fate.Received received_step e 0 no_elements channels
    in let b = fate_sum fate.Received acts e channels same in let c = f.received in omega arith)
    (let a = channels_field (λ x. x.undelivered) fate.Undelivered undelivered_step e 0 no_elements channels
    in let b = fate_sum fate.Undelivered acts e channels same in let c = f.undelivered in omega arith)
    (let a = channels_field (λ x. x.dropped) fate.Dropped dropped_step e 0 no_elements channels
    in let b = fate_sum fate.Dropped acts e channels same in let c = f.dropped in omega arith)
    (let a = channels_field (λ x. x.spurned) fate.Spurned spurned_step e 0 no_elements channels
    in let b = fate_sum fate.Spurned acts e channels same in let c = f.spurned in omega arith)
    (let a = channels_field (λ x. x.withdrawn) fate.Withdrawn withdrawn_step e 0 no_elements channels
    in let b = fate_sum fate.Withdrawn acts e channels same in let c = f.withdrawn in omega arith)
    (let a = channels_field (λ x. x.held) fate.Held held_step e 0 no_elements channels in let b = fate_sum fate.Held acts e channels same
    in let c = f.held in omega arith)

pub summary_tallied : (p : Program) (books : List (List Item)) (channels : List Entry) (jobs : List JobEntry)
    → BooksOf p books channels jobs → ResolvedAreSettled (replay channels)
    → ((c q : ℕ) → element_of (acts_in channels) c q ≡ element_of (channel_acts_noted books) c q)
    → summary_text p books ≡ line_of_tallies p.version (job_counts_text (jobs_counted (job_acts_noted books) (job_count p))) (tallied books)
    (end_noted 0 (job_acts_noted books))
summary_tallied p books channels jobs of rest same =
    ap (λ t. job_counts_text (jobs_counted (job_acts_noted books) (job_count p)) ++ t ++ codes "result "
    ++ result_text (end_noted 0 (job_acts_noted books)) ++ codes "\n")
    (elements_counted p.version p.channels (acts_in channels) (element_of (channel_acts_noted books)) (tallied books) same
    (run_tallied p books channels jobs of rest))
