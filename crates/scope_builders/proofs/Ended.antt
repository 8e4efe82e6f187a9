-- Which Jobs have ended, and which done channels are closed, where nobody else makes entries.
use Rattle.std.specs.Prelude.{◌≡◌, ℕ, ◌==◌, Bool, true, false, ◌||◌, List, [], ◌∷◌, ◌++◌, map, Option, Some, None, if◌then◌else◌, refl}
use Rattle.std.specs.List.{list_any}
use Rattle.std.proofs.Common.{sym, ap, ◌∙◌, subst}
use Rattle.std.proofs.lemmas.List.Folds.{list_any-append}
use Rattle.channel_model.specs.declared.acts.Act.TheVariants.{Close, WakeClosed}
use Rattle.channel_model.specs.declared.acts.Entry.{Entry}
use Rattle.channel_model.specs.declared.standing.Receiver.{Receiver}
use Rattle.channel_model.specs.declared.standing.Resolution.{Resolution}
use Rattle.channel_model.specs.Channels.{State}
use Rattle.channel_model.specs.Effects.{after, resolve_first}
use Rattle.channel_model.specs.Histories.{replay as replay_channels, replay_from as channels_from}
use Rattle.channel_model.specs.Floors.{entries_by as channel_entries}
use Rattle.channel_model.specs.Channels.{start as channels_start}
use Rattle.channel_model.proofs.Histories.{replay_from-append as channels-append}
use Rattle.job_model.specs.declared.acts.End.{End}
use Rattle.job_model.specs.declared.acts.JobAct.{JobAct}
use Rattle.job_model.specs.declared.acts.JobAct.TheVariants.{Finish}
use Rattle.job_model.specs.declared.acts.JobEntry.{JobEntry}
use Rattle.job_model.specs.Trees.{Shape, Job}
use Rattle.job_model.specs.Acts.{finishes}
use Rattle.job_model.specs.Needs.{MayFinish}
use Rattle.job_model.specs.Histories.{replay, Legal}
use Rattle.job_model.specs.Laws.{has, has_ended}
use Rattle.job_model.specs.Floors.{entries_by}
use Rattle.job_model.proofs.Histories.{Legal-append, Legal-prefix, LegalFrom-cons}
use Rattle.job_model.proofs.RowMarks.{live_before}
use Rattle.job_model.proofs.Ends.{by_entries}

pub or_nothing : (b : Bool) → (b || false) ≡ b
or_nothing true = refl
or_nothing false = refl

-- ---- Jobs

has-append : (acts : ℕ → JobAct → Bool) (r : ℕ) (xs ys : List JobEntry) → has acts r (xs ++ ys) ≡ (has acts r xs || has acts r ys)
has-append acts r xs ys = list_any-append (λ e. acts r e.act) xs ys

has-entries : (acts : ℕ → JobAct → Bool) (r who : ℕ) (made : List JobAct) → has acts r (entries_by who made) ≡ list_any (acts r) made
has-entries acts r who [] = refl
has-entries acts r who (x ∷ xs) = ap (λ b. acts r x || b) (has-entries acts r who xs)

-- what ended in a history is what its entries finished
ended-append : (shape : Shape) (xs es : List JobEntry) (r : ℕ) → Legal shape (xs ++ es)
    → has_ended (replay (xs ++ es) r) ≡ (has_ended (replay xs r) || has finishes r es)
ended-append shape xs es r l =
    (by_entries shape (xs ++ es) r l).ended ∙ has-append finishes r xs es
    ∙ ap (λ b. b || has finishes r es) (sym (by_entries shape xs r (Legal-prefix shape xs es l)).ended)

-- a row has ended where it had, or where one of these acts ends it
pub ended_after : (shape : Shape) (who : ℕ) (acts : List JobAct) (xs ys : List JobEntry) (r : ℕ) → Legal shape ys → ys ≡ xs
    ++ entries_by who acts → has_ended (replay ys r) ≡ (has_ended (replay xs r) || list_any (finishes r) acts)
ended_after shape who acts xs ys r l e =
    ap (λ (es : List JobEntry). has_ended (replay es r)) e ∙ ended-append shape xs (entries_by who acts) r (subst (Legal shape) e l)
    ∙ ap (λ b. has_ended (replay xs r) || b) (has-entries finishes r who acts)

may_finish_live : (end : End) (x : Option Job) → MayFinish end x → has_ended x ≡ false
may_finish_live end None m = absurd m
may_finish_live end (Some j) m = live_before j.state j end m.2

-- a Job that is ended now had not ended
pub live_till_now : (shape : Shape) (who row : ℕ) (end : End) (told : List JobAct) (xs ys : List JobEntry) → Legal shape ys → ys ≡ xs
    ++ entries_by who (Finish row end ∷ told) → has_ended (replay xs row) ≡ false
live_till_now shape who row end told xs ys l e =
    let entry : JobEntry = record { who = who; act = Finish row end } in
    may_finish_live end (replay xs row) (LegalFrom-cons shape (replay xs) entry (entries_by who told)
    ((Legal-append shape xs (entry ∷ entries_by who told)).0 (subst (Legal shape) e l)).1).0

-- ---- channels

first_keeps : (d : ℕ) (rs : List Receiver) (how : ℕ → Resolution) (s : State)
    → ((resolve_first rs how s).channels d).closed ≡ (s.channels d).closed
first_keeps d [] how s = refl
first_keeps d (r ∷ rs) how s = refl

wakes_from : (who c d : ℕ) (places : List ℕ) (s : State)
    → ((channels_from s (channel_entries who (map (λ q. WakeClosed c q) places))).channels d).closed ≡ (s.channels d).closed
unfolding channels_from
wakes_from who c d [] s = refl
wakes_from who c d (q ∷ qs) s = wakes_from who c d qs (after s who (WakeClosed c q)) ∙ first_keeps d (s.channels c).receivers _ s

-- whoever is woken, no channel is closed by it
pub closed_woken : (who c d : ℕ) (places : List ℕ) (xs ys : List Entry) → ys ≡ xs ++ channel_entries who (map (λ q. WakeClosed c q) places)
    → ((replay_channels ys).channels d).closed ≡ ((replay_channels xs).channels d).closed
closed_woken who c d places xs ys e =
    ap (λ (l : List Entry). ((replay_channels l).channels d).closed) e
    ∙ ap (λ (s : State). (s.channels d).closed) (channels-append channels_start xs (channel_entries who (map (λ q. WakeClosed c q) places)))
    ∙ wakes_from who c d places (replay_channels xs)

-- a close closes no other channel
pub closed_else : (who c v d : ℕ) (places : List ℕ) (xs ys : List Entry) → ys ≡ xs
    ++ channel_entries who (Close c v ∷ map (λ q. WakeClosed c q) places) → (c == d) ≡ false
    → ((replay_channels ys).channels d).closed ≡ ((replay_channels xs).channels d).closed
unfolding channels_from
closed_else who c v d places xs ys e apart =
    ap (λ (l : List Entry). ((replay_channels l).channels d).closed) e
    ∙ ap (λ (s : State). (s.channels d).closed) (channels-append channels_start xs
    (channel_entries who (Close c v ∷ map (λ q. WakeClosed c q) places)))
    ∙ wakes_from who c d places (after (replay_channels xs) who (Close c v))
    ∙ ap (λ b. (if b then record ((replay_channels xs).channels c) { closed = Some v } else (replay_channels xs).channels d).closed) apart
