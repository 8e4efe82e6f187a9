-- In a legal history a wait is resolved at one place at most, or withdrawn.
use Rattle.std.specs.Prelude.{◌≡◌, ℕ, ◌+◌, ◌≤◌, true, List, [], ◌∷◌, ◌++◌, Option, Some, None, refl, ◌⊎◌}
use Rattle.std.specs.List.{list_any}
use Rattle.std.proofs.Common.{sym, ap, ◌∙◌, arith, inl, inr, ⊎_elim}
use Rattle.co_base.specs.declared.names.WaitId.{WaitId}
use Rattle.channel_model.specs.declared.acts.Act.{Act}
use Rattle.channel_model.specs.declared.acts.Act.TheVariants.{Admit}
use Rattle.channel_model.specs.Channels.{Shape, State, start}
use Rattle.channel_model.specs.Effects.{after}
use Rattle.channel_model.specs.Needs.{Needs}
use Rattle.channel_model.specs.Fates.{admits, withdraws, wait_at, places_wait, resolves_at}
use Rattle.channel_model.specs.Laws.{AllStandOpen, how_many, resolves}
use Rattle.channel_model.proofs.OpenWaits.{after_open, start_open}
use Rattle.channel_model.proofs.Causes.{resolved_before}
use Rattle.channel_model.proofs.Resolutions.{resolved_stays, Turns, resolves_turns, always_keeps}
use Rattle.channel_model.specs.Answers.{IsResolvedWait}
use Rattle.channel_fates.proofs.Appended.{any_kept, any_last, any_cases, any_count, found, first_kept}
use Rattle.channel_fates.proofs.OncePlaced.{enters, awaits, Counted, counted_after, start_counted}
use Rattle.channel_fates.proofs.StandsByActs.{puts, enters_count, AllKnown, known_after, start_known, here}
use Rattle.channel_fates.proofs.Chosen.{Chosen, Source, Unheld, is_this, resolver, source_of, withdraws_only, withdrawn_now, this_place, resolver_given, wait_before, put_alone}

-- what the acts say of the channels
pub record Told (acts : List Act) (s : State) : Type 0 where
  pub stand : AllStandOpen s
  pub counted : (c p : ℕ) → Counted c p acts (s.channels c)
  pub known : AllKnown acts s

pub told_after : (shape : Shape) (acts : List Act) (s : State) (who : ℕ) (act : Act) → Needs shape s who act → Told acts s
    → Told (acts ++ act ∷ []) (after s who act)
told_after shape acts s who act n h = record {
  stand = after_open s who act h.stand;
  counted = counted_after shape acts s who act n h.counted;
  known = known_after shape acts s who act n h.counted h.known;
}

pub start_told : Told [] start
start_told = record { stand = start_open; counted = start_counted; known = start_known }

admits_resolve : (c p : ℕ) (act : Act) → admits c p act ≡ true → resolver c p act ≡ true
admits_resolve c p (Admit d q) e = e
admits_resolve c p other e = cc

pub admitted_resolved : (c p : ℕ) (acts : List Act) → list_any (admits c p) acts ≡ true → list_any (resolver c p) acts ≡ true
admitted_resolved c p acts e = let f = found (admits c p) acts e in f.2 (resolver c p) (admits_resolve c p f.0 f.1)

-- the act resolves the wait, at this place
abbrev Now : State → Act → ℕ → ℕ → WaitId → Type 0
Now s act c p w = (resolves s act ≡ Some w) × (resolves_at act ≡ Some (c, p))

unheld_before : (acts : List Act) (act : Act) (s : State) (c p : ℕ) (w : WaitId) → Counted c p acts (s.channels c)
    → how_many (enters c p) (acts ++ act ∷ []) + how_many (awaits c p) (acts ++ act ∷ []) ≤ 1
    → wait_at c p (acts ++ act ∷ []) ≡ Some w → Unheld acts (c, p) → Chosen acts c p w
unheld_before acts act s c p w h g e u =
    ⊎_elim
    (λ k. let a = any_count (puts c p) acts k in let b = enters_count c p acts
    in absurd (put_alone c p acts (s.channels c) w h k (wait_before c p acts act w (omega arith) g e)))
    (λ k. let r = admitted_resolved c p acts k in (wait_before c p acts act w (resolver_given c p acts (s.channels c) h r) g e, r))
    u

chosen_cases : (shape : Shape) (acts : List Act) (s : State) (who : ℕ) (act : Act) → Needs shape s who act → Told acts s
    → (c p : ℕ) (w : WaitId) → Chosen (acts ++ act ∷ []) c p w → Chosen acts c p w ⊎ Now s act c p w
chosen_cases shape acts s who act n t c p w h =
    ⊎_elim
    (λ old. inl (wait_before c p acts act w (resolver_given c p acts (s.channels c) (t.counted c p) old) g h.0, old))
    (λ new. let x = this_place c p (resolves_at act) new in by_source x (source_of shape acts s who act n t.known (c, p) x))
    (any_cases (resolver c p) acts act h.1)
  where
    g : how_many (enters c p) (acts ++ act ∷ []) + how_many (awaits c p) (acts ++ act ∷ []) ≤ 1
    g = (counted_after shape acts s who act n t.counted c p).given

    by_source : resolves_at act ≡ Some (c, p) → Source acts (resolves s act) (c, p) → Chosen acts c p w ⊎ Now s act c p w
    by_source x r =
        ⊎_elim
        (λ u. inl (unheld_before acts act s c p w (t.counted c p) g h.0 u.1))
        (λ k. let m = first_kept (places_wait c p) acts (act ∷ []) k.0 k.2 in let same : k.0 ≡ w = cc
        in inr (k.1 ∙ ap (λ u. Some u) same, x))
        r

withdrawn_cases : (acts : List Act) (s : State) (act : Act) (w : WaitId) → list_any (withdraws w) (acts ++ act ∷ []) ≡ true
    → (list_any (withdraws w) acts ≡ true) ⊎ ((resolves s act ≡ Some w) × (resolves_at act ≡ None))
withdrawn_cases acts s act w e = ⊎_elim (λ k. inl k) (λ k. inr (withdrawn_now s act w k)) (any_cases (withdraws w) acts act e)

same_pair : (c p d q : ℕ) → ◌≡◌ {A = Option (ℕ × ℕ)} (Some (c, p)) (Some (d, q)) → (c ≡ d) × (p ≡ q)
same_pair c p d q e = let k : ◌≡◌ {A = ℕ × ℕ} (c, p) (d, q) = cc in (ap (λ (x : ℕ × ℕ). x.0) k, ap (λ (x : ℕ × ℕ). x.1) k)

-- where each wait was resolved
pub record ChosenOnce (acts : List Act) (s : State) : Type 0 where
  pub resolved : (c p : ℕ) (w : WaitId) → Chosen acts c p w → IsResolvedWait (s.waits w)
  pub withdrawn : (w : WaitId) → list_any (withdraws w) acts ≡ true → IsResolvedWait (s.waits w)
  pub one : (c p d q : ℕ) (w : WaitId) → Chosen acts c p w → Chosen acts d q w → (c ≡ d) × (p ≡ q)
  pub apart : (c p : ℕ) (w : WaitId) → Chosen acts c p w → list_any (withdraws w) acts ≡ true → ⊥
  pub known : (w : WaitId) → IsResolvedWait (s.waits w) → (list_any (withdraws w) acts ≡ true) ⊎ ((c : ℕ) × (p : ℕ) × Chosen acts c p w)

module _ (shape : Shape) (acts : List Act) (s : State) (who : ℕ) (act : Act) (n : Needs shape s who act) (t : Told acts s)
    (h : ChosenOnce acts s) where
  turns : (w : WaitId) → resolves s act ≡ Some w → Turns IsResolvedWait w s.waits (after s who act).waits
  turns w e = resolves_turns shape s who act t.stand n w e

  stays : (w : WaitId) → IsResolvedWait (s.waits w) → IsResolvedWait ((after s who act).waits w)
  stays w k = always_keeps shape IsResolvedWait resolved_stays who w s act n k

  cases : (c p : ℕ) (w : WaitId) → Chosen (acts ++ act ∷ []) c p w → Chosen acts c p w ⊎ Now s act c p w
  cases = chosen_cases shape acts s who act n t

  resolved_after : (c p : ℕ) (w : WaitId) → Chosen (acts ++ act ∷ []) c p w → IsResolvedWait ((after s who act).waits w)
  resolved_after c p w k = ⊎_elim (λ old. stays w (h.resolved c p w old)) (λ new. (turns w new.0).now) (cases c p w k)

  withdrawn_after : (w : WaitId) → list_any (withdraws w) (acts ++ act ∷ []) ≡ true → IsResolvedWait ((after s who act).waits w)
  withdrawn_after w k = ⊎_elim (λ old. stays w (h.withdrawn w old)) (λ new. (turns w new.0).now) (withdrawn_cases acts s act w k)

  one_after : (c p d q : ℕ) (w : WaitId) → Chosen (acts ++ act ∷ []) c p w → Chosen (acts ++ act ∷ []) d q w → (c ≡ d) × (p ≡ q)
  one_after c p d q w k m =
      ⊎_elim
      (λ old. ⊎_elim (λ older. h.one c p d q w old older) (λ new. absurd ((turns w new.0).before (h.resolved c p w old))) (cases d q w m))
      (λ new. ⊎_elim (λ old. absurd ((turns w new.0).before (h.resolved d q w old))) (λ now. same_pair c p d q (sym new.1 ∙ now.1))
      (cases d q w m))
      (cases c p w k)

  apart_after : (c p : ℕ) (w : WaitId) → Chosen (acts ++ act ∷ []) c p w → list_any (withdraws w) (acts ++ act ∷ []) ≡ true → ⊥
  apart_after c p w k m =
      ⊎_elim
      (λ old. ⊎_elim (λ older. h.apart c p w old older) (λ new. (turns w new.0).before (h.resolved c p w old))
      (withdrawn_cases acts s act w m))
      (λ new. ⊎_elim (λ old. (turns w new.0).before (h.withdrawn w old)) (λ now. let e = new.1 in let f = now.1
      in cc) (withdrawn_cases acts s act w m))
      (cases c p w k)

  chosen_more : (c p : ℕ) (w : WaitId) → Chosen acts c p w → Chosen (acts ++ act ∷ []) c p w
  chosen_more c p w k = (first_kept (places_wait c p) acts (act ∷ []) w k.0, any_kept (resolver c p) acts (act ∷ []) k.1)

  known_now : (w : WaitId) (o : Option (ℕ × ℕ)) → resolves_at act ≡ o → resolves s act ≡ Some w
      → (list_any (withdraws w) (acts ++ act ∷ []) ≡ true) ⊎ ((c : ℕ) × (p : ℕ) × Chosen (acts ++ act ∷ []) c p w)
  known_now w None e r = inl (any_last (withdraws w) acts act (withdraws_only s act w e r))
  known_now w (Some x) e r =
      ⊎_elim
      (λ u. let f = u.0 in cc)
      (λ k. let same : k.0 ≡ w = (let f = k.1 in cc) in
      inr (
        x.0,
        x.1,
        (
          first_kept (places_wait x.0 x.1) acts (act ∷ []) w (k.2 ∙ ap (λ u. Some u) same),
          any_last (resolver x.0 x.1) acts act (ap (is_this x.0 x.1) e ∙ here x.0 x.1),
        ),
      ))
      (source_of shape acts s who act n t.known x e)

  known_resolved : (w : WaitId) → IsResolvedWait ((after s who act).waits w) → (list_any (withdraws w) (acts ++ act ∷ []) ≡ true)
      ⊎ ((c : ℕ) × (p : ℕ) × Chosen (acts ++ act ∷ []) c p w)
  known_resolved w k =
      ⊎_elim
      (λ old. ⊎_elim (λ e. inl (any_kept (withdraws w) acts (act ∷ []) e)) (λ x. inr (x.0, x.1, chosen_more x.0 x.1 w x.2)) (h.known w old))
      (λ new. known_now w (resolves_at act) refl new)
      (resolved_before s who act w k)

  pub chosen_after : ChosenOnce (acts ++ act ∷ []) (after s who act)
  chosen_after = record {
    resolved = resolved_after;
    withdrawn = withdrawn_after;
    one = one_after;
    apart = apart_after;
    known =
        known_resolved;
  }

pub start_chosen : ChosenOnce [] start
start_chosen = record {
  resolved = λ c p w k. let e = k.0 in cc;
  withdrawn = λ w e. cc;
  one = λ c p d q w k m. let e = k.0 in cc;
  apart = λ c p w k e. cc;
  known = λ w h. absurd h;
}
