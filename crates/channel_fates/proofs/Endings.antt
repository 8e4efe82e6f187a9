-- How waits ended, as the acts say it, and which kinds of channels had offers.
use Rattle.std.specs.Prelude.{◌≡◌, ℕ, Bool, true, false, ◌&&◌, List, [], ◌∷◌, ◌++◌, length, Option, Some, None, refl, ◌⊎◌, is_some}
use Rattle.std.specs.List.{list_any}
use Rattle.std.proofs.Common.{sym, ap, ◌∙◌, subst, arith, inl, inr, ⊎_elim}
use Rattle.std.proofs.lemmas.Bool.{and_parts}
use Rattle.co_base.specs.declared.names.WaitId.{WaitId}
use Rattle.channel_model.specs.declared.acts.Act.{Act}
use Rattle.channel_model.specs.declared.acts.Act.TheVariants.{Hand, Offer, Drop, Spurn, Settle}
use Rattle.channel_model.specs.declared.acts.Settled.{Settled}
use Rattle.channel_model.specs.declared.acts.Settled.TheVariants as settled
use Rattle.channel_model.specs.declared.acts.Kind.{Kind}
use Rattle.channel_model.specs.declared.acts.Kind.TheVariants.{Rendezvous}
use Rattle.channel_model.specs.declared.standing.Receiver.{Receiver}
use Rattle.channel_model.specs.declared.standing.Resolution.{Resolution}
use Rattle.channel_model.specs.declared.standing.Resolution.TheVariants as resolved
use Rattle.channel_model.specs.Channels.{Shape, State, Wait, same_wait, start, kind_at, suspends, drops, spurns}
use Rattle.channel_model.specs.Outcomes.{IsOutcome, value_given}
use Rattle.channel_model.specs.Effects.{after, resolve, resolve_first, resolved_wait}
use Rattle.channel_model.specs.Needs.{Needs, MaySettle}
use Rattle.channel_model.specs.Fates.{hands, drops_at, spurns_at, is_value, is_undelivered, settles_value, settles_undelivered, places_wait, wait_at, resolves_at}
use Rattle.channel_model.specs.Laws.{first_waiting, resolves, settles}
use Rattle.channel_model.proofs.Waits.{same_wait-eq, same_wait-refl, at_wait}
use Rattle.channel_model.proofs.Resolutions.{resolved_stays, settled_stays, Turns, resolves_turns, settles_turns, always_keeps}
use Rattle.channel_model.specs.Answers.{IsResolvedWait, IsSettledWait}
use Rattle.channel_fates.proofs.Appended.{any_kept, any_last, any_cases, any_count, first_kept}
use Rattle.channel_fates.proofs.OncePlaced.{enters, counted_after, at_both}
use Rattle.channel_fates.proofs.StandsByActs.{puts, offers, enters_count, handed_answered}
use Rattle.channel_model.proofs.Causes.{resolution_of, resolution_kept, settled_before}
use Rattle.channel_fates.proofs.Chosen.{Unheld, source_of, wait_before}
use Rattle.channel_fates.proofs.ChosenOnce.{Told}
use Rattle.channel_model.proofs.Apart.{how_many_push}

-- ---- settling

-- the act is the Settle of the wait
settle_of : (act : Act) (w : WaitId) → settles act ≡ Some w → (outcome : Settled) × (act ≡ Settle w outcome)
settle_of (Settle v outcome) w e = let k : v ≡ w = cc in (outcome, ap (λ u. Settle u outcome) k)
settle_of other w e = cc

value_settles : (w : WaitId) (act : Act) → settles_value w act ≡ true → settles act ≡ Some w
value_settles w (Settle v outcome) e = ap (λ u. Some u) (sym (same_wait-eq w v (and_parts (same_wait w v) (is_value outcome) e).0))
value_settles w other e = cc

undelivered_settles : (w : WaitId) (act : Act) → settles_undelivered w act ≡ true → settles act ≡ Some w
undelivered_settles w (Settle v outcome) e = ap (λ u. Some u)
    (sym (same_wait-eq w v (and_parts (same_wait w v) (is_undelivered outcome) e).0))
undelivered_settles w other e = cc

value_or_not : (outcome : Settled) → is_value outcome ≡ true → is_undelivered outcome ≡ true → ⊥
value_or_not (settled.Value k v) e f = cc
value_or_not other e f = cc

settles_one : (w : WaitId) (outcome : Settled) → settles_value w (Settle w outcome) ≡ true → settles_undelivered w (Settle w outcome) ≡ true
    → ⊥
settles_one w outcome e f = value_or_not outcome (and_parts (same_wait w w) (is_value outcome) e).1
    (and_parts (same_wait w w) (is_undelivered outcome) f).1

not_both : (w : WaitId) (act : Act) → settles_value w act ≡ true → settles_undelivered w act ≡ true → ⊥
not_both w act e f =
    let k = settle_of act w (value_settles w act e) in
    settles_one w k.0 (subst (λ a. settles_value w a ≡ true) k.1 e) (subst (λ a. settles_undelivered w a ≡ true) k.1 f)

-- ---- what a handed wait ends as

abbrev pub is_handed : Option Resolution → Bool
is_handed None = false
is_handed (Some how) = is_some (value_given how)

outcome_handed : (outcome : Settled) (how : Resolution) → IsOutcome outcome (Some how) → is_some (value_given how) ≡ true
    → (is_value outcome ≡ true) ⊎ (is_undelivered outcome ≡ true)
outcome_handed (settled.Value k v) how e h = inl refl
outcome_handed (settled.Undelivered v) how e h = inr refl
outcome_handed settled.Cancelled how e h = let f : value_given how ≡ None = e in cc
outcome_handed (settled.Closed k v) how e h = let f : how ≡ resolved.Closed k v = e
    in let g : is_some (value_given (resolved.Closed k v)) ≡ true = subst (λ x. is_some (value_given x) ≡ true) f h in cc
outcome_handed (settled.Sent k) (resolved.Handed j v) e h = cc
outcome_handed (settled.Sent k) other e h = cc

outcome_of_handed : (outcome : Settled) (how : Option Resolution) → IsOutcome outcome how → is_handed how ≡ true → (is_value outcome ≡ true)
    ⊎ (is_undelivered outcome ≡ true)
outcome_of_handed outcome None e h = cc
outcome_of_handed outcome (Some how) e h = outcome_handed outcome how e h

settle_handed : (who : ℕ) (outcome : Settled) (x : Option Wait) → MaySettle who outcome x → is_handed (resolution_of x) ≡ true
    → (is_value outcome ≡ true) ⊎ (is_undelivered outcome ≡ true)
settle_handed who outcome None n h = absurd n
settle_handed who outcome (Some x) n h = outcome_of_handed outcome x.resolved n.2 h

outcome_resolved : (outcome : Settled) (how : Option Resolution) → IsOutcome outcome how → is_some how ≡ true
outcome_resolved outcome None e = absurd e
outcome_resolved outcome (Some how) e = refl

settle_resolved : (who : ℕ) (outcome : Settled) (x : Option Wait) → MaySettle who outcome x → IsResolvedWait x
settle_resolved who outcome None n = n
settle_resolved who outcome (Some x) n = outcome_resolved outcome x.resolved n.2

pub handed_resolved : (x : Option Wait) → is_handed (resolution_of x) ≡ true → IsResolvedWait x
handed_resolved None h = cc
handed_resolved (Some x) h = by_how x.resolved h
  where
    by_how : (o : Option Resolution) → is_handed o ≡ true → is_some o ≡ true
    by_how None h = h
    by_how (Some how) h = refl

-- ---- all acts

-- how each wait ended
pub record Ended (acts : List Act) (s : State) : Type 0 where
  pub value : (w : WaitId) → list_any (settles_value w) acts ≡ true → IsSettledWait (s.waits w)
  pub undelivered : (w : WaitId) → list_any (settles_undelivered w) acts ≡ true → IsSettledWait (s.waits w)
  pub apart : (w : WaitId) → list_any (settles_value w) acts ≡ true → list_any (settles_undelivered w) acts ≡ true → ⊥
  pub resolved : (w : WaitId) → IsSettledWait (s.waits w) → IsResolvedWait (s.waits w)
  pub handed : (c p : ℕ) (w : WaitId) → list_any (hands c p) acts ≡ true → wait_at c p acts ≡ Some w
      → is_handed (resolution_of (s.waits w)) ≡ true
  pub given : (w : WaitId) → is_handed (resolution_of (s.waits w)) ≡ true → IsSettledWait (s.waits w)
      → (list_any (settles_value w) acts ≡ true) ⊎ (list_any (settles_undelivered w) acts ≡ true)

-- the act is a Hand at this place
hand_of : (c p : ℕ) (act : Act) → hands c p act ≡ true → (v : ℕ) × (act ≡ Hand c p v)
hand_of c p (Hand d q v) e = let k = at_both c p d q e in (v, ap (λ x. Hand x q v) k.0 ∙ ap (λ x. Hand c x v) k.1)
hand_of c p other e = cc

made_handed : (how : Resolution) (x : Option Wait) → IsResolvedWait (resolved_wait how x) → is_some (value_given how) ≡ true
    → is_handed (resolution_of (resolved_wait how x)) ≡ true
made_handed how None h e = absurd h
made_handed how (Some x) h e = e

first_handed : (w : WaitId) (v : ℕ) (rs : List Receiver) (s : State) → first_waiting rs ≡ Some w
    → IsResolvedWait ((resolve_first rs (λ k. resolved.Handed k v) s).waits w)
    → is_handed (resolution_of ((resolve_first rs (λ k. resolved.Handed k v) s).waits w)) ≡ true
first_handed w v [] s e h = cc
first_handed w v (r ∷ rs) s e h =
    let how = resolved.Handed r.party.clause v in
    let k : r.party.wait ≡ w = cc in
    let at : (resolve r.party.wait how s).waits w ≡ resolved_wait how (s.waits w) =
    subst (λ u. (resolve u how s).waits w ≡ resolved_wait how (s.waits w)) (sym k) (at_wait w (resolved_wait how (s.waits w)) s.waits)
    in
    subst (λ x. is_handed (resolution_of x) ≡ true) (sym at) (made_handed how (s.waits w) (subst IsResolvedWait at h) refl)

module _ (shape : Shape) (acts : List Act) (s : State) (who : ℕ) (act : Act) (n : Needs shape s who act) (t : Told acts s)
    (h : Ended acts s) where
  stays : (w : WaitId) → IsSettledWait (s.waits w) → IsSettledWait ((after s who act).waits w)
  stays w k = always_keeps shape IsSettledWait settled_stays who w s act n k

  turns : (w : WaitId) → settles act ≡ Some w → Turns IsSettledWait w s.waits (after s who act).waits
  turns w e = settles_turns shape s who act n w e

  value_after : (w : WaitId) → list_any (settles_value w) (acts ++ act ∷ []) ≡ true → IsSettledWait ((after s who act).waits w)
  value_after w e = ⊎_elim (λ old. stays w (h.value w old)) (λ new. (turns w (value_settles w act new)).now)
      (any_cases (settles_value w) acts act e)

  undelivered_after : (w : WaitId) → list_any (settles_undelivered w) (acts ++ act ∷ []) ≡ true → IsSettledWait ((after s who act).waits w)
  undelivered_after w e = ⊎_elim (λ old. stays w (h.undelivered w old)) (λ new. (turns w (undelivered_settles w act new)).now)
      (any_cases (settles_undelivered w) acts act e)

  apart_after : (w : WaitId) → list_any (settles_value w) (acts ++ act ∷ []) ≡ true
      → list_any (settles_undelivered w) (acts ++ act ∷ []) ≡ true → ⊥
  apart_after w e f =
      ⊎_elim
      (λ old. ⊎_elim (λ older. h.apart w old older) (λ new. (turns w (undelivered_settles w act new)).before (h.value w old))
      (any_cases (settles_undelivered w) acts act f))
      (λ new. ⊎_elim (λ old. (turns w (value_settles w act new)).before (h.undelivered w old)) (λ now. not_both w act new now)
      (any_cases (settles_undelivered w) acts act f))
      (any_cases (settles_value w) acts act e)

  resolved_already : (w : WaitId) → settles act ≡ Some w → IsResolvedWait (s.waits w)
  resolved_already w e =
      let k = settle_of act w e in
      settle_resolved who k.0 (s.waits w) (subst (Needs shape s who) k.1 n)

  resolved_after : (w : WaitId) → IsSettledWait ((after s who act).waits w) → IsResolvedWait ((after s who act).waits w)
  resolved_after w k =
      always_keeps shape IsResolvedWait resolved_stays who w s act n
      (⊎_elim (λ old. h.resolved w old) (λ new. resolved_already w new) (settled_before s who act w k))

  -- how the wait was resolved stays, where it was
  same_resolution : (w : WaitId) → is_handed (resolution_of (s.waits w)) ≡ true
      → is_handed (resolution_of ((after s who act).waits w)) ≡ true
  same_resolution w k =
      ⊎_elim
      (λ e. ap is_handed e ∙ k)
      (λ e. absurd ((resolves_turns shape s who act t.stand n w e).before (handed_resolved (s.waits w) k)))
      (resolution_kept s who act w)

  -- an element that was put or admitted is at no receiver's place
  never_unheld : (c p : ℕ) → hands c p act ≡ true → Unheld acts (c, p) → ⊥
  never_unheld c p e u =
      let a = handed_answered c p (acts ++ act ∷ []) (any_last (hands c p) acts act e) in
      let g = counted_after shape acts s who act n t.counted c p in
      let r = g.receivers in
      let one = g.given in
      let more = how_many_push (enters c p) acts act in
      ⊎_elim
      (λ k. let x = any_count (puts c p) acts k in let m = enters_count c p acts in omega arith)
      (λ k. let x = (t.counted c p).admitted k in omega arith)
      u

  handed_now : (c p : ℕ) (w : WaitId) → hands c p act ≡ true → wait_at c p (acts ++ act ∷ []) ≡ Some w
      → is_handed (resolution_of ((after s who act).waits w)) ≡ true
  handed_now c p w e f =
      let k = hand_of c p act e in
      ⊎_elim
      (λ u. absurd (never_unheld c p e u.1))
      (λ r.
      let g = first_kept (places_wait c p) acts (act ∷ []) r.0 r.2 in
      let same : r.0 ≡ w = cc in
      let now : IsResolvedWait ((after s who act).waits w) =
      (resolves_turns shape s who act t.stand n w (r.1 ∙ ap (λ u. Some u) same)).now in
      let first : resolves s (Hand c p k.0) ≡ Some w = ap (resolves s) (sym k.1) ∙ (r.1 ∙ ap (λ u. Some u) same) in
      subst (λ a. is_handed (resolution_of ((after s who a).waits w)) ≡ true) (sym k.1)
      (first_handed w k.0 (s.channels c).receivers s first (subst (λ a. IsResolvedWait ((after s who a).waits w)) k.1 now)))
      (source_of shape acts s who act n t.known (c, p) (ap resolves_at k.1))

  handed_after : (c p : ℕ) (w : WaitId) → list_any (hands c p) (acts ++ act ∷ []) ≡ true → wait_at c p (acts ++ act ∷ []) ≡ Some w
      → is_handed (resolution_of ((after s who act).waits w)) ≡ true
  handed_after c p w e f =
      ⊎_elim
      (λ old. same_resolution w (h.handed c p w old (wait_before c p acts act w (let a = handed_answered c p acts old
      in let g = (t.counted c p).receivers in omega arith) (counted_after shape acts s who act n t.counted c p).given f)))
      (λ new. handed_now c p w new f)
      (any_cases (hands c p) acts act e)

  given_before : (w : WaitId) → is_handed (resolution_of (s.waits w)) ≡ true → IsSettledWait ((after s who act).waits w)
      → (list_any (settles_value w) (acts ++ act ∷ []) ≡ true) ⊎ (list_any (settles_undelivered w) (acts ++ act ∷ []) ≡ true)
  given_before w k m =
      ⊎_elim
      (λ old. ⊎_elim (λ e. inl (any_kept (settles_value w) acts (act ∷ []) e))
      (λ e. inr (any_kept (settles_undelivered w) acts (act ∷ []) e)) (h.given w k old))
      (λ new.
      let o = settle_of act w new in
      ⊎_elim
      (λ e. inl (any_last (settles_value w) acts act (ap (settles_value w) o.1 ∙ (ap (λ b. b && is_value o.0) (same_wait-refl w) ∙ e))))
      (λ e. inr (any_last (settles_undelivered w) acts act (ap (settles_undelivered w) o.1
      ∙ (ap (λ b. b && is_undelivered o.0) (same_wait-refl w) ∙ e))))
      (settle_handed who o.0 (s.waits w) (subst (Needs shape s who) o.1 n) k))
      (settled_before s who act w m)

  -- a wait that the act resolves was not settled before, and is not settled by it
  fresh_unsettled : (w : WaitId) → resolves s act ≡ Some w → IsSettledWait ((after s who act).waits w) → ⊥
  fresh_unsettled w e k =
      (resolves_turns shape s who act t.stand n w e).before
      (⊎_elim (λ old. h.resolved w old) (λ new. resolved_already w new) (settled_before s who act w k))

  given_after : (w : WaitId) → is_handed (resolution_of ((after s who act).waits w)) ≡ true → IsSettledWait ((after s who act).waits w)
      → (list_any (settles_value w) (acts ++ act ∷ []) ≡ true) ⊎ (list_any (settles_undelivered w) (acts ++ act ∷ []) ≡ true)
  given_after w k m =
      ⊎_elim
      (λ e. given_before w (ap is_handed (sym e) ∙ k) m)
      (λ e. absurd (fresh_unsettled w e m))
      (resolution_kept s who act w)

  pub ended_after : Ended (acts ++ act ∷ []) (after s who act)
  ended_after = record {
    value = value_after;
    undelivered = undelivered_after;
    apart = apart_after;
    resolved = resolved_after;
    handed =
        handed_after;
    given = given_after;
  }

pub start_ended : Ended [] start
start_ended = record {
  value = λ w e. cc;
  undelivered = λ w e. cc;
  apart = λ w e f. cc;
  resolved = λ w k. absurd k;
  handed = λ c p w e f. cc;
  given = λ w e k. absurd k;
}

-- ---- kinds

-- offers came where a send may wait, and elements were dropped, or spurned, where the kind does so
pub record KindsKept (shape : Shape) (acts : List Act) : Type 0 where
  pub offered : (c p : ℕ) → list_any (offers c p) acts ≡ true → suspends (kind_at shape c) ≡ true
  pub dropped : (c p : ℕ) → list_any (drops_at c p) acts ≡ true → (n : ℕ) × (drops (kind_at shape c) n ≡ true)
  pub spurned : (c p : ℕ) → list_any (spurns_at c p) acts ≡ true → (n : ℕ) × (spurns (kind_at shape c) n ≡ true)

offer_kind : (shape : Shape) (s : State) (who : ℕ) (act : Act) (c p : ℕ) → Needs shape s who act → offers c p act ≡ true
    → suspends (kind_at shape c) ≡ true
offer_kind shape s who (Offer d q v w k) c p n e = subst (λ x. suspends (kind_at shape x) ≡ true) (at_both c p d q e).0 n.3
offer_kind shape s who other c p n e = cc

drop_kind : (shape : Shape) (s : State) (who : ℕ) (act : Act) (c p : ℕ) → Needs shape s who act → drops_at c p act ≡ true → (n : ℕ)
    × (drops (kind_at shape c) n ≡ true)
drop_kind shape s who (Drop d q v) c p n e = subst (λ x. (m : ℕ)
    × (drops (kind_at shape x) m ≡ true)) (at_both c p d q e).0 (length (s.channels d).queue, n.1)
drop_kind shape s who other c p n e = cc

spurn_kind : (shape : Shape) (s : State) (who : ℕ) (act : Act) (c p : ℕ) → Needs shape s who act → spurns_at c p act ≡ true → (n : ℕ)
    × (spurns (kind_at shape c) n ≡ true)
spurn_kind shape s who (Spurn d q v) c p n e = subst (λ x. (m : ℕ)
    × (spurns (kind_at shape x) m ≡ true)) (at_both c p d q e).0 (s.stood d q, n.1)
spurn_kind shape s who other c p n e = cc

pub kinds_after : (shape : Shape) (acts : List Act) (s : State) (who : ℕ) (act : Act) → Needs shape s who act → KindsKept shape acts
    → KindsKept shape (acts ++ act ∷ [])
kinds_after shape acts s who act n h = record {
  offered = λ c p e. ⊎_elim (λ old. h.offered c p old) (λ new. offer_kind shape s who act c p n new) (any_cases (offers c p) acts act e);
  dropped = λ c p e. ⊎_elim (λ old. h.dropped c p old) (λ new. drop_kind shape s who act c p n new) (any_cases (drops_at c p) acts act e);
  spurned = λ c p e. ⊎_elim (λ old. h.spurned c p old) (λ new. spurn_kind shape s who act c p n new) (any_cases (spurns_at c p) acts act e);
}

pub start_kinds : (shape : Shape) → KindsKept shape []
start_kinds shape = record { offered = λ c p e. cc; dropped = λ c p e. cc; spurned = λ c p e. cc }

-- no kind drops that lets a send wait
pub waits_or_drops : (kind : Kind) (n : ℕ) → suspends kind ≡ true → drops kind n ≡ true → ⊥
waits_or_drops Rendezvous n e f = cc
waits_or_drops other n e f = cc

-- nor does one spurn
pub waits_or_spurns : (kind : Kind) (n : ℕ) → suspends kind ≡ true → spurns kind n ≡ true → ⊥
waits_or_spurns Rendezvous n e f = cc
waits_or_spurns other n e f = cc
