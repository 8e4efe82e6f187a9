-- Where a caller's waits come from: only its own act begins one.
use Rattle.std.specs.Prelude.{◌≡◌, ℕ, Bool, true, false, List, [], ◌∷◌, Option, Some, None, refl, if◌then◌else◌, ◌⊎◌}
use Rattle.std.proofs.Common.{ap, subst, inl, inr, ⊎_elim}
use Rattle.co_base.specs.declared.names.WaitId.{WaitId}
use Rattle.channel_model.specs.declared.acts.Act.{Act}
use Rattle.channel_model.specs.declared.acts.Act.TheVariants.{Hand, Put, Offer, Await, Take, Admit, Drop, Spurn, Close, Void, Drain, WakeClosed, Withdraw, Settle}
use Rattle.channel_model.specs.declared.acts.Settled.{Settled}
use Rattle.channel_model.specs.declared.standing.Party.{Party}
use Rattle.channel_model.specs.declared.standing.Standing.{Standing}
use Rattle.channel_model.specs.declared.standing.Receiver.{Receiver}
use Rattle.channel_model.specs.declared.standing.Resolution.{Resolution}
use Rattle.channel_model.specs.Channels.{State, Wait, same_wait}
use Rattle.channel_model.specs.Effects.{after, resolve, resolve_first, resolve_holder, resolve_offer, remove_first, put_wait, resolved_wait, name_clause, settled_wait, holder_at}
use Rattle.channel_model.proofs.Waits.{same_wait-eq}

-- a fact of a wait that comes only with a wait that who begins
pub record ComesFrom (who : ℕ) (P : Option Wait → Type 0) : Type 0 where
  pub resolved : (how : Resolution) (x : Option Wait) → P (resolved_wait how x) → P x
  pub named : (n k c : ℕ) (x : Option Wait) → P (name_clause n k c x) → P x ⊎ (n ≡ who)
  pub settled : (outcome : Settled) (x : Option Wait) → P (settled_wait outcome x) → P x

-- the wait that the act may begin
abbrev pub begins : Act → Option WaitId
begins (Offer c p v w k) = Some w
begins (Await c p w k) = Some w
begins (Hand c p v) = None
begins other = None

-- a change of one wait that takes P from nowhere
pub change_from : (P : Option Wait → Type 0) (waits : WaitId → Option Wait) (w v : WaitId) (f : Option Wait → Option Wait)
    → ((x : Option Wait) → P (f x) → P x) → P (put_wait w (f (waits w)) waits v) → P (waits v)
change_from P waits w v f k h = by_test (same_wait w v) refl h
  where
    by_test : (b : Bool) → same_wait w v ≡ b → P (if b then f (waits w) else waits v) → P (waits v)
    by_test true e h = subst (λ u. P (waits u)) (same_wait-eq w v e) (k (waits w) h)
    by_test false e h = h

resolve_from : (who : ℕ) (P : Option Wait → Type 0) → ComesFrom who P → (v w : WaitId) (how : Resolution) (s : State)
    → P ((resolve w how s).waits v) → P (s.waits v)
resolve_from who P y v w how s h = change_from P s.waits w v (resolved_wait how) (y.resolved how) h

first_from : (who : ℕ) (P : Option Wait → Type 0) → ComesFrom who P → (v : WaitId) (rs : List Receiver) (how : ℕ → Resolution) (s : State)
    → P ((resolve_first rs how s).waits v) → P (s.waits v)
first_from who P y v [] how s h = h
first_from who P y v (r ∷ rs) how s h = resolve_from who P y v r.party.wait (how r.party.clause) s h

holder_from : (who : ℕ) (P : Option Wait → Type 0) → ComesFrom who P → (v : WaitId) (p : Option Party) (how : ℕ → Resolution) (s : State)
    → P ((resolve_holder p how s).waits v) → P (s.waits v)
holder_from who P y v None how s h = h
holder_from who P y v (Some p) how s h = resolve_from who P y v p.wait (how p.clause) s h

removed_from : (P : Option Wait → Type 0) (v : WaitId) (c : ℕ) (q : List Standing) (s : State) → P ((remove_first c q s).waits v)
    → P (s.waits v)
removed_from P v c [] s h = h
removed_from P v c (o ∷ os) s h = h

offer_from : (who : ℕ) (P : Option Wait → Type 0) → ComesFrom who P
    → (v : WaitId) (c : ℕ) (q : List Standing) (how : ℕ → Resolution) (s : State) → P ((resolve_offer c q how s).waits v) → P (s.waits v)
offer_from who P y v c [] how s h = h
offer_from who P y v c (o ∷ os) how s h = holder_from who P y v o.holder how _ h

named_from : (who : ℕ) (P : Option Wait → Type 0) → ComesFrom who P → (n k c : ℕ) (w v : WaitId) (waits : WaitId → Option Wait)
    → P (put_wait w (name_clause n k c (waits w)) waits v) → P (waits v) ⊎ ((n ≡ who) × (w ≡ v))
named_from who P y n k c w v waits h = by_test (same_wait w v) refl h
  where
    by_test : (b : Bool) → same_wait w v ≡ b → P (if b then name_clause n k c (waits w) else waits v) → P (waits v) ⊎ ((n ≡ who) × (w ≡ v))
    by_test true e h = let q : w ≡ v = same_wait-eq w v e
        in ⊎_elim (λ x. inl (subst (λ u. P (waits u)) q x)) (λ x. inr (x, q)) (y.named n k c (waits w) h)
    by_test false e h = inl h

-- what the act leaves of it was there before, or is a wait that who began by it
pub act_from : (who : ℕ) (P : Option Wait → Type 0) → ComesFrom who P → (n : ℕ) (v : WaitId) (s : State) (act : Act)
    → P ((after s n act).waits v) → P (s.waits v) ⊎ ((n ≡ who) × (begins act ≡ Some v))
act_from who P y n v s (Hand c p x) h = inl (first_from who P y v _ _ s h)
act_from who P y n v s (Put c p x) h = inl h
act_from who P y n v s (Offer c p x w k) h = ⊎_elim (λ q. inl q) (λ q. inr (q.0, ap (λ u. Some u) q.1))
    (named_from who P y n k c w v s.waits h)
act_from who P y n v s (Await c p w k) h = ⊎_elim (λ q. inl q) (λ q. inr (q.0, ap (λ u. Some u) q.1))
    (named_from who P y n k c w v s.waits h)
act_from who P y n v s (Take c p x) h = inl (offer_from who P y v c _ _ s h)
act_from who P y n v s (Admit c p) h = inl (holder_from who P y v (holder_at p (s.channels c).queue) _ _ h)
act_from who P y n v s (Drop c p x) h = inl (removed_from P v c (s.channels c).queue s h)
act_from who P y n v s (Spurn c p x) h = inl h
act_from who P y n v s (Close c x) h = inl h
act_from who P y n v s (Void c) h = inl h
act_from who P y n v s (Drain c p x) h = inl (offer_from who P y v c _ _ s h)
act_from who P y n v s (WakeClosed c p) h = inl (first_from who P y v _ _ s h)
act_from who P y n v s (Withdraw w why) h = inl (resolve_from who P y v w _ s h)
act_from who P y n v s (Settle w outcome) h = inl (change_from P s.waits w v (settled_wait outcome) (y.settled outcome) h)
