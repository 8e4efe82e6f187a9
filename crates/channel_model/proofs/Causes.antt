-- What is resolved or has ended was so before, or is so by the act.
use Rattle.std.specs.Prelude.{◌≡◌, ℕ, ◌+◌, Bool, true, false, cond, List, [], ◌∷◌, Option, Some, None, refl, if◌then◌else◌, ◌⊎◌, ◌↔◌, is_some}
use Rattle.std.proofs.Common.{sym, ap, ◌∙◌, arith, inl, inr, ⊎_elim}
use Rattle.std.proofs.lemmas.Bool.{true≢false}
use Rattle.co_base.specs.declared.names.WaitId.{WaitId}
use Rattle.channel_model.specs.declared.acts.Act.{Act}
use Rattle.channel_model.specs.declared.acts.Act.TheVariants.{Hand, Offer, Await, Take, Admit, Drop, Drain, WakeClosed, Withdraw, Settle}
use Rattle.channel_model.specs.declared.acts.Settled.{Settled}
use Rattle.channel_model.specs.declared.standing.Party.{Party}
use Rattle.channel_model.specs.declared.standing.Standing.{Standing}
use Rattle.channel_model.specs.declared.standing.Receiver.{Receiver}
use Rattle.channel_model.specs.declared.standing.Resolution.{Resolution}
use Rattle.channel_model.specs.declared.standing.Resolution.TheVariants as resolved
use Rattle.channel_model.specs.Channels.{State, Wait, same_wait}
use Rattle.channel_model.specs.Effects.{after, resolve, resolve_first, resolve_holder, resolve_offer, remove_first, with_queue, put_wait, resolved_wait, name_clause, settled_wait, admitted, holder_at}
use Rattle.channel_model.specs.Answers.{IsResolvedWait, IsSettledWait}
use Rattle.channel_model.specs.Laws.{wait_of_party, first_waiting, first_holding, resolves, settles, one_if}
use Rattle.channel_model.proofs.Waits.{same_wait-eq, same_wait-refl}
use Rattle.channel_model.proofs.Resolutions.{Turns}

-- ---- how a wait was resolved stays, unless the act resolves it

abbrev pub resolution_of : Option Wait → Option Resolution
resolution_of None = None
resolution_of (Some x) = x.resolved

-- the resolution is as before, or the wait is the one that the act resolves
abbrev Resolves : Option WaitId → WaitId → (waits waits' : WaitId → Option Wait) → Type 0
Resolves o v waits waits' = (resolution_of (waits' v) ≡ resolution_of (waits v)) ⊎ (o ≡ Some v)

one_resolves : (w v : WaitId) (x : Option Wait) (waits : WaitId → Option Wait) → Resolves (Some w) v waits (put_wait w x waits)
one_resolves w v x waits = by_test (same_wait w v) refl
  where
    by_test : (b : Bool) → same_wait w v ≡ b → (resolution_of (if b then x else waits v) ≡ resolution_of (waits v)) ⊎ (Some w ≡ Some v)
    by_test true e = inr (ap (λ u. Some u) (same_wait-eq w v e))
    by_test false e = inl refl

first_resolves : (v : WaitId) (rs : List Receiver) (how : ℕ → Resolution) (s : State)
    → Resolves (first_waiting rs) v s.waits (resolve_first rs how s).waits
first_resolves v [] how s = inl refl
first_resolves v (r ∷ rs) how s = one_resolves r.party.wait v _ s.waits

holder_resolves : (v : WaitId) (p : Option Party) (how : ℕ → Resolution) (s : State)
    → Resolves (wait_of_party p) v s.waits (resolve_holder p how s).waits
holder_resolves v None how s = inl refl
holder_resolves v (Some p) how s = one_resolves p.wait v _ s.waits

offer_resolves : (v : WaitId) (c : ℕ) (os : List Standing) (how : ℕ → Resolution) (s : State)
    → Resolves (first_holding os) v s.waits (resolve_offer c os how s).waits
offer_resolves v c [] how s = inl refl
offer_resolves v c (o ∷ os) how s = holder_resolves v o.holder how (with_queue c os s)

-- a change of one wait that leaves what f says of each
one_leaves : {A : Type 0} (f : Option Wait → A) (w v : WaitId) (g : Option Wait → Option Wait) (waits : WaitId → Option Wait)
    → ((x : Option Wait) → f (g x) ≡ f x) → f (put_wait w (g (waits w)) waits v) ≡ f (waits v)
one_leaves f w v g waits k = by_test (same_wait w v) refl
  where
    by_test : (b : Bool) → same_wait w v ≡ b → f (if b then g (waits w) else waits v) ≡ f (waits v)
    by_test true e = k (waits w) ∙ ap (λ u. f (waits u)) (same_wait-eq w v e)
    by_test false e = refl

remove_leaves : {A : Type 0} (f : Option Wait → A) (v : WaitId) (c : ℕ) (os : List Standing) (s : State)
    → f ((remove_first c os s).waits v) ≡ f (s.waits v)
remove_leaves f v c [] s = refl
remove_leaves f v c (o ∷ os) s = refl

named_resolution : (who k c : ℕ) (x : Option Wait) → resolution_of (name_clause who k c x) ≡ resolution_of x
named_resolution who k c None = refl
named_resolution who k c (Some x) = refl

settled_resolution : (outcome : Settled) (x : Option Wait) → resolution_of (settled_wait outcome x) ≡ resolution_of x
settled_resolution outcome None = refl
settled_resolution outcome (Some x) = refl

pub resolution_kept : (s : State) (who : ℕ) (act : Act) (v : WaitId)
    → (resolution_of ((after s who act).waits v) ≡ resolution_of (s.waits v)) ⊎ (resolves s act ≡ Some v)
resolution_kept s who (Hand c p x) v = first_resolves v (s.channels c).receivers _ s
resolution_kept s who (Offer c p x w k) v = inl (one_leaves resolution_of w v (name_clause who k c) s.waits (named_resolution who k c))
resolution_kept s who (Await c p w k) v = inl (one_leaves resolution_of w v (name_clause who k c) s.waits (named_resolution who k c))
resolution_kept s who (Take c p x) v = offer_resolves v c (s.channels c).queue _ s
resolution_kept s who (Admit c p) v = holder_resolves v (holder_at p (s.channels c).queue) _
    (with_queue c (admitted p (s.channels c).queue) s)
resolution_kept s who (Drop c p x) v = inl (remove_leaves resolution_of v c (s.channels c).queue s)
resolution_kept s who (Drain c p x) v = offer_resolves v c (s.channels c).queue _ s
resolution_kept s who (WakeClosed c p) v = first_resolves v (s.channels c).receivers _ s
resolution_kept s who (Withdraw w why) v = one_resolves w v _ s.waits
resolution_kept s who (Settle w outcome) v = inl (one_leaves resolution_of w v (settled_wait outcome) s.waits (settled_resolution outcome))
resolution_kept s who other v = inl refl

resolved_same : (x y : Option Wait) → resolution_of x ≡ resolution_of y → IsResolvedWait x → IsResolvedWait y
resolved_same None None e h = h
resolved_same None (Some y) e h = absurd h
resolved_same (Some x) None e h = let f : x.resolved ≡ None = e in cc
resolved_same (Some x) (Some y) e h = ap is_some (sym e) ∙ h

-- what is resolved was so before, or is so by the act
pub resolved_before : (s : State) (who : ℕ) (act : Act) (v : WaitId) → IsResolvedWait ((after s who act).waits v)
    → IsResolvedWait (s.waits v) ⊎ (resolves s act ≡ Some v)
resolved_before s who act v h = ⊎_elim (λ e. inl (resolved_same ((after s who act).waits v) (s.waits v) e h)) (λ e. inr e)
    (resolution_kept s who act v)

-- ---- whether a wait ended stays, unless the act ends it

abbrev pub has_ended : Option Wait → Bool
has_ended None = false
has_ended (Some x) = is_some x.settled

resolved_end : (how : Resolution) (x : Option Wait) → has_ended (resolved_wait how x) ≡ has_ended x
resolved_end how None = refl
resolved_end how (Some x) = refl

named_end : (who k c : ℕ) (x : Option Wait) → has_ended (name_clause who k c x) ≡ has_ended x
named_end who k c None = refl
named_end who k c (Some x) = refl

resolve_end : (v w : WaitId) (how : Resolution) (s : State) → has_ended ((resolve w how s).waits v) ≡ has_ended (s.waits v)
resolve_end v w how s = one_leaves has_ended w v (resolved_wait how) s.waits (resolved_end how)

first_end : (v : WaitId) (rs : List Receiver) (how : ℕ → Resolution) (s : State)
    → has_ended ((resolve_first rs how s).waits v) ≡ has_ended (s.waits v)
first_end v [] how s = refl
first_end v (r ∷ rs) how s = resolve_end v r.party.wait (how r.party.clause) s

holder_end : (v : WaitId) (p : Option Party) (how : ℕ → Resolution) (s : State)
    → has_ended ((resolve_holder p how s).waits v) ≡ has_ended (s.waits v)
holder_end v None how s = refl
holder_end v (Some p) how s = resolve_end v p.wait (how p.clause) s

offer_end : (v : WaitId) (c : ℕ) (os : List Standing) (how : ℕ → Resolution) (s : State)
    → has_ended ((resolve_offer c os how s).waits v) ≡ has_ended (s.waits v)
offer_end v c [] how s = refl
offer_end v c (o ∷ os) how s = holder_end v o.holder how (with_queue c os s)

one_ends : (w v : WaitId) (x : Option Wait) (waits : WaitId → Option Wait) → (has_ended (put_wait w x waits v) ≡ has_ended (waits v))
    ⊎ (Some w ≡ Some v)
one_ends w v x waits = by_test (same_wait w v) refl
  where
    by_test : (b : Bool) → same_wait w v ≡ b → (has_ended (if b then x else waits v) ≡ has_ended (waits v)) ⊎ (Some w ≡ Some v)
    by_test true e = inr (ap (λ u. Some u) (same_wait-eq w v e))
    by_test false e = inl refl

end_kept : (s : State) (who : ℕ) (act : Act) (v : WaitId) → (has_ended ((after s who act).waits v) ≡ has_ended (s.waits v))
    ⊎ (settles act ≡ Some v)
end_kept s who (Hand c p x) v = inl (first_end v (s.channels c).receivers _ s)
end_kept s who (Offer c p x w k) v = inl (one_leaves has_ended w v (name_clause who k c) s.waits (named_end who k c))
end_kept s who (Await c p w k) v = inl (one_leaves has_ended w v (name_clause who k c) s.waits (named_end who k c))
end_kept s who (Take c p x) v = inl (offer_end v c (s.channels c).queue _ s)
end_kept s who (Admit c p) v = inl (holder_end v (holder_at p (s.channels c).queue) _ (with_queue c (admitted p (s.channels c).queue) s))
end_kept s who (Drop c p x) v = inl (remove_leaves has_ended v c (s.channels c).queue s)
end_kept s who (Drain c p x) v = inl (offer_end v c (s.channels c).queue _ s)
end_kept s who (WakeClosed c p) v = inl (first_end v (s.channels c).receivers _ s)
end_kept s who (Withdraw w why) v = inl (resolve_end v w (resolved.Withdrawn why) s)
end_kept s who (Settle w outcome) v = one_ends w v _ s.waits
end_kept s who other v = inl refl

settled_same : (x y : Option Wait) → has_ended x ≡ has_ended y → IsSettledWait x → IsSettledWait y
settled_same None y e h = absurd h
settled_same (Some x) None e h = let f : is_some x.settled ≡ false = e in cc
settled_same (Some x) (Some y) e h = sym e ∙ h

-- what has ended had so before, or has so by the act
pub settled_before : (s : State) (who : ℕ) (act : Act) (v : WaitId) → IsSettledWait ((after s who act).waits v) → IsSettledWait (s.waits v)
    ⊎ (settles act ≡ Some v)
settled_before s who act v h = ⊎_elim (λ e. inl (settled_same ((after s who act).waits v) (s.waits v) e h)) (λ e. inr e)
    (end_kept s who act v)

-- ---- counts of entries for a wait

abbrev pub is_resolved : Option Wait → Bool
is_resolved None = false
is_resolved (Some x) = is_some x.resolved

pub resolved_is : (x : Option Wait) → (is_resolved x ≡ true) ↔ IsResolvedWait x
resolved_is None = (λ e. cc, λ h. absurd h)
resolved_is (Some x) = (λ e. e, λ h. h)

pub ended_is : (x : Option Wait) → (has_ended x ≡ true) ↔ IsSettledWait x
ended_is None = (λ e. cc, λ h. absurd h)
ended_is (Some x) = (λ e. e, λ h. h)

pub same_truth : (b b' : Bool) → (b ≡ true → b' ≡ true) → (b' ≡ true → b ≡ true) → b ≡ b'
same_truth true b' f g = sym (f refl)
same_truth false true f g = g refl
same_truth false false f g = refl

-- the act makes it so, or leaves it as it was
pub counted_one : (test : Option Wait → Bool) (P : Option Wait → Type 0) → ((x : Option Wait) → (test x ≡ true) ↔ P x)
    → (w : WaitId) (o : Option WaitId) (waits waits' : WaitId → Option Wait)
    → ((v : WaitId) → o ≡ Some v → Turns P v waits waits') → (P (waits w) → P (waits' w)) → (P (waits' w) → P (waits w) ⊎ (o ≡ Some w))
    → cond (test (waits' w)) 1 0 ≡ cond (test (waits w)) 1 0 + one_if w o
counted_one test P is w None waits waits' turns keeps back =
    let same : test (waits' w) ≡ test (waits w) = same_truth _ _
    (λ e. ⊎_elim (λ h. (is (waits w)).1 h) (λ f. cc) (back ((is (waits' w)).0 e))) (λ e. (is (waits' w)).1 (keeps ((is (waits w)).0 e)))
    in
    ap (λ b. cond b 1 0) same ∙ omega arith
counted_one test P is w (Some v) waits waits' turns keeps back = by_test (same_wait w v) refl
  where
    apart : (b : Bool) → b ≡ false → v ≡ w → same_wait w v ≡ b → ⊥
    apart b e f g = true≢false (sym (same_wait-refl w) ∙ ap (same_wait w) (sym f) ∙ g ∙ e)

    turned : (b c : Bool) → (b ≡ true → ⊥) → c ≡ true → ◌≡◌ {A = ℕ} (cond c 1 0) (cond b 1 0 + 1)
    turned true c f e = absurd (f refl)
    turned false c f e = ap (λ x. cond x 1 0) e

    by_test : (b : Bool) → same_wait w v ≡ b → ◌≡◌ {A = ℕ} (cond (test (waits' w)) 1 0) (cond (test (waits w)) 1 0 + (if b then 1 else 0))
    by_test true e =
        let t : Turns P w waits waits' = turns w (ap (λ u. Some u) (sym (same_wait-eq w v e))) in
        turned (test (waits w)) (test (waits' w)) (λ h. t.before ((is (waits w)).0 h)) ((is (waits' w)).1 t.now)
    by_test false e =
        let same : test (waits' w) ≡ test (waits w) = same_truth _ _
        (λ f. ⊎_elim (λ h. (is (waits w)).1 h) (λ g. let k : v ≡ w = cc in absurd (apart false refl k e)) (back ((is (waits' w)).0 f)))
        (λ f. (is (waits' w)).1 (keeps ((is (waits w)).0 f))) in
        ap (λ b. cond b 1 0) same ∙ omega arith
