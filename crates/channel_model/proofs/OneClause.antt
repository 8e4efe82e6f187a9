-- A wait with one clause: what is so if it was resolved as closed stays so.
use Rattle.std.specs.Prelude.{◌≡◌, ℕ, ◌≤◌, ◌==◌, Bool, true, false, ◌||◌, List, [], ◌∷◌, Option, Some, None, refl, MatchBool, if◌then◌else◌}
use Rattle.std.specs.List.{list_any}
use Rattle.std.proofs.Common.{sym, ap, ◌∙◌, subst, arith, eqb-true}
use Rattle.co_base.specs.declared.names.WaitId.{WaitId}
use Rattle.channel_model.specs.declared.acts.Act.{Act}
use Rattle.channel_model.specs.declared.acts.Act.TheVariants.{Hand, Offer, Await, Take, Admit, Drop, Drain, WakeClosed, Withdraw, Settle}
use Rattle.channel_model.specs.declared.acts.Settled.{Settled}
use Rattle.channel_model.specs.declared.standing.Party.{Party}
use Rattle.channel_model.specs.declared.standing.Standing.{Standing}
use Rattle.channel_model.specs.declared.standing.Receiver.{Receiver}
use Rattle.channel_model.specs.declared.standing.Resolution.{Resolution}
use Rattle.channel_model.specs.declared.standing.Resolution.TheVariants as resolved
use Rattle.channel_model.specs.Channels.{Shape, State, Wait, same_wait}
use Rattle.channel_model.specs.Effects.{after, resolve, resolve_first, resolve_holder, resolve_offer, remove_first, with_queue, resolved_wait, name_clause, settled_wait, put_wait, admitted, holder_at, close_value}
use Rattle.channel_model.specs.Needs.{Needs, JoinsWait, MayName, began_by_select}
use Rattle.channel_model.specs.Laws.{IsStandingAt, ReceiversStand}
use Rattle.channel_model.proofs.Placed.{Placed}
use Rattle.channel_model.proofs.Sound.{Sound}
use Rattle.channel_model.proofs.Waits.{same_wait-eq, at_wait}

-- ---- one wait with one clause

-- this is so of the value, if the wait was resolved as closed with it
abbrev pub ClosedIf : (ℕ → Type 0) → Option Resolution → Type 0
ClosedIf closed (Some (resolved.Closed n v)) = closed v
ClosedIf closed other = Unit {0}

-- the wait has one clause, numbered 0, at this channel, and this is so of it if it was resolved as closed
abbrev pub IsOn : ℕ → (ℕ → Type 0) → Option Wait → Type 0
IsOn c closed None = ⊥
IsOn c closed (Some x) = (x.clauses ≡ (0, c) ∷ []) × ClosedIf closed x.resolved

resolved_on : (c : ℕ) (closed : ℕ → Type 0) (how : Resolution) (x : Option Wait) → ClosedIf closed (Some how) → IsOn c closed x
    → IsOn c closed (resolved_wait how x)
resolved_on c closed how None k h = h
resolved_on c closed how (Some x) k h = (h.0, k)

resolve_on : (c : ℕ) (closed : ℕ → Type 0) (w v : WaitId) (how : Resolution) (s : State)
    → (same_wait v w ≡ true → ClosedIf closed (Some how))
    → IsOn c closed (s.waits w) → IsOn c closed ((resolve v how s).waits w)
resolve_on c closed w v how s k h = by_test (same_wait v w) refl
  where
    by_test : (b : Bool) → same_wait v w ≡ b → IsOn c closed (if b then resolved_wait how (s.waits v) else s.waits w)
    by_test true e = resolved_on c closed how (s.waits v) (k e)
        (subst (λ (u : WaitId). IsOn c closed (s.waits u)) (sym (same_wait-eq v w e)) h)
    by_test false e = h

holder_on : (c : ℕ) (closed : ℕ → Type 0) (w : WaitId) (p : Option Party) (how : ℕ → Resolution) (s : State)
    → ((n : ℕ) → ClosedIf closed (Some (how n))) → IsOn c closed (s.waits w) → IsOn c closed ((resolve_holder p how s).waits w)
holder_on c closed w None how s k h = h
holder_on c closed w (Some p) how s k h = resolve_on c closed w p.wait (how p.clause) s (λ e. k p.clause) h

offer_on : (c : ℕ) (closed : ℕ → Type 0) (w : WaitId) (d : ℕ) (q : List Standing) (how : ℕ → Resolution) (s : State)
    → ((n : ℕ) → ClosedIf closed (Some (how n))) → IsOn c closed (s.waits w) → IsOn c closed ((resolve_offer d q how s).waits w)
offer_on c closed w d [] how s k h = h
offer_on c closed w d (o ∷ os) how s k h = holder_on c closed w o.holder how (with_queue d os s) k h

removed_on : (c : ℕ) (closed : ℕ → Type 0) (w : WaitId) (d : ℕ) (q : List Standing) (s : State) → IsOn c closed (s.waits w)
    → IsOn c closed ((remove_first d q s).waits w)
removed_on c closed w d [] s h = h
removed_on c closed w d (o ∷ os) s h = h

-- a wait that stands at a channel and has one clause has it there
same_channel : (c d : ℕ) (closed : ℕ → Type 0) (x : Option Wait) → IsOn c closed x → IsStandingAt d x → c ≡ d
same_channel c d closed None h k = absurd h
same_channel c d closed (Some x) h k = eqb-true c d (or_false (c == d)
    (sym (ap (λ (l : List (ℕ × ℕ)). list_any (λ (y : ℕ × ℕ). y.1 == d) l) h.0) ∙ k.1))
  where
    or_false : (b : Bool) → (b || false) ≡ true → b ≡ true
    or_false true e = refl
    or_false false e = e

first_on : (c : ℕ) (closed : ℕ → Type 0) (w : WaitId) (d : ℕ) (rs : List Receiver) (how : ℕ → Resolution) (s : State)
    → ReceiversStand s.waits d rs → (c ≡ d → (n : ℕ) → ClosedIf closed (Some (how n))) → IsOn c closed (s.waits w)
    → IsOn c closed ((resolve_first rs how s).waits w)
unfolding ReceiversStand
first_on c closed w d [] how s stand k h = h
first_on c closed w d (r ∷ rs) how s stand k h =
    resolve_on c closed w r.party.wait (how r.party.clause) s
    (λ e. k (same_channel c d closed (s.waits w) h (subst (λ (u : WaitId). IsStandingAt d (s.waits u)) (same_wait-eq r.party.wait w e)
    stand.0)) r.party.clause) h

-- no clause joins it
named_on : (c : ℕ) (closed : ℕ → Type 0) (who k d p : ℕ) (v w : WaitId) (s : State) → Placed s → (s.channels d).next ≡ p
    → MayName who k d p v s
    → IsOn c closed (s.waits w) → IsOn c closed (put_wait v (name_clause who k d (s.waits v)) s.waits w)
named_on c closed who k d p v w s placed first may h = by_test (same_wait v w) refl
  where
    none_there : s.waits w ≡ None → ⊥
    none_there e = subst (IsOn c closed) e h

    joins : (x : Option Wait) → JoinsWait who k d x → IsOn c closed x → ⊥
    joins None j g = g
    joins (Some x) j g = (let no_way : false ≡ true = sym (ap began_by_select g.0) ∙ j.select in cc)

    not_named : (b : Bool) → same_wait v (record { channel = d; place = p }) ≡ b → MatchBool b (k ≤ 7) (JoinsWait who k d (s.waits v))
        → v ≡ w → ⊥
    not_named true e m same =
        let at : v ≡ record { channel = d; place = p } = same_wait-eq v _ e in
        none_there (placed w (subst (λ (u : WaitId). (s.channels u.channel).next ≤ u.place) (sym at ∙ same) (let f = first in omega arith)))
    not_named false e m same = joins (s.waits v) m (subst (λ (u : WaitId). IsOn c closed (s.waits u)) (sym same) h)

    by_test : (b : Bool) → same_wait v w ≡ b → IsOn c closed (if b then name_clause who k d (s.waits v) else s.waits w)
    by_test true e = absurd (not_named (same_wait v (record { channel = d; place = p })) refl may (same_wait-eq v w e))
    by_test false e = h

settled_on : (c : ℕ) (closed : ℕ → Type 0) (outcome : Settled) (v w : WaitId) (s : State) → IsOn c closed (s.waits w)
    → IsOn c closed (put_wait v (settled_wait outcome (s.waits v)) s.waits w)
settled_on c closed outcome v w s h = by_test (same_wait v w) refl
  where
    still : (x : Option Wait) → IsOn c closed x → IsOn c closed (settled_wait outcome x)
    still None g = g
    still (Some x) g = g

    by_test : (b : Bool) → same_wait v w ≡ b → IsOn c closed (if b then settled_wait outcome (s.waits v) else s.waits w)
    by_test true e = still (s.waits v) (subst (λ (u : WaitId). IsOn c closed (s.waits u)) (sym (same_wait-eq v w e)) h)
    by_test false e = h

-- ---- every act

-- it stays so, if it is of the value of each wake
pub waits_on : (shape : Shape) (c : ℕ) (closed : ℕ → Type 0) (w : WaitId) (s : State) (who : ℕ) (act : Act) → Sound shape s
    → Needs shape s who act → ((p : ℕ) → act ≡ WakeClosed c p → closed (close_value (s.channels c).closed)) → IsOn c closed (s.waits w)
    → IsOn c closed ((after s who act).waits w)
waits_on shape c closed w s who (Hand d p v) l n woken h = first_on c _ w d (s.channels d).receivers _ s (l.stand d).receivers (λ e m. tt) h
waits_on shape c closed w s who (Offer d p v u k) l n woken h = named_on c _ who k d p u w s l.placed (sym n.1.first) n.4 h
waits_on shape c closed w s who (Await d p u k) l n woken h = named_on c _ who k d p u w s l.placed (sym n.1.first) n.3 h
waits_on shape c closed w s who (Take d p v) l n woken h = offer_on c _ w d (s.channels d).queue _ s (λ m. tt) h
waits_on shape c closed w s who (Admit d p) l n woken h = holder_on c _ w (holder_at p (s.channels d).queue) _
    (with_queue d (admitted p (s.channels d).queue) s) (λ m. tt) h
waits_on shape c closed w s who (Drop d p v) l n woken h = removed_on c _ w d (s.channels d).queue s h
waits_on shape c closed w s who (Drain d p v) l n woken h = offer_on c _ w d (s.channels d).queue _ s (λ m. tt) h
waits_on shape c closed w s who (WakeClosed d p) l n woken h = first_on c _ w d (s.channels d).receivers _ s (l.stand d).receivers
    (λ e m. subst (λ i. closed (close_value (s.channels i).closed)) e (woken p (ap (λ i. WakeClosed i p) (sym e)))) h
waits_on shape c closed w s who (Withdraw u why) l n woken h = resolve_on c _ w u _ s (λ e. tt) h
waits_on shape c closed w s who (Settle u outcome) l n woken h = settled_on c _ outcome u w s h
waits_on shape c closed w s who other l n woken h = h

weaker : (a b : ℕ → Type 0) (o : Option Resolution) → ((v : ℕ) → a v → b v) → ClosedIf a o → ClosedIf b o
weaker a b (Some (resolved.Closed n v)) f h = f v h
weaker a b None f h = tt
weaker a b (Some (resolved.Handed n v)) f h = tt
weaker a b (Some (resolved.Taken n)) f h = tt
weaker a b (Some (resolved.Admitted n)) f h = tt
weaker a b (Some (resolved.Withdrawn why)) f h = tt
weaker a b (Some resolved.Voided) f h = tt

pub weaker_on : (c : ℕ) (a b : ℕ → Type 0) (x : Option Wait) → ((v : ℕ) → a v → b v) → IsOn c a x → IsOn c b x
weaker_on c a b None f h = h
weaker_on c a b (Some x) f h = (h.0, weaker a b x.resolved f h.1)

-- the wait that a receive has just begun
pub begun_on : (shape : Shape) (s : State) (who c p : ℕ) → Sound shape s
    → Needs shape s who (Await c p (record { channel = c; place = p }) 0)
    → (closed : ℕ → Type 0)
    → IsOn c closed ((after s who (Await c p (record { channel = c; place = p }) 0)).waits (record { channel = c; place = p }))
begun_on shape s who c p l n closed =
    let w : WaitId = record { channel = c; place = p } in
    let none : s.waits w ≡ None = l.placed w (let f = n.1.first in omega arith) in
    subst (IsOn c closed) (sym (at_wait w (name_clause who 0 c (s.waits w)) s.waits))
    (subst (λ x. IsOn c closed (name_clause who 0 c x)) (sym none) (refl, tt))
