-- What an act resolves was open, and what it ends had not ended; both stay.
use Rattle.std.specs.Prelude.{◌≡◌, ℕ, ◌+◌, ◌==◌, true, false, List, [], ◌∷◌, Option, Some, None, refl, if◌then◌else◌}
use Rattle.std.proofs.Common.{sym, subst, arith}
use Rattle.co_base.specs.declared.names.WaitId.{WaitId}
use Rattle.channel_model.specs.declared.acts.Act.{Act}
use Rattle.channel_model.specs.declared.acts.Act.TheVariants.{Hand, Take, Admit, Drain, WakeClosed, Withdraw, Settle}
use Rattle.channel_model.specs.declared.acts.Settled.{Settled}
use Rattle.channel_model.specs.declared.standing.Party.{Party}
use Rattle.channel_model.specs.declared.standing.Standing.{Standing}
use Rattle.channel_model.specs.declared.standing.Receiver.{Receiver}
use Rattle.channel_model.specs.declared.standing.Resolution.{Resolution}
use Rattle.channel_model.specs.Channels.{Shape, State, Wait}
use Rattle.channel_model.specs.Effects.{after, resolve, resolve_first, resolve_holder, resolve_offer, with_queue, put_wait, resolved_wait, name_clause, settled_wait, admitted, holder_at}
use Rattle.channel_model.specs.Needs.{Needs, IsOpenOf, MaySettle}
use Rattle.channel_model.specs.Answers.{IsResolvedWait, IsSettledWait}
use Rattle.channel_model.specs.Laws.{IsStandingAt, HolderStands, OffersStand, ReceiversStand, AllStandOpen, wait_of_party, first_waiting, first_holding, resolves, settles}
use Rattle.channel_model.proofs.Waits.{at_wait}
use Rattle.channel_model.proofs.Others.{Stays, other_keeps}

pub resolved_stays : (who : ℕ) → Stays who IsResolvedWait
resolved_stays who = record {
  resolved = λ how x h. elim x as (λ y. IsResolvedWait y → IsResolvedWait (resolved_wait how y)) [ None ↦ λ k. k | Some y ↦ λ k. refl ] h;
  named = λ n k c x h. elim x as (λ y. IsResolvedWait y → IsResolvedWait (name_clause n k c y)) [ None ↦ λ f. absurd f | Some y ↦ λ f. f ]
      h;
  settled = λ n outcome x apart m h. elim x as (λ y. IsResolvedWait y
      → IsResolvedWait (settled_wait outcome y)) [ None ↦ λ k. k | Some y ↦ λ k. k ] h;
}

pub settled_stays : (who : ℕ) → Stays who IsSettledWait
settled_stays who = record {
  resolved = λ how x h. elim x as (λ y. IsSettledWait y → IsSettledWait (resolved_wait how y)) [ None ↦ λ k. k | Some y ↦ λ k. k ] h;
  named = λ n k c x h. elim x as (λ y. IsSettledWait y → IsSettledWait (name_clause n k c y)) [ None ↦ λ f. absurd f | Some y ↦ λ f. f ] h;
  settled = λ n outcome x apart m h. elim x as (λ y. IsSettledWait y
      → IsSettledWait (settled_wait outcome y)) [ None ↦ λ k. k | Some y ↦ λ k. refl ] h;
}

apart : (n : ℕ) → n ≡ n + 1 → ⊥
apart n e = omega arith

-- a fact that nobody takes away
pub always_keeps : (shape : Shape) (P : Option Wait → Type 0) → ((who : ℕ) → Stays who P) → (n : ℕ) (v : WaitId) (s : State) (act : Act)
    → Needs shape s n act → P (s.waits v) → P ((after s n act).waits v)
always_keeps shape P y n v s act m h = other_keeps shape (n + 1) P (y (n + 1)) n v s act (apart n) m h

-- P did not hold of the wait, and holds now
pub record Turns (P : Option Wait → Type 0) (v : WaitId) (waits waits' : WaitId → Option Wait) : Type 0 where
  pub before : P (waits v) → ⊥
  pub now : P (waits' v)

-- ---- what an act resolves was open, and is resolved

pub not_open : (c : ℕ) (x : Option Wait) → IsStandingAt c x → IsResolvedWait x → ⊥
not_open c None h k = h
not_open c (Some x) h k = let e = h.0 in cc

made_resolved : (c : ℕ) (how : Resolution) (x : Option Wait) → IsStandingAt c x → IsResolvedWait (resolved_wait how x)
made_resolved c how None h = h
made_resolved c how (Some x) h = refl

resolving : (w : WaitId) (how : Resolution) (s : State) (c : ℕ) → IsStandingAt c (s.waits w)
    → Turns IsResolvedWait w s.waits (resolve w how s).waits
resolving w how s c h = record {
  before = not_open c (s.waits w) h;
  now = subst IsResolvedWait (sym (at_wait w _ s.waits)) (made_resolved c how (s.waits w) h);
}

first_resolved : (c : ℕ) (rs : List Receiver) (how : ℕ → Resolution) (s : State) → ReceiversStand s.waits c rs → (v : WaitId)
    → first_waiting rs ≡ Some v → Turns IsResolvedWait v s.waits (resolve_first rs how s).waits
unfolding ReceiversStand
first_resolved c [] how s h v e = cc
first_resolved c (r ∷ rs) how s h v e =
    let k : r.party.wait ≡ v = cc in
    subst (λ u. Turns IsResolvedWait u s.waits (resolve r.party.wait (how r.party.clause) s).waits) k
    (resolving r.party.wait (how r.party.clause) s c h.0)

holder_resolved : (c : ℕ) (p : Option Party) (how : ℕ → Resolution) (s : State) → HolderStands s.waits c p → (v : WaitId)
    → wait_of_party p ≡ Some v → Turns IsResolvedWait v s.waits (resolve_holder p how s).waits
holder_resolved c None how s h v e = cc
holder_resolved c (Some p) how s h v e =
    let k : p.wait ≡ v = cc in
    subst (λ u. Turns IsResolvedWait u s.waits (resolve p.wait (how p.clause) s).waits) k (resolving p.wait (how p.clause) s c h)

offer_resolved : (c : ℕ) (os : List Standing) (how : ℕ → Resolution) (s : State) → OffersStand s.waits c os → (v : WaitId)
    → first_holding os ≡ Some v → Turns IsResolvedWait v s.waits (resolve_offer c os how s).waits
unfolding OffersStand
offer_resolved c [] how s h v e = cc
offer_resolved c (o ∷ os) how s h v e = holder_resolved c o.holder how (with_queue c os s) h.0 v e

pub holder_at_stands : (waits : WaitId → Option Wait) (c p : ℕ) (os : List Standing) → OffersStand waits c os
    → HolderStands waits c (holder_at p os)
unfolding OffersStand
holder_at_stands waits c p [] h = tt
holder_at_stands waits c p (o ∷ os) h =
    elim (o.place == p) as (λ b. HolderStands waits c (if b then o.holder else holder_at p os))
    [ true ↦ h.0 | false ↦ holder_at_stands waits c p os h.1 ]

pub open_of : (who : ℕ) (x : Option Wait) → IsOpenOf who x → IsResolvedWait x → ⊥
open_of who None h k = h
open_of who (Some x) h k = let e = h.1 in cc

made_withdrawn : (who : ℕ) (how : Resolution) (x : Option Wait) → IsOpenOf who x → IsResolvedWait (resolved_wait how x)
made_withdrawn who how None h = h
made_withdrawn who how (Some x) h = refl

withdrawing : (who : ℕ) (w : WaitId) (how : Resolution) (s : State) → IsOpenOf who (s.waits w) → (v : WaitId) → Some w ≡ Some v
    → Turns IsResolvedWait v s.waits (resolve w how s).waits
withdrawing who w how s h v e =
    let k : w ≡ v = cc in
    subst (λ u. Turns IsResolvedWait u s.waits (resolve w how s).waits) k
    (record {
      before = open_of who (s.waits w) h;
      now = subst IsResolvedWait (sym (at_wait w _ s.waits))
          (made_withdrawn who how (s.waits w) h);
    })

pub resolves_turns : (shape : Shape) (s : State) (who : ℕ) (act : Act) → AllStandOpen s → Needs shape s who act → (v : WaitId)
    → resolves s act ≡ Some v → Turns IsResolvedWait v s.waits (after s who act).waits
resolves_turns shape s who (Hand c p x) h n v e = first_resolved c _ _ s (h c).receivers v e
resolves_turns shape s who (Take c p x) h n v e = offer_resolved c _ _ s (h c).offers v e
resolves_turns shape s who (Admit c p) h n v e =
    holder_resolved c (holder_at p (s.channels c).queue) _ (with_queue c (admitted p (s.channels c).queue) s)
    (holder_at_stands s.waits c p (s.channels c).queue (h c).offers) v e
resolves_turns shape s who (Drain c p x) h n v e = offer_resolved c _ _ s (h c).offers v e
resolves_turns shape s who (WakeClosed c p) h n v e = first_resolved c _ _ s (h c).receivers v e
resolves_turns shape s who (Withdraw w why) h n v e = withdrawing who w _ s n v e
resolves_turns shape s who other h n v e = cc

-- ---- what an act settles was not settled, and is

not_settled : (who : ℕ) (outcome : Settled) (x : Option Wait) → MaySettle who outcome x → IsSettledWait x → ⊥
not_settled who outcome None h k = h
not_settled who outcome (Some x) h k = let e = h.1 in cc

made_settled : (who : ℕ) (outcome : Settled) (x : Option Wait) → MaySettle who outcome x → IsSettledWait (settled_wait outcome x)
made_settled who outcome None h = h
made_settled who outcome (Some x) h = refl

settling : (who : ℕ) (outcome : Settled) (w : WaitId) (waits : WaitId → Option Wait) → MaySettle who outcome (waits w) → (v : WaitId)
    → Some w ≡ Some v → Turns IsSettledWait v waits (put_wait w (settled_wait outcome (waits w)) waits)
settling who outcome w waits h v e =
    let k : w ≡ v = cc in
    subst (λ u. Turns IsSettledWait u waits (put_wait w (settled_wait outcome (waits w)) waits)) k
    (record {
      before = not_settled who outcome (waits w) h;
      now =
          subst IsSettledWait (sym (at_wait w _ waits)) (made_settled who outcome (waits w) h);
    })

pub settles_turns : (shape : Shape) (s : State) (who : ℕ) (act : Act) → Needs shape s who act → (v : WaitId) → settles act ≡ Some v
    → Turns IsSettledWait v s.waits (after s who act).waits
settles_turns shape s who (Settle w outcome) n v e = settling who outcome w s.waits n v e
settles_turns shape s who other n v e = cc
