-- What others leave of a caller's own waits.
use Rattle.std.specs.Prelude.{◌≡◌, ◌≢◌, ℕ, ◌==◌, Bool, true, false, List, [], ◌∷◌, ◌++◌, Option, Some, None, refl, if◌then◌else◌}
use mathlib.Core.List.{IsPrefix}
use Rattle.std.proofs.Common.{sym, ap, ◌∙◌, subst, arith, append_assoc}
use Rattle.std.proofs.lemmas.Bool.Decides.{nat_tests}
use Rattle.co_base.specs.declared.names.WaitId.{WaitId}
use Rattle.channel_model.specs.declared.acts.Act.{Act}
use Rattle.channel_model.specs.declared.acts.Act.TheVariants.{Hand, Put, Offer, Await, Take, Admit, Drop, Spurn, Close, Void, Drain, WakeClosed, Withdraw, Settle}
use Rattle.channel_model.specs.declared.acts.Entry.{Entry}
use Rattle.channel_model.specs.declared.acts.Settled.{Settled}
use Rattle.channel_model.specs.declared.standing.Party.{Party}
use Rattle.channel_model.specs.declared.standing.Standing.{Standing}
use Rattle.channel_model.specs.declared.standing.Receiver.{Receiver}
use Rattle.channel_model.specs.declared.standing.Resolution.{Resolution}
use Rattle.channel_model.specs.Channels.{Shape, State, Wait, same_wait, start}
use Rattle.channel_model.specs.Effects.{after, resolve, resolve_first, resolve_holder, resolve_offer, remove_first, put_wait, resolved_wait, name_clause, settled_wait, holder_at}
use Rattle.channel_model.specs.Needs.{Needs, MaySettle}
use Rattle.channel_model.specs.Histories.{replay, replay_from, Legal, LegalFrom, acts_of}
use Rattle.channel_model.proofs.Histories.{replay_from-append, LegalFrom-parts, acts_of-append}
use Rattle.channel_model.proofs.Waits.{same_wait-eq, one_change}
use Rattle.channel_model.specs.Answers.{IsReadyWait, IsOwnWait, IsUnsettledOf}
use Rattle.channel_model.proofs.Spans.{nothing_more}

-- a fact of a wait of who that no other takes away
pub record Stays (who : ℕ) (P : Option Wait → Type 0) : Type 0 where
  pub resolved : (how : Resolution) (x : Option Wait) → P x → P (resolved_wait how x)
  pub named : (n k c : ℕ) (x : Option Wait) → P x → P (name_clause n k c x)
  pub settled : (n : ℕ) (outcome : Settled) (x : Option Wait) → n ≢ who → MaySettle n outcome x → P x → P (settled_wait outcome x)

resolve_keeps : (who : ℕ) (P : Option Wait → Type 0) → Stays who P → (v w : WaitId) (how : Resolution) (s : State) → P (s.waits v)
    → P ((resolve w how s).waits v)
resolve_keeps who P k v w how s h = one_change P s.waits w v (resolved_wait how) (k.resolved how (s.waits v)) h

resolve_first_keeps : (who : ℕ) (P : Option Wait → Type 0) → Stays who P
    → (v : WaitId) (rs : List Receiver) (how : ℕ → Resolution) (s : State) → P (s.waits v) → P ((resolve_first rs how s).waits v)
resolve_first_keeps who P k v [] how s h = h
resolve_first_keeps who P k v (r ∷ rs) how s h = resolve_keeps who P k v r.party.wait (how r.party.clause) s h

resolve_holder_keeps : (who : ℕ) (P : Option Wait → Type 0) → Stays who P
    → (v : WaitId) (p : Option Party) (how : ℕ → Resolution) (s : State) → P (s.waits v) → P ((resolve_holder p how s).waits v)
resolve_holder_keeps who P k v None how s h = h
resolve_holder_keeps who P k v (Some p) how s h = resolve_keeps who P k v p.wait (how p.clause) s h

remove_first_keeps : (P : Option Wait → Type 0) (v : WaitId) (c : ℕ) (q : List Standing) (s : State) → P (s.waits v)
    → P ((remove_first c q s).waits v)
remove_first_keeps P v c [] s h = h
remove_first_keeps P v c (o ∷ os) s h = h

resolve_offer_keeps : (who : ℕ) (P : Option Wait → Type 0) → Stays who P
    → (v : WaitId) (c : ℕ) (q : List Standing) (how : ℕ → Resolution) (s : State) → P (s.waits v) → P ((resolve_offer c q how s).waits v)
resolve_offer_keeps who P k v c [] how s h = h
resolve_offer_keeps who P k v c (o ∷ os) how s h = resolve_holder_keeps who P k v o.holder how _ h

settle_keeps : (who : ℕ) (P : Option Wait → Type 0) → Stays who P → (n : ℕ) (outcome : Settled) (w v : WaitId) (s : State) → n ≢ who
    → MaySettle n outcome (s.waits w) → P (s.waits v) → P (put_wait w (settled_wait outcome (s.waits w)) s.waits v)
settle_keeps who P k n outcome w v s apart m h = by_test (same_wait w v) refl
  where
    by_test : (b : Bool) → same_wait w v ≡ b → P (if b then settled_wait outcome (s.waits w) else s.waits v)
    by_test true e = k.settled n outcome (s.waits w) apart m (subst (λ u. P (s.waits u)) (sym (same_wait-eq w v e)) h)
    by_test false e = h

-- another's act leaves it
pub other_keeps : (shape : Shape) (who : ℕ) (P : Option Wait → Type 0) → Stays who P → (n : ℕ) (v : WaitId) (s : State) (act : Act)
    → n ≢ who → Needs shape s n act → P (s.waits v) → P ((after s n act).waits v)
other_keeps shape who P y n v s (Hand c p x) apart m h = resolve_first_keeps who P y v _ _ s h
other_keeps shape who P y n v s (Put c p x) apart m h = h
other_keeps shape who P y n v s (Offer c p x w k) apart m h = one_change P s.waits w v (name_clause n k c) (y.named n k c (s.waits v)) h
other_keeps shape who P y n v s (Await c p w k) apart m h = one_change P s.waits w v (name_clause n k c) (y.named n k c (s.waits v)) h
other_keeps shape who P y n v s (Take c p x) apart m h = resolve_offer_keeps who P y v c _ _ s h
other_keeps shape who P y n v s (Admit c p) apart m h = resolve_holder_keeps who P y v (holder_at p (s.channels c).queue) _ _ h
other_keeps shape who P y n v s (Drop c p x) apart m h = remove_first_keeps P v c (s.channels c).queue s h
other_keeps shape who P y n v s (Spurn c p x) apart m h = h
other_keeps shape who P y n v s (Close c x) apart m h = h
other_keeps shape who P y n v s (Void c) apart m h = h
other_keeps shape who P y n v s (Drain c p x) apart m h = resolve_offer_keeps who P y v c _ _ s h
other_keeps shape who P y n v s (WakeClosed c p) apart m h = resolve_first_keeps who P y v _ _ s h
other_keeps shape who P y n v s (Withdraw w why) apart m h = resolve_keeps who P y v w _ s h
other_keeps shape who P y n v s (Settle w outcome) apart m h = settle_keeps who P y n outcome w v s apart m h

-- entries of others alone
none_own : (who : ℕ) (e : Entry) (es : List Entry) (b : Bool) → (e.who == who) ≡ b
    → (if b then e.act ∷ acts_of who es else acts_of who es) ≡ [] → (e.who ≢ who) × (acts_of who es ≡ [])
none_own who e es true k h = cc
none_own who e es false k h = (λ q. grind (arith, nat_tests), h)

others_from : (shape : Shape) (who : ℕ) (P : Option Wait → Type 0) → Stays who P → (v : WaitId) (s : State) (es : List Entry)
    → LegalFrom shape s es → acts_of who es ≡ [] → P (s.waits v) → P ((replay_from s es).waits v)
unfolding LegalFrom replay_from acts_of
others_from shape who P y v s [] l n h = h
others_from shape who P y v s (e ∷ es) l n h =
    let m = none_own who e es (e.who == who) refl n in
    others_from shape who P y v (after s e.who e.act) es l.1 m.1 (other_keeps shape who P y e.who v s e.act m.0 l.0 h)

pub nothing_left : {A : Type 0} (xs ys : List A) → xs ++ ys ≡ xs → ys ≡ []
nothing_left [] ys e = e
nothing_left (x ∷ xs) ys e = nothing_left xs ys (let k : xs ++ ys ≡ xs = cc in k)

pub front_empty : {A : Type 0} (xs ys : List A) → xs ++ ys ≡ [] → xs ≡ []
front_empty [] ys e = refl
front_empty (x ∷ xs) ys e = cc

-- between two moments with no act of the caller
pub others_keep : (shape : Shape) (who : ℕ) (P : Option Wait → Type 0) → Stays who P → (v : WaitId) (xs ys : List Entry) → Legal shape ys
    → IsPrefix xs ys → acts_of who ys ≡ acts_of who xs → P ((replay xs).waits v) → P ((replay ys).waits v)
others_keep shape who P y v xs ys l p e h =
    let l' : Legal shape (xs ++ p.0) = rw p.1 l in
    let parts = LegalFrom-parts shape start xs p.0 l' in
    let n : acts_of who p.0 ≡ [] = nothing_left (acts_of who xs) (acts_of who p.0) (sym (acts_of-append who xs p.0) ∙ ap (acts_of who) p.1
    ∙ e) in
    let r = others_from shape who P y v (replay xs) p.0 parts.1 n h in
    subst (λ es. P ((replay es).waits v)) p.1 (subst (λ s. P (s.waits v)) (sym (replay_from-append start xs p.0)) r)

-- what is between two histories with the same acts of the caller has them too
pub between : (who : ℕ) (xs ys zs : List Entry) → IsPrefix xs ys → IsPrefix ys zs → acts_of who zs ≡ acts_of who xs
    → (acts_of who ys ≡ acts_of who xs) × (acts_of who zs ≡ acts_of who ys)
between who xs ys zs p q e =
    let a : acts_of who ys ≡ acts_of who xs ++ acts_of who p.0 = ap (acts_of who) (sym p.1) ∙ acts_of-append who xs p.0 in
    let b : acts_of who zs ≡ acts_of who ys ++ acts_of who q.0 = ap (acts_of who) (sym q.1) ∙ acts_of-append who ys q.0 in
    let c : acts_of who xs ++ (acts_of who p.0 ++ acts_of who q.0) ≡ acts_of who xs =
    sym (append_assoc (acts_of who xs) (acts_of who p.0) (acts_of who q.0)) ∙ ap (λ l. l ++ acts_of who q.0) (sym a) ∙ sym b ∙ e in
    let d : acts_of who p.0 ≡ [] = front_empty (acts_of who p.0) (acts_of who q.0) (nothing_left (acts_of who xs) _ c) in
    let f : acts_of who ys ≡ acts_of who xs = a ∙ ap (λ l. acts_of who xs ++ l) d ∙ nothing_more (acts_of who xs) in
    (f, e ∙ sym f)

-- ---- the facts that stay

pub own_stays : (who : ℕ) → Stays who (IsOwnWait who)
own_stays who = record {
  resolved = λ how x h. elim x as (λ y. IsOwnWait who y → IsOwnWait who (resolved_wait how y)) [ None ↦ λ k. k | Some y ↦ λ k. k ] h;
  named = λ n k c x h. elim x as (λ y. IsOwnWait who y → IsOwnWait who (name_clause n k c y)) [ None ↦ λ f. absurd f | Some y ↦ λ f. f ] h;
  settled = λ n outcome x apart m h. elim x as (λ y. IsOwnWait who y
      → IsOwnWait who (settled_wait outcome y)) [ None ↦ λ k. k | Some y ↦ λ k. k ] h;
}

ready_settled : (who n : ℕ) (outcome : Settled) (x : Option Wait) → n ≢ who → MaySettle n outcome x → IsReadyWait who x
    → IsReadyWait who (settled_wait outcome x)
ready_settled who n outcome None apart m h = h
ready_settled who n outcome (Some x) apart m h = absurd (apart (sym m.0 ∙ h.0))

pub ready_stays : (who : ℕ) → Stays who (IsReadyWait who)
ready_stays who = record {
  resolved = λ how x h. elim x as (λ y. IsReadyWait who y
      → IsReadyWait who (resolved_wait how y)) [ None ↦ λ k. k | Some y ↦ λ k. (k.0, refl, k.2) ] h;
  named = λ n k c x h. elim x as (λ y. IsReadyWait who y
      → IsReadyWait who (name_clause n k c y)) [ None ↦ λ f. absurd f | Some y ↦ λ f. f ] h;
  settled = λ n outcome x apart m h. ready_settled who n outcome x apart m h;
}

unsettled_settled : (who n : ℕ) (outcome : Settled) (x : Option Wait) → n ≢ who → MaySettle n outcome x → IsUnsettledOf who x
    → IsUnsettledOf who (settled_wait outcome x)
unsettled_settled who n outcome None apart m h = h
unsettled_settled who n outcome (Some x) apart m h = absurd (apart (sym m.0 ∙ h.0))

-- others leave an unsettled wait unsettled
pub unsettled_stays : (who : ℕ) → Stays who (IsUnsettledOf who)
unsettled_stays who = record {
  resolved = λ how x h. elim x as (λ y. IsUnsettledOf who y
      → IsUnsettledOf who (resolved_wait how y)) [ None ↦ λ k. k | Some y ↦ λ k. k ] h;
  named = λ n k c x h. elim x as (λ y. IsUnsettledOf who y
      → IsUnsettledOf who (name_clause n k c y)) [ None ↦ λ f. absurd f | Some y ↦ λ f. f ] h;
  settled = λ n outcome x apart m h. unsettled_settled who n outcome x apart m h;
}
