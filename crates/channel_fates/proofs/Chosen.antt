-- The place at which a wait is resolved: there is at most one, and none where the wait is withdrawn.
use Rattle.std.specs.Prelude.{◌≡◌, ℕ, ◌+◌, ◌≤◌, ◌==◌, Bool, true, false, cond, List, [], ◌∷◌, ◌++◌, Option, Some, None, refl, if◌then◌else◌, MatchBool, ◌⊎◌, is_some}
use Rattle.std.specs.List.{list_any, AllByRecursion}
use Rattle.std.proofs.Common.{sym, ap, ◌∙◌, subst, arith, inl, inr, ⊎_elim}
use Rattle.std.proofs.lemmas.Bool.{eqb-true}
use Rattle.std.proofs.lemmas.Option.{cond_some}
use Rattle.co_base.specs.declared.names.WaitId.{WaitId}
use Rattle.channel_model.specs.declared.acts.Act.{Act}
use Rattle.channel_model.specs.declared.acts.Act.TheVariants.{Hand, Offer, Await, Take, Admit, Drain, WakeClosed, Withdraw}
use Rattle.channel_model.specs.declared.acts.Kind.{Kind}
use Rattle.channel_model.specs.declared.standing.Party.{Party}
use Rattle.channel_model.specs.declared.standing.Standing.{Standing}
use Rattle.channel_model.specs.declared.standing.Receiver.{Receiver}
use Rattle.channel_model.specs.Channels.{Shape, State, Channel, same_wait, kind_at, is_full}
use Rattle.channel_model.specs.Effects.{holder_at}
use Rattle.channel_model.specs.Needs.{Needs, IsFirstOffer, IsFirstReceiver, MayBeAdmitted}
use Rattle.channel_model.specs.Fates.{is_at, admits, withdraws, wait_at, places_wait, resolves_at, removes}
use Rattle.channel_model.specs.Laws.{how_many, wait_of_party, first_waiting, first_holding, resolves}
use Rattle.channel_model.proofs.Waits.{same_wait-eq, same_wait-refl}
use Rattle.channel_fates.proofs.Appended.{any_count, found, first_found, first_kept, first_last}
use Rattle.channel_fates.proofs.OncePlaced.{enters, awaits, answers, Counted, at_both}
use Rattle.channel_fates.proofs.StandsByActs.{puts, offers, HolderKnown, OfferKnown, ReceiverKnown, AllKnown, places_none, enters_count}
use Rattle.channel_model.proofs.Apart.{how_many_push}

-- ---- the wait that an act resolves is that of its place

abbrev pub Unheld : List Act → ℕ × ℕ → Type 0
Unheld acts x = (list_any (puts x.0 x.1) acts ≡ true) ⊎ (list_any (admits x.0 x.1) acts ≡ true)

-- nobody holds what stands there, or the place's wait is that
abbrev pub Source : List Act → Option WaitId → ℕ × ℕ → Type 0
Source acts o x = ((o ≡ None) × Unheld acts x) ⊎ ((w : WaitId) × (o ≡ Some w) × (wait_at x.0 x.1 acts ≡ Some w))

holder_source : (acts : List Act) (c p : ℕ) (h : Option Party) → HolderKnown acts c p h → Source acts (wait_of_party h) (c, p)
holder_source acts c p None h = inl (refl, h)
holder_source acts c p (Some x) h = inr (x.wait, refl, h.1)

offer_source : (acts : List Act) (c p v : ℕ) (os : List Standing) → AllByRecursion (OfferKnown acts c) os → IsFirstOffer p v os
    → Source acts (first_holding os) (c, p)
offer_source acts c p v [] h n = absurd n
offer_source acts c p v (o ∷ os) h n = subst (λ q. Source acts (wait_of_party o.holder) (c, q)) n.0
    (holder_source acts c o.place o.holder h.0.0)

receiver_source : (acts : List Act) (c p : ℕ) (rs : List Receiver) → AllByRecursion (ReceiverKnown acts c) rs → IsFirstReceiver p rs
    → Source acts (first_waiting rs) (c, p)
receiver_source acts c p [] h n = absurd n
receiver_source acts c p (r ∷ rs) h n = inr (r.party.wait, refl, subst (λ q. wait_at c q acts ≡ Some r.party.wait) n h.0)

admitted_source : (acts : List Act) (kind : Kind) (c p n : ℕ) (os : List Standing) → AllByRecursion (OfferKnown acts c) os
    → MayBeAdmitted kind p n os → Source acts (wait_of_party (holder_at p os)) (c, p)
admitted_source acts kind c p n [] h m = absurd m
admitted_source acts kind c p n (o ∷ os) h m = by_test (o.place == p) refl m (admitted_source acts kind c p (n + 1) os h.1)
  where
    by_test : (b : Bool) → (o.place == p) ≡ b → MatchBool b ((is_some o.holder ≡ true)
        × (is_full kind n ≡ false)) (MayBeAdmitted kind p (n + 1) os)
        → (MayBeAdmitted kind p (n + 1) os → Source acts (wait_of_party (holder_at p os)) (c, p))
        → Source acts (wait_of_party (if b then o.holder else holder_at p os)) (c, p)
    by_test true e m k = subst (λ q. Source acts (wait_of_party o.holder) (c, q)) (eqb-true o.place p e)
        (holder_source acts c o.place o.holder h.0.0)
    by_test false e m k = k m

moved : (acts : List Act) (o : Option WaitId) (x y : ℕ × ℕ) → Some x ≡ Some y → Source acts o x → Source acts o y
moved acts o x y e h = let k : x ≡ y = cc in subst (Source acts o) k h

pub source_of : (shape : Shape) (acts : List Act) (s : State) (who : ℕ) (act : Act) → Needs shape s who act → AllKnown acts s → (x : ℕ × ℕ)
    → resolves_at act ≡ Some x → Source acts (resolves s act) x
source_of shape acts s who (Hand c p v) n h x e = moved acts _ (c, p) x e (receiver_source acts c p _ (h c).receivers n.2)
source_of shape acts s who (Take c p v) n h x e = moved acts _ (c, p) x e (offer_source acts c p v _ (h c).offers n.1)
source_of shape acts s who (Admit c p) n h x e = moved acts _ (c, p) x e (admitted_source acts (kind_at shape c) c p 0 _ (h c).offers n.1)
source_of shape acts s who (Drain c p v) n h x e = moved acts _ (c, p) x e (offer_source acts c p v _ (h c).offers n.2)
source_of shape acts s who (WakeClosed c p) n h x e = moved acts _ (c, p) x e (receiver_source acts c p _ (h c).receivers n.2)
source_of shape acts s who other n h x e = cc

-- an act that resolves a wait and names no place withdraws it
pub withdraws_only : (s : State) (act : Act) (w : WaitId) → resolves_at act ≡ None → resolves s act ≡ Some w → withdraws w act ≡ true
withdraws_only s (Withdraw u why) w e f = let m : w ≡ u = cc in subst (λ x. same_wait w x ≡ true) m (same_wait-refl w)
withdraws_only s other w e f = cc

pub withdrawn_now : (s : State) (act : Act) (w : WaitId) → withdraws w act ≡ true → (resolves s act ≡ Some w) × (resolves_at act ≡ None)
withdrawn_now s (Withdraw v why) w e = (ap (λ u. Some u) (sym (same_wait-eq w v e)), refl)
withdrawn_now s other w e = cc

-- ---- the place at which a wait is resolved

-- the place is the one that the act resolves
abbrev pub is_this : ℕ → ℕ → Option (ℕ × ℕ) → Bool
is_this c p None = false
is_this c p (Some x) = is_at c p x.0 x.1

abbrev pub resolver : ℕ → ℕ → Act → Bool
resolver c p act = is_this c p (resolves_at act)

-- the wait of the place, and an act at the place that answers it
abbrev pub Chosen : List Act → ℕ → ℕ → WaitId → Type 0
Chosen acts c p w = (wait_at c p acts ≡ Some w) × (list_any (resolver c p) acts ≡ true)

pub this_place : (c p : ℕ) (o : Option (ℕ × ℕ)) → is_this c p o ≡ true → o ≡ Some (c, p)
this_place c p None e = cc
this_place c p (Some x) e = let k = at_both c p x.0 x.1 e in ap (λ y. Some y) (pair x.0 x.1 c p k.0 k.1)
  where
    pair : (a b m n : ℕ) → a ≡ m → b ≡ n → ◌≡◌ {A = ℕ × ℕ} (a, b) (m, n)
    pair a b m n e f = cc

pub resolver_is : (c p : ℕ) (act : Act) → resolver c p act ≡ true → (answers c p act ≡ true)
    ⊎ ((removes c p act ≡ true) ⊎ (admits c p act ≡ true))
resolver_is c p (Hand d q v) e = inl e
resolver_is c p (Take d q v) e = inr (inl e)
resolver_is c p (Admit d q) e = inr (inr e)
resolver_is c p (Drain d q v) e = inr (inl e)
resolver_is c p (WakeClosed d q) e = inl e
resolver_is c p other e = cc

-- a place at which an act resolved was given out
pub resolver_given : (c p : ℕ) (acts : List Act) (ch : Channel) → Counted c p acts ch → list_any (resolver c p) acts ≡ true
    → 1 ≤ how_many (enters c p) acts + how_many (awaits c p) acts
resolver_given c p acts ch h e =
    let f = found (resolver c p) acts e in
    ⊎_elim
    (λ k. let n = any_count (answers c p) acts (f.2 (answers c p) k) in omega (arith, h.receivers))
    (λ m. ⊎_elim
    (λ k. let n = any_count (removes c p) acts (f.2 (removes c p) k) in omega (arith, h.queue))
    (λ k. let n = h.admitted (f.2 (admits c p) k) in omega arith)
    m)
    (resolver_is c p f.0 f.1)

placing : (c p : ℕ) (act : Act) (w : WaitId) → places_wait c p act ≡ Some w → 1 ≤ cond (enters c p act) 1 0 + cond (awaits c p act) 1 0
placing c p act w e = by_tests (enters c p act) (awaits c p act) refl refl
  where
    by_tests : (a b : Bool) → enters c p act ≡ a → awaits c p act ≡ b → 1 ≤ cond a 1 0 + cond b 1 0
    by_tests true b k m = omega arith
    by_tests false true k m = omega arith
    by_tests false false k m = let n = places_none c p act k m in cc

-- the wait of a place that was given out is not named later
pub wait_before : (c p : ℕ) (acts : List Act) (act : Act) (w : WaitId) → 1 ≤ how_many (enters c p) acts + how_many (awaits c p) acts
    → how_many (enters c p) (acts ++ act ∷ []) + how_many (awaits c p) (acts ++ act ∷ []) ≤ 1
    → wait_at c p (acts ++ act ∷ []) ≡ Some w → wait_at c p acts ≡ Some w
wait_before c p acts act w g h e = by_wait (wait_at c p acts) refl
  where
    by_wait : (o : Option WaitId) → wait_at c p acts ≡ o → o ≡ Some w
    by_wait (Some u) k = let m = first_kept (places_wait c p) acts (act ∷ []) u k in cc
    by_wait None k =
        let m : places_wait c p act ≡ Some w = sym (first_last (places_wait c p) acts act k) ∙ e in
        let n = placing c p act w m in
        absurd (omega (arith, how_many_push (enters c p) acts act, how_many_push (awaits c p) acts act))

waiting : (c p : ℕ) (act : Act) (w : WaitId) → places_wait c p act ≡ Some w → (offers c p act ≡ true) ⊎ (awaits c p act ≡ true)
waiting c p (Offer d q v u k) w e = inl (cond_some (is_at c p d q) u w e).0
waiting c p (Await d q u k) w e = inr (cond_some (is_at c p d q) u w e).0
waiting c p other w e = cc

-- a place that has a wait was offered or awaited
pub wait_counted : (c p : ℕ) (acts : List Act) (w : WaitId) → wait_at c p acts ≡ Some w
    → 1 ≤ how_many (offers c p) acts + how_many (awaits c p) acts
wait_counted c p acts w e =
    let f = first_found (places_wait c p) acts w e in
    ⊎_elim (λ k. let n = any_count (offers c p) acts (f.2 (offers c p) k)
    in omega arith) (λ k. let n = any_count (awaits c p) acts (f.2 (awaits c p) k) in omega arith) (waiting c p f.0 w f.1)

-- a place that an element was put at has no wait
pub put_alone : (c p : ℕ) (acts : List Act) (ch : Channel) (w : WaitId) → Counted c p acts ch → list_any (puts c p) acts ≡ true
    → wait_at c p acts ≡ Some w → ⊥
put_alone c p acts ch w h e f =
    let a = any_count (puts c p) acts e in
    let b = wait_counted c p acts w f in
    let k = enters_count c p acts in
    omega (arith, h.given)
