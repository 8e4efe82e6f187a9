-- Whoever stands at a channel has an open wait with a clause there.
use Rattle.std.specs.Prelude.{◌≡◌, ℕ, ◌==◌, Bool, true, false, not, cond, is_none, ◌||◌, List, [], ◌∷◌, ◌++◌, filter, Option, Some, None, refl, if◌then◌else◌}
use Rattle.std.specs.List.{list_any}
use Rattle.std.proofs.Common.{sym, ap, ◌∙◌, subst, arith}
use Rattle.std.proofs.lemmas.Bool.{eqb-true, or_right}
use Rattle.std.proofs.lemmas.List.Folds.{list_any-append}
use Rattle.std.proofs.lemmas.Bool.Decides.{nat_tests}
use Rattle.channel_model.specs.declared.acts.Act.{Act}
use Rattle.channel_model.specs.declared.acts.Act.TheVariants.{Hand, Put, Offer, Await, Take, Admit, Drop, Spurn, Close, Void, Drain, WakeClosed, Withdraw, Settle}
use Rattle.channel_model.specs.declared.acts.Entry.{Entry}
use Rattle.channel_model.specs.declared.acts.Settled.{Settled}
use Rattle.channel_model.specs.declared.standing.Party.{Party}
use Rattle.channel_model.specs.declared.standing.Standing.{Standing}
use Rattle.channel_model.specs.declared.standing.Receiver.{Receiver}
use Rattle.channel_model.specs.declared.standing.Resolution.{Resolution}
use Rattle.co_base.specs.declared.names.WaitId.{WaitId}
use Rattle.channel_model.specs.Channels.{State, Channel, Wait, same_wait, start}
use Rattle.channel_model.specs.Effects.{after, resolve, resolve_first, resolve_holder, resolve_offer, remove_first, with_queue, is_held_by, put_channel, put_wait, name_clause, settled_wait, is_open, place_offer, place_receiver, admitted, holder_at, is_elsewhere, spurned}
use Rattle.channel_model.specs.Histories.{replay, replay_from}
use Rattle.channel_model.specs.Laws.{IsStandingAt, HolderStands, OffersStand, ReceiversStand, StandOpen, AllStandOpen}
use Rattle.channel_model.proofs.Waits.{same_wait-eq, at_wait}

-- ---- where the waits change

-- what stood stands still
abbrev pub Keeps : (waits waits' : WaitId → Option Wait) → Type 0
Keeps waits waits' = (c : ℕ) (v : WaitId) → IsStandingAt c (waits v) → IsStandingAt c (waits' v)

holder_keeps : (waits waits' : WaitId → Option Wait) → Keeps waits waits' → (c : ℕ) (h : Option Party) → HolderStands waits c h
    → HolderStands waits' c h
holder_keeps waits waits' k c None h = h
holder_keeps waits waits' k c (Some p) h = k c p.wait h

offers_keep : (waits waits' : WaitId → Option Wait) → Keeps waits waits' → (c : ℕ) (os : List Standing) → OffersStand waits c os
    → OffersStand waits' c os
unfolding OffersStand
offers_keep waits waits' k c [] h = h
offers_keep waits waits' k c (o ∷ os) h = (holder_keeps waits waits' k c o.holder h.0, offers_keep waits waits' k c os h.1)

receivers_keep : (waits waits' : WaitId → Option Wait) → Keeps waits waits' → (c : ℕ) (rs : List Receiver) → ReceiversStand waits c rs
    → ReceiversStand waits' c rs
unfolding ReceiversStand
receivers_keep waits waits' k c [] h = h
receivers_keep waits waits' k c (r ∷ rs) h = (k c r.party.wait h.0, receivers_keep waits waits' k c rs h.1)

channel_keeps : (waits waits' : WaitId → Option Wait) → Keeps waits waits' → (c : ℕ) (ch : Channel) → StandOpen waits c ch
    → StandOpen waits' c ch
channel_keeps waits waits' k c ch h = record {
  offers = offers_keep waits waits' k c ch.queue h.offers;
  receivers =
      receivers_keep waits waits' k c ch.receivers h.receivers;
}

-- ---- a wait that is resolved leaves

other_wait : (waits : WaitId → Option Wait) (w v : WaitId) (x : Option Wait) (c : ℕ) → same_wait w v ≡ false → IsStandingAt c (waits v)
    → IsStandingAt c (put_wait w x waits v)
other_wait waits w v x c e h = let P : Bool → Type 0 = λ b. IsStandingAt c (if b then x else waits v) in subst P (sym e) h

other_holder : (waits : WaitId → Option Wait) (w : WaitId) (x : Option Wait) (c : ℕ) (h : Option Party) → is_held_by w h ≡ false
    → HolderStands waits c h → HolderStands (put_wait w x waits) c h
other_holder waits w x c None e h = h
other_holder waits w x c (Some p) e h = other_wait waits w p.wait x c e h

offer_kept : (waits : WaitId → Option Wait) (w : WaitId) (x : Option Wait) (c : ℕ) (o : Standing) (rest : List Standing) (b : Bool)
    → is_held_by w o.holder ≡ b → HolderStands waits c o.holder → OffersStand (put_wait w x waits) c rest
    → OffersStand (put_wait w x waits) c (cond (not b) (o ∷ rest) rest)
unfolding OffersStand
offer_kept waits w x c o rest true e h k = k
offer_kept waits w x c o rest false e h k = (other_holder waits w x c o.holder e h, k)

offers_without : (waits : WaitId → Option Wait) (w : WaitId) (x : Option Wait) (c : ℕ) (os : List Standing) → OffersStand waits c os
    → OffersStand (put_wait w x waits) c (filter (λ o. not (is_held_by w o.holder)) os)
unfolding OffersStand
offers_without waits w x c [] h = h
offers_without waits w x c (o ∷ os) h = offer_kept waits w x c o _ (is_held_by w o.holder) refl h.0 (offers_without waits w x c os h.1)

receiver_kept : (waits : WaitId → Option Wait) (w : WaitId) (x : Option Wait) (c : ℕ) (r : Receiver) (rest : List Receiver) (b : Bool)
    → same_wait w r.party.wait ≡ b → IsStandingAt c (waits r.party.wait) → ReceiversStand (put_wait w x waits) c rest
    → ReceiversStand (put_wait w x waits) c (cond (not b) (r ∷ rest) rest)
unfolding ReceiversStand
receiver_kept waits w x c r rest true e h k = k
receiver_kept waits w x c r rest false e h k = (other_wait waits w r.party.wait x c e h, k)

receivers_without : (waits : WaitId → Option Wait) (w : WaitId) (x : Option Wait) (c : ℕ) (rs : List Receiver) → ReceiversStand waits c rs
    → ReceiversStand (put_wait w x waits) c (filter (λ r. not (same_wait w r.party.wait)) rs)
unfolding ReceiversStand
receivers_without waits w x c [] h = h
receivers_without waits w x c (r ∷ rs) h = receiver_kept waits w x c r _ (same_wait w r.party.wait) refl h.0
    (receivers_without waits w x c rs h.1)

pub resolve_open : (w : WaitId) (how : Resolution) (s : State) → AllStandOpen s → AllStandOpen (resolve w how s)
resolve_open w how s h c = record {
  offers = offers_without s.waits w _ c _ (h c).offers;
  receivers =
      receivers_without s.waits w _ c _ (h c).receivers;
}

resolve_first_open : (rs : List Receiver) (how : ℕ → Resolution) (s : State) → AllStandOpen s → AllStandOpen (resolve_first rs how s)
resolve_first_open [] how s h = h
resolve_first_open (r ∷ rs) how s h = resolve_open r.party.wait (how r.party.clause) s h

resolve_holder_open : (p : Option Party) (how : ℕ → Resolution) (s : State) → AllStandOpen s → AllStandOpen (resolve_holder p how s)
resolve_holder_open None how s h = h
resolve_holder_open (Some p) how s h = resolve_open p.wait (how p.clause) s h

-- ---- one channel changes

pub put_open : (c : ℕ) (ch : Channel) (s : State) → AllStandOpen s → StandOpen s.waits c ch
    → AllStandOpen (record s { channels = put_channel c ch s.channels })
put_open c ch s h k d = put_case (c == d) refl
  where
    put_case : (b : Bool) → (c == d) ≡ b → StandOpen s.waits d (if b then ch else s.channels d)
    put_case true e = subst (λ n. StandOpen s.waits n ch) (eqb-true c d e) k
    put_case false e = h d

pub with_queue_open : (c : ℕ) (os : List Standing) (s : State) → AllStandOpen s → OffersStand s.waits c os
    → AllStandOpen (with_queue c os s)
with_queue_open c os s h k = put_open c _ s h (record { offers = k; receivers = (h c).receivers })

remove_first_open : (c : ℕ) (os : List Standing) (s : State) → AllStandOpen s → OffersStand s.waits c os
    → AllStandOpen (remove_first c os s)
unfolding OffersStand
remove_first_open c [] s h k = h
remove_first_open c (o ∷ os) s h k = with_queue_open c os s h k.1

resolve_offer_open : (c : ℕ) (os : List Standing) (how : ℕ → Resolution) (s : State) → AllStandOpen s → OffersStand s.waits c os
    → AllStandOpen (resolve_offer c os how s)
unfolding OffersStand
resolve_offer_open c [] how s h k = h
resolve_offer_open c (o ∷ os) how s h k = resolve_holder_open o.holder how _ (with_queue_open c os s h k.1)

pub offers_admitted : (waits : WaitId → Option Wait) (c p : ℕ) (os : List Standing) → OffersStand waits c os
    → OffersStand waits c (admitted p os)
unfolding OffersStand
offers_admitted waits c p [] h = h
offers_admitted waits c p (o ∷ os) h =
    elim (o.place == p) as (λ b. OffersStand waits c (if b then record o { holder = None } ∷ os else o ∷ admitted p os))
    [ true ↦ (tt, h.1) | false ↦ (h.0, offers_admitted waits c p os h.1) ]

pub offers_spurned : (waits : WaitId → Option Wait) (c p : ℕ) (os : List Standing) → OffersStand waits c os
    → OffersStand waits c (spurned p os)
unfolding OffersStand
offers_spurned waits c p [] h = h
offers_spurned waits c p (o ∷ os) h =
    elim (is_elsewhere p o) as (λ b. OffersStand waits c (cond b (o ∷ spurned p os) (spurned p os)))
    [ true ↦ (h.0, offers_spurned waits c p os h.1) | false ↦ offers_spurned waits c p os h.1 ]

-- ---- a clause is placed

offers_push : (waits : WaitId → Option Wait) (c : ℕ) (os : List Standing) (o : Standing) → OffersStand waits c os
    → HolderStands waits c o.holder → OffersStand waits c (os ++ o ∷ [])
unfolding OffersStand
offers_push waits c [] o h k = (k, tt)
offers_push waits c (x ∷ os) o h k = (h.0, offers_push waits c os o h.1 k)

receivers_push : (waits : WaitId → Option Wait) (c : ℕ) (rs : List Receiver) (r : Receiver) → ReceiversStand waits c rs
    → IsStandingAt c (waits r.party.wait) → ReceiversStand waits c (rs ++ r ∷ [])
unfolding ReceiversStand
receivers_push waits c [] r h k = (k, tt)
receivers_push waits c (x ∷ rs) r h k = (h.0, receivers_push waits c rs r h.1 k)

names_more : (c : ℕ) (y : ℕ × ℕ) (xs : List (ℕ × ℕ)) → list_any (λ (z : ℕ × ℕ). z.1 == c) xs ≡ true
    → list_any (λ (z : ℕ × ℕ). z.1 == c) (xs ++ y ∷ []) ≡ true
names_more c y xs e = list_any-append (λ (z : ℕ × ℕ). z.1 == c) xs (y ∷ []) ∙ ap (λ b. b || ((y.1 == c) || false)) e

here : (c : ℕ) → ((c == c) || false) ≡ true
here c = grind (arith, nat_tests)

names_last : (c k : ℕ) (xs : List (ℕ × ℕ)) → list_any (λ (z : ℕ × ℕ). z.1 == c) (xs ++ (k, c) ∷ []) ≡ true
names_last c k xs = list_any-append (λ (z : ℕ × ℕ). z.1 == c) xs ((k, c) ∷ [])
    ∙ ap (λ b. list_any (λ (z : ℕ × ℕ). z.1 == c) xs || b) (here c) ∙ or_right (list_any (λ (z : ℕ × ℕ). z.1 == c) xs) true refl

-- a clause more keeps what stands
named_stands : (who k c d : ℕ) (x : Option Wait) → IsStandingAt d x → IsStandingAt d (name_clause who k c x)
named_stands who k c d None h = absurd h
named_stands who k c d (Some x) h = (h.0, names_more d (k, c) x.clauses h.1)

open_resolved : (how : Option Resolution) → is_none how ≡ true → how ≡ None
open_resolved None e = refl
open_resolved (Some how) e = cc

-- and stands at its channel, where the wait is open
named_here : (who k c : ℕ) (x : Option Wait) → is_open x ≡ true → IsStandingAt c (name_clause who k c x)
named_here who k c None e = (refl, here c)
named_here who k c (Some x) e = (open_resolved x.resolved e, names_last c k x.clauses)

-- a change of one wait that keeps it standing
one_keeps : (waits : WaitId → Option Wait) (w : WaitId) (f : Option Wait → Option Wait)
    → ((d : ℕ) (x : Option Wait) → IsStandingAt d x → IsStandingAt d (f x)) → Keeps waits (put_wait w (f (waits w)) waits)
one_keeps waits w f k c v h = here_or (same_wait w v) refl
  where
    here_or : (b : Bool) → same_wait w v ≡ b → IsStandingAt c (if b then f (waits w) else waits v)
    here_or true e = k c (waits w) (subst (λ u. IsStandingAt c (waits u)) (sym (same_wait-eq w v e)) h)
    here_or false e = h

settled_stands : (outcome : Settled) (d : ℕ) (x : Option Wait) → IsStandingAt d x → IsStandingAt d (settled_wait outcome x)
settled_stands outcome d None h = h
settled_stands outcome d (Some x) h = h

offer_placed : (waits : WaitId → Option Wait) (c : ℕ) (ch : Channel) (o : Standing) (b : Bool) → StandOpen waits c ch
    → (b ≡ true → HolderStands waits c o.holder) → StandOpen waits c (place_offer b o ch)
offer_placed waits c ch o false h k = record { offers = h.offers; receivers = h.receivers }
offer_placed waits c ch o true h k = record { offers = offers_push waits c ch.queue o h.offers (k refl); receivers = h.receivers }

receiver_placed : (waits : WaitId → Option Wait) (c : ℕ) (ch : Channel) (r : Receiver) (b : Bool) → StandOpen waits c ch
    → (b ≡ true → IsStandingAt c (waits r.party.wait)) → StandOpen waits c (place_receiver b r ch)
receiver_placed waits c ch r false h k = record { offers = h.offers; receivers = h.receivers }
receiver_placed waits c ch r true h k = record { offers = h.offers; receivers = receivers_push waits c ch.receivers r h.receivers (k refl) }

keeps_open : (s : State) (waits : WaitId → Option Wait) → Keeps s.waits waits → AllStandOpen s → AllStandOpen (record s { waits = waits })
keeps_open s waits k h c = channel_keeps s.waits waits k c (s.channels c) (h c)

-- every act keeps it
pub after_open : (s : State) (who : ℕ) (act : Act) → AllStandOpen s → AllStandOpen (after s who act)
after_open s who (Hand c p v) h = resolve_first_open (s.channels c).receivers _ s h
after_open s who (Put c p v) h = put_open c _ s h (offer_placed s.waits c (s.channels c) _ true (h c) (λ e. tt))
after_open s who (Offer c p v w k) h =
    let waits' : WaitId → Option Wait = put_wait w (name_clause who k c (s.waits w)) s.waits in
    let h' = keeps_open s waits' (one_keeps s.waits w (name_clause who k c) (named_stands who k c)) h in
    put_open c _ (record s { waits = waits' }) h' (offer_placed waits' c (s.channels c) _ (is_open (s.waits w)) (h' c)
    (λ e. subst (IsStandingAt c) (sym (at_wait w _ s.waits)) (named_here who k c (s.waits w) e)))
after_open s who (Await c p w k) h =
    let waits' : WaitId → Option Wait = put_wait w (name_clause who k c (s.waits w)) s.waits in
    let h' = keeps_open s waits' (one_keeps s.waits w (name_clause who k c) (named_stands who k c)) h in
    put_open c _ (record s { waits = waits' }) h' (receiver_placed waits' c (s.channels c) _ (is_open (s.waits w)) (h' c)
    (λ e. subst (IsStandingAt c) (sym (at_wait w _ s.waits)) (named_here who k c (s.waits w) e)))
after_open s who (Take c p v) h = resolve_offer_open c (s.channels c).queue _ s h (h c).offers
after_open s who (Admit c p) h = resolve_holder_open (holder_at p (s.channels c).queue) _ _
    (with_queue_open c _ s h (offers_admitted s.waits c p _ (h c).offers))
after_open s who (Drop c p v) h = remove_first_open c (s.channels c).queue s h (h c).offers
after_open s who (Spurn c p v) h = with_queue_open c _ s h (offers_spurned s.waits c p (s.channels c).queue (h c).offers)
after_open s who (Close c v) h = put_open c _ s h (record { offers = (h c).offers; receivers = (h c).receivers })
after_open s who (Void c) h = put_open c _ s h (record { offers = (h c).offers; receivers = (h c).receivers })
after_open s who (Drain c p v) h = resolve_offer_open c (s.channels c).queue _ s h (h c).offers
after_open s who (WakeClosed c p) h = resolve_first_open (s.channels c).receivers _ s h
after_open s who (Withdraw w why) h = resolve_open w _ s h
after_open s who (Settle w outcome) h = keeps_open s _ (one_keeps s.waits w (settled_wait outcome) (settled_stands outcome)) h

pub start_open : AllStandOpen start
unfolding OffersStand ReceiversStand
start_open c = record { offers = tt; receivers = tt }

from_open : (s : State) (es : List Entry) → AllStandOpen s → AllStandOpen (replay_from s es)
unfolding replay_from
from_open s [] h = h
from_open s (e ∷ es) h = from_open (after s e.who e.act) es (after_open s e.who e.act h)

pub replay_open : (es : List Entry) → AllStandOpen (replay es)
replay_open es = from_open start es start_open
