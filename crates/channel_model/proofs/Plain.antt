-- Histories whose acts only offer, receive and end waits.
use Rattle.std.specs.Prelude.{◌≡◌, ℕ, ◌+◌, ◌<◌, ◌==◌, Bool, true, false, not, ◌&&◌, List, [], ◌∷◌, length, Option, Some, None, refl, if◌then◌else◌, is_some}
use Rattle.std.proofs.Common.{ap, ◌∙◌}
use Rattle.std.proofs.lemmas.Bool.{and_parts, or_from}
use Rattle.co_base.specs.declared.names.WaitId.{WaitId}
use Rattle.channel_model.specs.declared.acts.Kind.{Kind}
use Rattle.channel_model.specs.declared.acts.Kind.TheVariants.{Rendezvous, Signal}
use Rattle.channel_model.specs.declared.acts.Act.{Act}
use Rattle.channel_model.specs.declared.acts.Act.TheVariants.{Hand, Put, Offer, Await, Take, Settle}
use Rattle.channel_model.specs.declared.acts.Entry.{Entry}
use Rattle.channel_model.specs.declared.acts.Settled.{Settled}
use Rattle.channel_model.specs.declared.standing.Party.{Party}
use Rattle.channel_model.specs.declared.standing.Standing.{Standing}
use Rattle.channel_model.specs.declared.standing.Receiver.{Receiver}
use Rattle.channel_model.specs.declared.standing.Resolution.{Resolution}
use Rattle.channel_model.specs.Channels.{Shape, State, Channel, Wait, start, kind_at, is_full, drops, spurns}
use Rattle.channel_model.specs.Effects.{after, put_channel, put_wait, resolve, resolve_first, resolve_holder, resolve_offer, with_queue, resolved_wait, name_clause, settled_wait, is_open, place_offer, place_receiver}
use Rattle.channel_model.specs.Histories.{replay, replay_from}
use Rattle.channel_model.specs.Laws.{is_plain_act, is_plain_history, is_exchange, is_plain_wait, IsPlain, keeps_none}
use Rattle.channel_model.specs.Owing.{owes_admission, owes, stands_any, OwesNothing, owes_spurn}
use Rattle.channel_model.proofs.Waits.{one_change}

-- ---- every plain act keeps it

abbrev PlainWait : Option Wait → Type 0
PlainWait x = is_plain_wait x ≡ true

plain_resolved : (how : Resolution) (x : Option Wait) → is_exchange how ≡ true → PlainWait x → PlainWait (resolved_wait how x)
plain_resolved how None e h = refl
plain_resolved how (Some x) e h = e

plain_named : (who k c : ℕ) (x : Option Wait) → PlainWait x → PlainWait (name_clause who k c x)
plain_named who k c None h = refl
plain_named who k c (Some x) h = h

plain_settled : (outcome : Settled) (x : Option Wait) → PlainWait x → PlainWait (settled_wait outcome x)
plain_settled outcome None h = refl
plain_settled outcome (Some x) h = h

resolve_plain : (w : WaitId) (how : Resolution) (s : State) → is_exchange how ≡ true → IsPlain s → IsPlain (resolve w how s)
resolve_plain w how s e h = record {
  not_closed = h.not_closed;
  not_voided = h.not_voided;
  waits = λ v. one_change PlainWait s.waits w v (resolved_wait how) (plain_resolved how (s.waits v) e) (h.waits v);
}

first_plain : (rs : List Receiver) (how : ℕ → Resolution) (s : State) → ((k : ℕ) → is_exchange (how k) ≡ true) → IsPlain s
    → IsPlain (resolve_first rs how s)
first_plain [] how s e h = h
first_plain (r ∷ rs) how s e h = resolve_plain r.party.wait (how r.party.clause) s (e r.party.clause) h

holder_plain : (p : Option Party) (how : ℕ → Resolution) (s : State) → ((k : ℕ) → is_exchange (how k) ≡ true) → IsPlain s
    → IsPlain (resolve_holder p how s)
holder_plain None how s e h = h
holder_plain (Some p) how s e h = resolve_plain p.wait (how p.clause) s (e p.clause) h

put_plain : (c : ℕ) (ch : Channel) (s : State) → ch.closed ≡ None → ch.voided ≡ false → IsPlain s
    → IsPlain (record s { channels = put_channel c ch s.channels })
put_plain c ch s e f h = record {
  not_closed = λ d. elim (c == d) as (λ b. (if b then ch else s.channels d).closed ≡ None) [ true ↦ e | false ↦ h.not_closed d ];
  not_voided = λ d. elim (c == d) as (λ b. (if b then ch else s.channels d).voided ≡ false) [ true ↦ f | false ↦ h.not_voided d ];
  waits = h.waits;
}

stood_plain : (stood : ℕ → ℕ → ℕ) (s : State) → IsPlain s → IsPlain (record s { stood = stood })
stood_plain stood s h = record { not_closed = h.not_closed; not_voided = h.not_voided; waits = h.waits }

offer_plain : (c : ℕ) (os : List Standing) (how : ℕ → Resolution) (s : State) → ((k : ℕ) → is_exchange (how k) ≡ true) → IsPlain s
    → IsPlain (resolve_offer c os how s)
offer_plain c [] how s e h = h
offer_plain c (o ∷ os) how s e h = holder_plain o.holder how (with_queue c os s) e (put_plain c _ s (h.not_closed c) (h.not_voided c) h)

waits_plain : (s : State) (w : WaitId) (f : Option Wait → Option Wait) → ((x : Option Wait) → PlainWait x → PlainWait (f x)) → IsPlain s
    → IsPlain (record s { waits = put_wait w (f (s.waits w)) s.waits })
waits_plain s w f k h = record {
  not_closed = h.not_closed;
  not_voided = h.not_voided;
  waits =
      λ v. one_change PlainWait s.waits w v f (k (s.waits v)) (h.waits v);
}

offer_closed : (b : Bool) (o : Standing) (ch : Channel) → (place_offer b o ch).closed ≡ ch.closed
offer_closed true o ch = refl
offer_closed false o ch = refl

offer_voided : (b : Bool) (o : Standing) (ch : Channel) → (place_offer b o ch).voided ≡ ch.voided
offer_voided true o ch = refl
offer_voided false o ch = refl

receiver_closed : (b : Bool) (r : Receiver) (ch : Channel) → (place_receiver b r ch).closed ≡ ch.closed
receiver_closed true r ch = refl
receiver_closed false r ch = refl

receiver_voided : (b : Bool) (r : Receiver) (ch : Channel) → (place_receiver b r ch).voided ≡ ch.voided
receiver_voided true r ch = refl
receiver_voided false r ch = refl

after_plain : (s : State) (who : ℕ) (act : Act) → is_plain_act act ≡ true → IsPlain s → IsPlain (after s who act)
after_plain s who (Hand c p v) e h = first_plain _ _ s (λ k. refl) h
after_plain s who (Put c p v) e h = stood_plain _ _ (put_plain c _ s (h.not_closed c) (h.not_voided c) h)
after_plain s who (Offer c p v w k) e h =
    let b = is_open (s.waits w) in
    stood_plain _ _ (waits_plain _ w (name_clause who k c) (plain_named who k c)
    (put_plain c _ s (offer_closed b _ (s.channels c) ∙ h.not_closed c) (offer_voided b _ (s.channels c) ∙ h.not_voided c) h))
after_plain s who (Await c p w k) e h =
    let b = is_open (s.waits w) in
    waits_plain _ w (name_clause who k c) (plain_named who k c)
    (put_plain c _ s (receiver_closed b _ (s.channels c) ∙ h.not_closed c) (receiver_voided b _ (s.channels c) ∙ h.not_voided c) h)
after_plain s who (Take c p v) e h = offer_plain c _ _ s (λ k. refl) h
after_plain s who (Settle w outcome) e h = waits_plain s w (settled_wait outcome) (plain_settled outcome) h
after_plain s who other e h = cc

from_plain : (s : State) (es : List Entry) → is_plain_history es ≡ true → IsPlain s → IsPlain (replay_from s es)
unfolding replay_from
from_plain s [] e h = h
from_plain s (x ∷ es) e h =
    let k = and_parts (is_plain_act x.act) (is_plain_history es) e in
    from_plain (after s x.who x.act) es k.1 (after_plain s x.who x.act k.0 h)

pub replay_plain : (es : List Entry) → is_plain_history es ≡ true → IsPlain (replay es)
replay_plain es e = from_plain start es e (record { not_closed = λ c. refl; not_voided = λ c. refl; waits = λ w. refl })

-- ---- a plain state owes nothing, where no channel keeps elements

full_when_none : (kind : Kind) (n : ℕ) → keeps_none kind ≡ true → is_full kind n ≡ true
full_when_none Rendezvous n e = refl
full_when_none Signal n e = refl
full_when_none other n e = cc

none_dropped : (kind : Kind) (n : ℕ) → keeps_none kind ≡ true → drops kind n ≡ false
none_dropped Rendezvous n e = refl
none_dropped Signal n e = refl
none_dropped other n e = cc

none_over : (kind : Kind) (n : ℕ) → keeps_none kind ≡ true → spurns kind n ≡ false
none_over Rendezvous n e = refl
none_over Signal n e = refl
none_over other n e = cc

pub and_false : (a b : Bool) → b ≡ true → (a && not b) ≡ false
and_false true b e = ap not e
and_false false b e = refl

none_admitted : (kind : Kind) (n : ℕ) (os : List Standing) → keeps_none kind ≡ true → owes_admission kind n os ≡ false
none_admitted kind n [] e = refl
none_admitted kind n (o ∷ os) e = or_from _ _ (and_false (is_some o.holder) (is_full kind n) (full_when_none kind n e))
    (none_admitted kind (n + 1) os e)

none_spurned : (kind : Kind) (n : ℕ) (os : List Standing) → keeps_none kind ≡ true → owes_spurn kind n os ≡ false
none_spurned kind n [] e = refl
none_spurned kind n (o ∷ os) e = or_from _ _ (none_over kind n e) (none_spurned kind (n + 1) os e)

owes_plain : (kind : Kind) (ch : Channel) → keeps_none kind ≡ true → ch.closed ≡ None → ch.voided ≡ false → owes kind ch ≡ false
owes_plain kind ch e f g =
    or_from _ _ (none_admitted kind 0 ch.queue e)
    (or_from _ _ (ap (λ (x : Option ℕ). is_some x && stands_any ch.receivers) f)
    (or_from _ _ (ap (λ (b : Bool). b && stands_any ch.queue) g)
    (or_from _ _ (none_dropped kind (length ch.queue) e) (none_spurned kind 0 ch.queue e))))

pub plain_owes_nothing : (shape : Shape) (s : State) → IsPlain s → ((c : ℕ) → c < length shape → keeps_none (kind_at shape c) ≡ true)
    → OwesNothing shape s
plain_owes_nothing shape s h k c lt = owes_plain (kind_at shape c) (s.channels c) (k c lt) (h.not_closed c) (h.not_voided c)
