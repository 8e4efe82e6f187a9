-- What is known stays known as a floor grows, and what each call adds to it.
use Rattle.std.specs.Prelude.{◌≡◌, ℕ, ◌<◌, Bool, true, false, List, [], ◌∷◌, length, Option, Some, None, is_some, Result, Ok, Err, refl}
use mathlib.Core.List.{IsPrefix}
use Rattle.std.proofs.Common.{sym, ap, ◌∙◌, subst, arith}
use Rattle.co_base.proofs.Orders.{order_same}
use Rattle.co_base.specs.declared.names.WaitId.{WaitId}
use Rattle.channel_model.specs.declared.acts.Act.{Act}
use Rattle.channel_model.specs.declared.acts.Act.TheVariants.{Close, Void}
use Rattle.channel_model.specs.declared.acts.Entry.{Entry}
use Rattle.channel_model.specs.declared.acts.Why.{Why}
use Rattle.channel_model.specs.declared.acts.Settled.{Settled}
use Rattle.channel_model.specs.declared.floor.AlreadyClosed.{AlreadyClosed}
use Rattle.channel_model.specs.declared.floor.Offered.{Offered}
use Rattle.channel_model.specs.declared.floor.Offered.TheVariants as offered
use Rattle.channel_model.specs.declared.floor.Got.{Got}
use Rattle.channel_model.specs.declared.floor.Got.TheVariants as got
use Rattle.channel_model.specs.declared.floor.TriedOffer.{TriedOffer}
use Rattle.channel_model.specs.declared.floor.TriedOffer.TheVariants as tried_offer
use Rattle.channel_model.specs.declared.floor.TriedGot.{TriedGot}
use Rattle.channel_model.specs.declared.floor.TriedGot.TheVariants as tried_got
use Rattle.channel_model.specs.declared.floor.WaitState.{WaitState}
use Rattle.channel_model.specs.declared.floor.Withdrawn.{Withdrawn}
use Rattle.channel_model.specs.declared.floor.Withdrawn.TheVariants as withdrawn
use Rattle.channel_model.specs.Channels.{Shape, State, kind_at, is_signal}
use Rattle.channel_model.specs.Effects.{after}
use Rattle.channel_model.specs.Histories.{replay, Legal}
use Rattle.channel_model.specs.Floors.{Floor, HasRoom, Looked, Made}
use Rattle.channel_model.specs.Answers.{OfferAnswer, TriedOfferAnswer, GotAnswer, TriedGotAnswer, CloseAnswer, WakeAnswer, VoidAnswer, DrainAnswer, LookAnswer, SettleAnswer, WithdrawAnswer, MarkAnswer, AdmitAnswer, TrimAnswer, SpurnAnswer, HasPut, IsOwn, IsSeenClosed, IsSeenVoided}
use Rattle.channel_model.proofs.Histories.{replay_push}
use Rattle.channel_model.proofs.Puts.{put_lasts}
use Rattle.channel_model.proofs.Spans.{prefix_self, prefix_then, prefix_append, setting_then, added_looked, added_made}
use Rattle.call_meaning.specs.ChannelCalls.{wait_at}
use Rattle.floor_rows.specs.declared.known.Known.{Known}
use Rattle.floor_rows.specs.Known.{Knows, Grows, KnownThen, with_wait, after_offer, after_receive, after_close, after_void}
use Rattle.floor_rows.proofs.WaitsBegun.{Begun, made_own, own_lasts}
use Rattle.channel_model.proofs.Lasts.{closed_lasts, voided_lasts}

-- ---- how a floor grows

grows_then : (a b c : Floor) → Grows a b → Grows b c → Grows a c
grows_then a b c h k = record { same = setting_then a b c h.same k.same; longer = prefix_then a.seen b.seen c.seen h.longer k.longer }

looked_grows : (who : ℕ) (a b : Floor) → Looked who a b → Grows a b
looked_grows who a b h = record { same = h.same; longer = h.longer }

made_grows : (who : ℕ) (act : Act) (a b : Floor) → Made who act a b → Grows a b
made_grows who act a b h = record {
  same = h.same;
  longer =
      subst (IsPrefix a.seen) (sym h.last) (prefix_append a.seen h.before (record { who = who; act = act } ∷ []) h.longer);
}

offer_grows : (who c v : ℕ) (a b : Floor) (r : Offered) → OfferAnswer who c v a b r → Grows a b
offer_grows who c v a b (offered.Handed p t) h = made_grows who _ a b h.made
offer_grows who c v a b (offered.Put p) h = made_grows who _ a b h
offer_grows who c v a b (offered.Held p) h = made_grows who _ a b h.0
offer_grows who c v a b (offered.Closed x) h = looked_grows who a b h.looked
offer_grows who c v a b offered.Spent h = looked_grows who a b h.0

try_offer_grows : (who c v : ℕ) (a b : Floor) (r : TriedOffer) → TriedOfferAnswer who c v a b r → Grows a b
try_offer_grows who c v a b (tried_offer.Handed p t) h = made_grows who _ a b h.made
try_offer_grows who c v a b (tried_offer.Put p) h = made_grows who _ a b h
try_offer_grows who c v a b (tried_offer.Closed x) h = looked_grows who a b h.looked
try_offer_grows who c v a b other h = looked_grows who a b h.0

receive_grows : (who c : ℕ) (a b : Floor) (r : Got) → GotAnswer who c a b r → Grows a b
receive_grows who c a b (got.Taken p v t) h = made_grows who _ a b h.made
receive_grows who c a b (got.Waiting p) h = made_grows who _ a b h
receive_grows who c a b (got.Closed x) h = looked_grows who a b h.0.looked
receive_grows who c a b got.Spent h = looked_grows who a b h.0

try_receive_grows : (who c : ℕ) (a b : Floor) (r : TriedGot) → TriedGotAnswer who c a b r → Grows a b
try_receive_grows who c a b (tried_got.Taken p v t) h = made_grows who _ a b h.made
try_receive_grows who c a b tried_got.Empty h = looked_grows who a b h.0
try_receive_grows who c a b (tried_got.Closed x) h = looked_grows who a b h.0.looked

admit_grows : (who c mark : ℕ) (a b : Floor) (r : Option (ℕ × ℕ)) → AdmitAnswer who c mark a b r → Grows a b
admit_grows who c mark a b (Some x) h = made_grows who _ a b h.made
admit_grows who c mark a b None h = looked_grows who a b h.0

close_grows : (who c v : ℕ) (a b : Floor) (r : Result (Unit {0}) AlreadyClosed) → CloseAnswer who c v a b r → Grows a b
close_grows who c v a b (Ok done) h = made_grows who _ a b h
close_grows who c v a b (Err first) h = looked_grows who a b h.looked

wake_grows : (who c : ℕ) (a b : Floor) (r : Option (ℕ × ℕ)) → WakeAnswer who c a b r → Grows a b
wake_grows who c a b (Some x) h = made_grows who _ a b h.made
wake_grows who c a b None h = looked_grows who a b h.0

void_grows : (who c : ℕ) (a b : Floor) (r : Bool) → VoidAnswer who c a b r → Grows a b
void_grows who c a b true h = made_grows who _ a b h
void_grows who c a b false h = looked_grows who a b h.0

drain_grows : (who c : ℕ) (a b : Floor) (r : Option (ℕ × ℕ × Option ℕ)) → DrainAnswer who c a b r → Grows a b
drain_grows who c a b (Some x) h = made_grows who _ a b h.made
drain_grows who c a b None h = looked_grows who a b h.0

look_grows : (who : ℕ) (w : WaitId) (a b : Floor) (r : WaitState) → LookAnswer who w a b r → Grows a b
look_grows who w a b r h = looked_grows who a b h.0

settle_grows : (who : ℕ) (w : WaitId) (cancelled : Bool) (a b : Floor) (r : Settled) → SettleAnswer who w cancelled a b r → Grows a b
settle_grows who w cancelled a b r h = made_grows who _ a b h.0

withdraw_grows : (who : ℕ) (w : WaitId) (why : Why) (a b : Floor) (r : Withdrawn) → WithdrawAnswer who w why a b r → Grows a b
withdraw_grows who w why a b (withdrawn.Done t) h = made_grows who _ a b h.0
withdraw_grows who w why a b withdrawn.Late h = looked_grows who a b h.0

trim_grows : (who c p : ℕ) (a b : Floor) (r : Option (ℕ × ℕ)) → TrimAnswer who c p a b r → Grows a b
trim_grows who c p a b (Some x) h = made_grows who _ a b h.0
trim_grows who c p a b None h = looked_grows who a b h.0

spurn_grows : (who c p : ℕ) (a b : Floor) (r : Option ℕ) → SpurnAnswer who c p a b r → Grows a b
spurn_grows who c p a b (Some v) h = made_grows who _ a b h
spurn_grows who c p a b None h = looked_grows who a b h.0

-- ---- a place that was put, and room

pub got_put : (who c p : ℕ) (a b : Floor) (r : TriedGot) → TriedGotAnswer who 0 a b r → HasPut who c p a → HasPut who c p b
got_put who c p a b (tried_got.Taken q v t) h put = put_lasts who c p _ a b (added_made who _ a b h.made) put
got_put who c p a b tried_got.Empty h put = put_lasts who c p _ a b (added_looked who a b h.0) put
got_put who c p a b (tried_got.Closed x) h put = put_lasts who c p _ a b (added_looked who a b h.0.looked) put

pub got_room : (who : ℕ) (a b : Floor) (r : TriedGot) → TriedGotAnswer who 0 a b r → 1 < a.spare → 0 < b.spare
got_room who a b (tried_got.Taken q v t) h room = let s = h.made.spare in omega (arith, room)
got_room who a b tried_got.Empty h room = let s = h.0.spare in omega (arith, room)
got_room who a b (tried_got.Closed x) h room = let s = h.0.looked.spare in omega (arith, room)

pub offer_room : (who v : ℕ) (a b : Floor) (r : Offered) → OfferAnswer who 0 v a b r → 2 < a.spare → 1 < b.spare
offer_room who v a b (offered.Handed p t) h room = let s = h.made.spare in omega (arith, room)
offer_room who v a b (offered.Put p) h room = let s = h.spare in omega (arith, room)
offer_room who v a b (offered.Closed x) h room = let s = h.looked.spare in omega (arith, room)
offer_room who v a b other h room = let s = h.0.spare in omega (arith, room)

pub tried_room : (who v : ℕ) (a b : Floor) (r : TriedOffer) → TriedOfferAnswer who 0 v a b r → 2 < a.spare → 1 < b.spare
tried_room who v a b (tried_offer.Handed p t) h room = let s = h.made.spare in omega (arith, room)
tried_room who v a b (tried_offer.Put p) h room = let s = h.spare in omega (arith, room)
tried_room who v a b (tried_offer.Closed x) h room = let s = h.looked.spare in omega (arith, room)
tried_room who v a b other h room = let s = h.0.spare in omega (arith, room)

-- ---- what is known stays known

knows_grown : (k : Known) (a b : Floor) → Legal b.shape b.seen → Grows a b → Knows k a → Knows k b
knows_grown k a b l g h = record {
  channel = subst (λ (s : Shape). 0 < length s) (sym g.same.shape) h.channel;
  elements = subst (λ (s : Shape). is_signal (kind_at s 0) ≡ false) (sym g.same.shape) h.elements;
  caller = λ e. ap (λ (f : ℕ → Bool). f k.tag) g.same.callers ∙ h.caller e;
  own = λ e. own_lasts k.tag (wait_at 0 k.place) a b l g.longer (h.own e);
  closed = λ e. closed_lasts 0 a b l g.longer (h.closed e);
  voided = λ e. voided_lasts 0 a b l g.longer (h.voided e);
}

with_own : (k : Known) (who p : ℕ) (b : Floor) → b.callers who ≡ true → IsOwn who (wait_at 0 p) b → Knows k b → Knows (with_wait k who p) b
with_own k who p b may own h = record {
  channel = h.channel;
  elements = h.elements;
  caller = λ e. may;
  own = λ e. own;
  closed = h.closed;
  voided = h.voided;
}

caller_grown : (who : ℕ) (a b : Floor) → Grows a b → a.callers who ≡ true → b.callers who ≡ true
caller_grown who a b g h = ap (λ (f : ℕ → Bool). f who) g.same.callers ∙ h

knows_offer : (k : Known) (who v : ℕ) (a b : Floor) → Legal b.shape b.seen → a.callers who ≡ true → Knows k a → (r : Offered)
    → OfferAnswer who 0 v a b r → Knows (after_offer k who r) b
knows_offer k who v a b l may h (offered.Handed p t) m = knows_grown k a b l (offer_grows who 0 v a b (offered.Handed p t) m) h
knows_offer k who v a b l may h (offered.Put p) m = knows_grown k a b l (offer_grows who 0 v a b (offered.Put p) m) h
knows_offer k who v a b l may h (offered.Held p) m =
    let g = offer_grows who 0 v a b (offered.Held p) m in
    with_own k who p b (caller_grown who a b g may) (made_own who (wait_at 0 p) _ a b l m.0 (Begun.offer 0 p v 0)) (knows_grown k a b l g h)
knows_offer k who v a b l may h (offered.Closed x) m = knows_grown k a b l (offer_grows who 0 v a b (offered.Closed x) m) h
knows_offer k who v a b l may h offered.Spent m = knows_grown k a b l (offer_grows who 0 v a b offered.Spent m) h

knows_receive : (k : Known) (who : ℕ) (a b : Floor) → Legal b.shape b.seen → a.callers who ≡ true → Knows k a → (r : Got)
    → GotAnswer who 0 a b r → Knows (after_receive k who r) b
knows_receive k who a b l may h (got.Taken p v t) m = knows_grown k a b l (receive_grows who 0 a b (got.Taken p v t) m) h
knows_receive k who a b l may h (got.Waiting p) m =
    let g = receive_grows who 0 a b (got.Waiting p) m in
    with_own k who p b (caller_grown who a b g may) (made_own who (wait_at 0 p) _ a b l m (Begun.await 0 p 0)) (knows_grown k a b l g h)
knows_receive k who a b l may h (got.Closed x) m = knows_grown k a b l (receive_grows who 0 a b (got.Closed x) m) h
knows_receive k who a b l may h got.Spent m = knows_grown k a b l (receive_grows who 0 a b got.Spent m) h

-- the state after an own act
last_state : (who : ℕ) (act : Act) (a b : Floor) (P : State → Type 0) → (m : Made who act a b) → P (after (replay m.before) who act)
    → P (replay b.seen)
last_state who act a b P m h = subst (λ (es : List Entry). P (replay es)) (sym m.last)
    (subst P (sym (replay_push m.before (record { who = who; act = act }))) h)

seen_closed : (who v : ℕ) (a b : Floor) (r : Result (Unit {0}) AlreadyClosed) → CloseAnswer who 0 v a b r → IsSeenClosed 0 b
seen_closed who v a b (Ok done) m = last_state who (Close 0 v) a b (λ (s : State). is_some (s.channels 0).closed ≡ true) m refl
seen_closed who v a b (Err first) m = ap is_some m.is_closed

knows_close : (k : Known) (who v : ℕ) (a b : Floor) → Legal b.shape b.seen → Knows k a → (r : Result (Unit {0}) AlreadyClosed)
    → CloseAnswer who 0 v a b r → Knows (after_close k) b
knows_close k who v a b l h r m =
    let n = knows_grown k a b l (close_grows who 0 v a b r m) h in
    record {
      channel = n.channel;
      elements = n.elements;
      caller = n.caller;
      own = n.own;
      closed = λ e. seen_closed who v a b r m;
      voided =
          n.voided;
    }

seen_voided : (who : ℕ) (a b : Floor) (r : Bool) → VoidAnswer who 0 a b r → IsSeenVoided 0 b
seen_voided who a b true m = last_state who (Void 0) a b (λ (s : State). (s.channels 0).voided ≡ true) m refl
seen_voided who a b false m = m.1

knows_void : (k : Known) (who : ℕ) (a b : Floor) → Legal b.shape b.seen → Knows k a → (r : Bool) → VoidAnswer who 0 a b r
    → Knows (after_void k) b
knows_void k who a b l h r m =
    let n = knows_grown k a b l (void_grows who 0 a b r m) h in
    record {
      channel = n.channel;
      elements = n.elements;
      caller = n.caller;
      own = n.own;
      closed = n.closed;
      voided =
          λ e. seen_voided who a b r m;
    }

-- ---- what is known after each call

-- of a call that was not made
pub unmade : (k : Known) (a : Floor) → Knows k a → KnownThen k a a
unmade k a h = record {
  grows = record {
    same = record { shape = refl; alone = refl; callers = refl; order = order_same a.order };
    longer = prefix_self a.seen;
  };
  knows = h;
}

pub known_over : (k m : Known) (a b d : Floor) → KnownThen k a b → KnownThen m b d → KnownThen m a d
known_over k m a b d h n = record { grows = grows_then a b d h.grows n.grows; knows = n.knows }

kept : (k : Known) (a b : Floor) → Legal b.shape b.seen → Knows k a → Grows a b → KnownThen k a b
kept k a b l h g = record { grows = g; knows = knows_grown k a b l g h }

pub after_room : (k : Known) (a b : Floor) → Legal b.shape b.seen → Knows k a → HasRoom 3 a b → KnownThen k a b
after_room k a b l h r = kept k a b l h (record { same = r.same; longer = subst (IsPrefix a.seen) (sym r.seen) (prefix_self a.seen) })

pub without_room : (k : Known) (a b : Floor) → b ≡ a → Knows k a → KnownThen k a b
without_room k a b e h = subst (KnownThen k a) (sym e) (unmade k a h)

pub offered_then : (k : Known) (who v : ℕ) (a b : Floor) (r : Offered) → Legal b.shape b.seen → a.callers who ≡ true → Knows k a
    → OfferAnswer who 0 v a b r → KnownThen (after_offer k who r) a b
offered_then k who v a b r l may h m = record { grows = offer_grows who 0 v a b r m; knows = knows_offer k who v a b l may h r m }

-- of one whose wait is not kept
pub offered_kept : (k : Known) (who v : ℕ) (a b : Floor) (r : Offered) → Legal b.shape b.seen → Knows k a → OfferAnswer who 0 v a b r
    → KnownThen k a b
offered_kept k who v a b r l h m = kept k a b l h (offer_grows who 0 v a b r m)

pub tried_offer_then : (k : Known) (who v : ℕ) (a b : Floor) (r : TriedOffer) → Legal b.shape b.seen → Knows k a
    → TriedOfferAnswer who 0 v a b r → KnownThen k a b
tried_offer_then k who v a b r l h m = kept k a b l h (try_offer_grows who 0 v a b r m)

pub received_then : (k : Known) (who : ℕ) (a b : Floor) (r : Got) → Legal b.shape b.seen → a.callers who ≡ true → Knows k a
    → GotAnswer who 0 a b r → KnownThen (after_receive k who r) a b
received_then k who a b r l may h m = record { grows = receive_grows who 0 a b r m; knows = knows_receive k who a b l may h r m }

pub tried_got_then : (k : Known) (who : ℕ) (a b : Floor) (r : TriedGot) → Legal b.shape b.seen → Knows k a → TriedGotAnswer who 0 a b r
    → KnownThen k a b
tried_got_then k who a b r l h m = kept k a b l h (try_receive_grows who 0 a b r m)

pub marked_then : (k : Known) (who r : ℕ) (a b : Floor) → Legal b.shape b.seen → Knows k a → MarkAnswer who 0 a b r → KnownThen k a b
marked_then k who r a b l h m = kept k a b l h (looked_grows who a b m.0)

pub admitted_then : (k : Known) (who mark : ℕ) (a b : Floor) (r : Option (ℕ × ℕ)) → Legal b.shape b.seen → Knows k a
    → AdmitAnswer who 0 mark a b r → KnownThen k a b
admitted_then k who mark a b r l h m = kept k a b l h (admit_grows who 0 mark a b r m)

pub closed_then : (k : Known) (who v : ℕ) (a b : Floor) (r : Result (Unit {0}) AlreadyClosed) → Legal b.shape b.seen → Knows k a
    → CloseAnswer who 0 v a b r → KnownThen (after_close k) a b
closed_then k who v a b r l h m = record { grows = close_grows who 0 v a b r m; knows = knows_close k who v a b l h r m }

pub woken_then : (k : Known) (who : ℕ) (a b : Floor) (r : Option (ℕ × ℕ)) → Legal b.shape b.seen → Knows k a → WakeAnswer who 0 a b r
    → KnownThen k a b
woken_then k who a b r l h m = kept k a b l h (wake_grows who 0 a b r m)

pub voided_then : (k : Known) (who : ℕ) (a b : Floor) (r : Bool) → Legal b.shape b.seen → Knows k a → VoidAnswer who 0 a b r
    → KnownThen (after_void k) a b
voided_then k who a b r l h m = record { grows = void_grows who 0 a b r m; knows = knows_void k who a b l h r m }

pub drained_then : (k : Known) (who : ℕ) (a b : Floor) (r : Option (ℕ × ℕ × Option ℕ)) → Legal b.shape b.seen → Knows k a
    → DrainAnswer who 0 a b r → KnownThen k a b
drained_then k who a b r l h m = kept k a b l h (drain_grows who 0 a b r m)

pub looked_then : (k : Known) (who : ℕ) (w : WaitId) (a b : Floor) (r : WaitState) → Legal b.shape b.seen → Knows k a
    → LookAnswer who w a b r → KnownThen k a b
looked_then k who w a b r l h m = kept k a b l h (look_grows who w a b r m)

pub withdrawn_then : (k : Known) (who : ℕ) (w : WaitId) (why : Why) (a b : Floor) (r : Withdrawn) → Legal b.shape b.seen → Knows k a
    → WithdrawAnswer who w why a b r → KnownThen k a b
withdrawn_then k who w why a b r l h m = kept k a b l h (withdraw_grows who w why a b r m)

pub settled_then : (k : Known) (who : ℕ) (w : WaitId) (cancelled : Bool) (a b : Floor) (r : Settled) → Legal b.shape b.seen → Knows k a
    → SettleAnswer who w cancelled a b r → KnownThen k a b
settled_then k who w cancelled a b r l h m = kept k a b l h (settle_grows who w cancelled a b r m)

pub trimmed_then : (k : Known) (who p : ℕ) (a b : Floor) (r : Option (ℕ × ℕ)) → Legal b.shape b.seen → Knows k a → TrimAnswer who 0 p a b r
    → KnownThen k a b
trimmed_then k who p a b r l h m = kept k a b l h (trim_grows who 0 p a b r m)

pub spurned_then : (k : Known) (who p : ℕ) (a b : Floor) (r : Option ℕ) → Legal b.shape b.seen → Knows k a → SpurnAnswer who 0 p a b r
    → KnownThen k a b
spurned_then k who p a b r l h m = kept k a b l h (spurn_grows who 0 p a b r m)
