-- What a receive tells, by the floor's answer.
use Rattle.std.specs.Prelude.{◌≡◌, ℕ, true, List, [], ◌∷◌, ◌++◌, Option, Some, None, is_some, Ok, Err, refl}
use Rattle.std.proofs.Common.{sym, ap, ◌∙◌, subst}
use Rattle.co_base.specs.declared.names.Memory.{Memory}
use Rattle.channel_model.specs.declared.acts.Act.TheVariants.{Await, Take}
use Rattle.channel_model.specs.declared.acts.ChannelNote.{ChannelNote}
use Rattle.channel_model.specs.declared.acts.ChannelNote.TheVariants.{ReceiveClosed, TryReceiveClosed, Empty, Spent}
use Rattle.channel_model.specs.declared.acts.Entry.{Entry}
use Rattle.channel_model.specs.declared.floor.Got.TheVariants as got
use Rattle.channel_model.specs.declared.floor.TriedGot.TheVariants as tried
use Rattle.channel_model.specs.Channels.{Shape}
use Rattle.channel_model.specs.Histories.{replay, Legal}
use Rattle.channel_model.specs.Floors.{Floor, AtStep}
use Rattle.channel_model.specs.Answers.{GotAnswer, TriedGotAnswer, TakenFrom, ClosedWith, IsSpentForReceives, IsDrainedAndClosed}
use Rattle.channel_model.proofs.Later.{closed_later}
use Rattle.note_book.specs.declared.book.Item.TheVariants as item
use Rattle.call_meaning.specs.Telling.{SpentForReceives, items_in, made, heard}
use Rattle.call_meaning.specs.Facts.{ActHolds, IsDrained}
use Rattle.call_meaning.specs.Calls.{ToldOnChannels}
use Rattle.call_meaning.specs.ChannelCalls.{Got, Closed, Waits, receives, wait_at, blocked, spent, Admits, AtOnce, Refused, PlainCall}
use Rattle.call_meaning.proofs.ChannelsHeard.{told_then, told_made, told_met, told_met_after, moment_before}
use Rattle.channel_calls.specs.declared.caller.ReceiveAnswer.TheVariants as receive
use Rattle.channel_calls.specs.declared.caller.TriedAs.{TriedAs}
use Rattle.channel_calls.specs.declared.caller.TriedAs.TheVariants as tried_as
use Rattle.channel_calls.specs.Groups.{made_note}
use Rattle.channel_calls.specs.Calls.{Tells, ToldPart, Goes, GoesSomehow, GoesAtOnce, GoesAtOnceSomehow, closed_note, ReceivedAnswer, AdmittedAnswer, IsUntouched}
use Rattle.channel_calls.proofs.Begun.{receiver_waits}
use Rattle.channel_calls.proofs.AdmitsTold.{none_admitted}
use Rattle.channel_calls.proofs.Untold.{part_none, part_of, part_then}
use Rattle.call_meaning.specs.Seen.{SeenOnChannels}
use Rattle.channel_calls.proofs.Roomed.{IsRoomed, roomed}
use Rattle.channel_model.specs.declared.acts.Act.{Act}

-- a channel that was closed at a moment had its last close value
pub closed_as : (shape : Shape) (c x : ℕ) (moment seen rest : List Entry) → moment ++ rest ≡ seen → Legal shape seen
    → is_some ((replay moment).channels c).closed ≡ true → ((replay seen).channels c).closed ≡ Some x
    → ((replay moment).channels c).closed ≡ Some x
closed_as shape c x moment seen rest is l some at = by_value ((replay moment).channels c).closed refl some
  where
    by_value : (y : Option ℕ) → ((replay moment).channels c).closed ≡ y → is_some y ≡ true → ((replay moment).channels c).closed ≡ Some x
    by_value None e f = cc
    by_value (Some u) e f =
        let later : ((replay (moment ++ rest)).channels c).closed ≡ Some u =
        closed_later shape moment rest c u (subst (Legal shape) (sym is) l) e in
        let last : ((replay seen).channels c).closed ≡ Some u = subst (λ es. ((replay es).channels c).closed ≡ Some u) is later in
        e ∙ sym last ∙ at

-- nothing was left of a channel closed with x
drained_at : (who c x : ℕ) (b d : Floor) → Legal d.shape d.seen → ClosedWith who c x b d → AtStep b d (IsDrainedAndClosed c)
    → AtStep b d (IsDrained c x)
drained_at who c x b d l o m = record {
  moment = m.moment;
  after = m.after;
  before = m.before;
  holds = record {
    is_closed = closed_as d.shape c x m.moment d.seen m.before.0 m.before.1 l m.holds.is_closed o.is_closed;
    nothing =
        m.holds.nothing;
  };
}

module _ {c n : ℕ} {a b d : SeenOnChannels} (h : IsRoomed n a b) where
  take_told : {place v : ℕ} {t : Option ℕ} → TakenFrom a.who c place v t b.floor d.floor → d.who ≡ a.who
      → d.items ≡ b.items ++ made_note (Take c place v) ∷ [] → ToldOnChannels a d (made (Take c place v) ∷ [])
  take_told {place} {v} o w f =
      let act : Act = Take c place v in
      roomed h (told_made act o.made (moment_before a.who act b.floor d.floor (ActHolds act) o.made tt) w f)

  -- an element was taken, and then those were admitted for whom there is room
  pub taken : {place v : ℕ} {t : Option ℕ} {e : SeenOnChannels} → TakenFrom a.who c place v t b.floor d.floor → d.who ≡ a.who
      → d.items ≡ b.items ++ made_note (Take c place v) ∷ [] → AdmittedAnswer c d e (Ok tt) → Tells (GoesAtOnce (receives c) (Got v)) a e
  taken {place} {v} o w f m = record {
    told = made (Take c place v) ∷ m.told;
    goes = AtOnce.takes c v place m.told m.goes;
    left = told_then (take_told o w f) m.left;
  }

  -- or no memory was found
  pub take_stopped : {place v : ℕ} {t : Option ℕ} {e : SeenOnChannels} (m : Memory) → TakenFrom a.who c place v t b.floor d.floor
      → d.who ≡ a.who
      → d.items ≡ b.items ++ made_note (Take c place v) ∷ [] → AdmittedAnswer c d e (Err m) → ToldPart (GoesAtOnceSomehow (receives c)) a e
  take_stopped {place} {v} m o w f s =
      part_then (Admits c) (GoesAtOnceSomehow (receives c)) (made (Take c place v) ∷ []) (λ all r. (Got v, AtOnce.takes c v place all r))
      (take_told o w f) s

  pub waiting : {place : ℕ} → Legal d.floor.shape d.floor.seen → GotAnswer a.who c b.floor d.floor (got.Waiting place) → d.who ≡ a.who
      → d.items ≡ b.items ++ made_note (Await c place (wait_at c place) 0) ∷ []
      → ReceivedAnswer c a d (Ok (receive.Waits (wait_at c place)))
  unfolding items_in
  waiting {place} l o w f =
      let act : Act = Await c place (wait_at c place) 0 in
      let at = moment_before a.who act b.floor d.floor (ActHolds act) o tt in
      let left : ToldOnChannels a d (made act ∷ []) = roomed h (told_made act o at w f) in
      let t : Tells (Goes (receives c) (Waits (wait_at c place))) a d =
      record { told = made act ∷ []; goes = PlainCall.awaits c place; left = left } in
      (t, receiver_waits l o left.added w)

  pub closed : {x : ℕ} → Legal d.floor.shape d.floor.seen → GotAnswer a.who c b.floor d.floor (got.Closed x) → d.who ≡ a.who
      → d.items ≡ b.items ++ item.Channel (ReceiveClosed c x) ∷ [] → ReceivedAnswer c a d (Ok (receive.Closed x))
  closed {x} l o w f = record {
    told = heard (ReceiveClosed c x) ∷ [];
    goes = PlainCall.refused (receives c) (heard (ReceiveClosed c x)) (Closed x) (Refused.receive c x);
    left = roomed h (told_met (ReceiveClosed c x) refl o.0.looked (drained_at a.who c x b.floor d.floor l o.0 o.1) w f);
  }

  pub no_place : GotAnswer a.who c b.floor d.floor got.Spent → d.who ≡ a.who → d.items ≡ b.items ++ item.Channel (Spent c) ∷ []
      → ReceivedAnswer c a d (Ok receive.Spent)
  no_place o w f =
      let m : IsSpentForReceives b.floor.shape c (replay o.1.moment) = o.1.holds in
      record {
        told = spent (receives c);
        goes = PlainCall.no_place (receives c) (spent (receives c)) refl;
        left = roomed h (told_met_after (SpentForReceives c) (Spent c) refl o.0 o.1 (record { is_open = m.not_closed; spent = m.spent }) w
            f);
      }

  -- ---- without waiting

  pub empty : TriedGotAnswer a.who c b.floor d.floor tried.Empty → d.who ≡ a.who → d.items ≡ b.items ++ item.Channel (Empty c) ∷ []
      → ToldOnChannels a d (blocked (receives c) ∷ [])
  empty o w f = roomed h (told_met (Empty c) refl o.0 o.1 w f)

  -- as a call or as a clause
  pub try_closed : (by : TriedAs) {x : ℕ} {note : ChannelNote} → note ≡ closed_note by (receives c) x → Legal d.floor.shape d.floor.seen
      → TriedGotAnswer a.who c b.floor d.floor (tried.Closed x) → d.who ≡ a.who → d.items ≡ b.items ++ item.Channel note ∷ []
      → ToldOnChannels a d (heard (closed_note by (receives c) x) ∷ [])
  try_closed by {x} {note} is l o w f = roomed h (noted by (f ∙ ap (λ (m : ChannelNote). b.items ++ item.Channel m ∷ []) is))
    where
      noted : (by : TriedAs) → d.items ≡ b.items ++ item.Channel (closed_note by (receives c) x) ∷ []
          → ToldOnChannels (record b { who = a.who }) d (heard (closed_note by (receives c) x) ∷ [])
      noted tried_as.Call m = told_met (TryReceiveClosed c x) refl o.0.looked (drained_at a.who c x b.floor d.floor l o.0 o.1) w m
      noted tried_as.Clause m = told_met (ReceiveClosed c x) refl o.0.looked (drained_at a.who c x b.floor d.floor l o.0 o.1) w m

-- a receive that waits where it must goes so too
pub received : {c v : ℕ} {a d : SeenOnChannels} → Tells (GoesAtOnce (receives c) (Got v)) a d → Tells (Goes (receives c) (Got v)) a d
received {c} {v} t = record { told = t.told; goes = PlainCall.at_once (receives c) t.told (Got v) t.goes; left = t.left }

-- ---- a receive that found no memory

-- a receive that waits where it must stops so too
pub receive_stopped : (c : ℕ) {a d : SeenOnChannels} → ToldPart (GoesAtOnceSomehow (receives c)) a d
    → ToldPart (GoesSomehow (receives c)) a d
receive_stopped c h =
    part_of (GoesAtOnceSomehow (receives c)) (GoesSomehow (receives c)) (λ all g. (g.0, PlainCall.at_once (receives c) all g.0 g.1)) h

-- nothing was told
pub receive_untold : (c : ℕ) {a b : SeenOnChannels} → IsUntouched a b → ToldPart (GoesAtOnceSomehow (receives c)) a b
receive_untold c h = part_none (GoesAtOnceSomehow (receives c)) _ (Got 0, AtOnce.takes c 0 0 _ (none_admitted c)) h
