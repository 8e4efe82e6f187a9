-- What a send tells, by the floor's answer to its offer.
use Rattle.std.specs.Prelude.{◌≡◌, ℕ, [], ◌∷◌, ◌++◌, Ok, Err, refl}
use Rattle.std.proofs.Common.{ap, ◌∙◌}
use Rattle.co_base.specs.declared.names.Memory.{Memory}
use Rattle.channel_model.specs.declared.acts.Act.TheVariants.{Hand, Put, Offer}
use Rattle.channel_model.specs.declared.acts.ChannelNote.{ChannelNote}
use Rattle.channel_model.specs.declared.acts.ChannelNote.TheVariants.{SendClosed, TrySendClosed, Full, Spent}
use Rattle.channel_model.specs.declared.floor.Offered.TheVariants as offered
use Rattle.channel_model.specs.declared.floor.TriedOffer.TheVariants as tried
use Rattle.channel_model.specs.Channels.{kind_at}
use Rattle.channel_model.specs.Histories.{replay}
use Rattle.channel_model.specs.Floors.{Looked, Made, AtStep, Floor}
use Rattle.channel_model.specs.Answers.{OfferAnswer, TriedOfferAnswer, HandedTo, ClosedWith, IsSpentForOffers}
use Rattle.channel_model.proofs.Spans.{prefix_self}
use Rattle.note_book.specs.declared.book.Item.TheVariants as item
use Rattle.call_meaning.specs.Telling.{on_channels, WasFull, SpentForOffers, made, heard}
use Rattle.call_meaning.specs.Facts.{ActHolds, IsClosedWith}
use Rattle.call_meaning.specs.Calls.{ToldOnChannels}
use Rattle.call_meaning.specs.ChannelCalls.{Done, sends, wait_at, blocked, spent, AtOnce, PlainCall}
use Rattle.call_meaning.proofs.ChannelsHeard.{told_then, told_made, told_made_after, told_met, told_met_after, moment_before}
use Rattle.channel_calls.specs.declared.caller.SendAnswer.TheVariants as send
use Rattle.channel_calls.specs.declared.caller.TriedAs.{TriedAs}
use Rattle.channel_calls.specs.declared.caller.TriedAs.TheVariants as tried_as
use Rattle.channel_calls.specs.Groups.{made_note}
use Rattle.channel_calls.specs.Calls.{Tells, ToldPart, GoesSomehow, GoesAtOnce, GoesAtOnceSomehow, FollowsPut, IsSent, IsUnsent, closed_note, SentAnswer, AfterPutAnswer, IsUntouched}
use Rattle.channel_calls.proofs.Untold.{part_none, part_of, part_then}
use Rattle.call_meaning.specs.Seen.{SeenOnChannels}
use Rattle.channel_calls.proofs.Roomed.{IsRoomed, roomed}
use Rattle.channel_model.specs.declared.acts.Act.{Act}

closed_so : (who c x : ℕ) (b d : Floor) → ClosedWith who c x b d → AtStep b d (IsClosedWith c x)
closed_so who c x b d o = record { moment = d.seen; after = o.looked.longer; before = prefix_self d.seen; holds = o.is_closed }

module _ (v : ℕ) {c n : ℕ} {a b d : SeenOnChannels} (h : IsRoomed n a b) where
  pub handed : {place t : ℕ} → HandedTo a.who c v place t b.floor d.floor → d.who ≡ a.who → d.items ≡ b.items
      ++ made_note (Hand c place v) ∷ []
      → Tells (GoesAtOnce (sends c v) Done) a d
  handed {place} o w f = record {
    told = made (Hand c place v) ∷ [];
    goes = AtOnce.hands c v place;
    left = roomed h (told_made (Hand c place v) o.made o.was_open w f);
  }

  put_told : {place : ℕ} → Made a.who (Put c place v) b.floor d.floor → d.who ≡ a.who → d.items ≡ b.items ++ made_note (Put c place v) ∷ []
      → ToldOnChannels a d (made (Put c place v) ∷ [])
  put_told {place} o w f =
      let act : Act = Put c place v in
      roomed h (told_made act o (moment_before a.who act b.floor d.floor (ActHolds act) o tt) w f)

  -- the element was put, and then what is too many was removed
  pub kept : {place : ℕ} {e : SeenOnChannels} → Made a.who (Put c place v) b.floor d.floor → d.who ≡ a.who
      → d.items ≡ b.items ++ made_note (Put c place v) ∷ [] → AfterPutAnswer c place d e (Ok tt) → Tells (GoesAtOnce (sends c v) Done) a e
  kept {place} o w f m = record {
    told = made (Put c place v) ∷ m.told;
    goes = AtOnce.puts c v place m.told m.goes.overflows;
    left = told_then (put_told o w f) m.left;
  }

  -- or no memory was found
  pub put_stopped : {place : ℕ} {e : SeenOnChannels} (m : Memory) → Made a.who (Put c place v) b.floor d.floor → d.who ≡ a.who
      → d.items ≡ b.items ++ made_note (Put c place v) ∷ [] → AfterPutAnswer c place d e (Err m)
      → ToldPart (GoesAtOnceSomehow (sends c v)) a e
  put_stopped {place} m o w f s =
      part_then (FollowsPut (kind_at d.floor.shape c) c place) (GoesAtOnceSomehow (sends c v)) (made (Put c place v) ∷ [])
      (λ all r. (Done, AtOnce.puts c v place all r.overflows)) (put_told o w f) s

  -- an offer that waits, at a channel that was full
  pub offer_told : {place : ℕ} → OfferAnswer a.who c v b.floor d.floor (offered.Held place) → d.who ≡ a.who
      → d.items ≡ b.items ++ made_note (Offer c place v (wait_at c place) 0) ∷ []
      → ToldOnChannels a d (on_channels (WasFull c) ∷ made (Offer c place v (wait_at c place) 0) ∷ [])
  offer_told {place} o w f = roomed h (told_made_after (WasFull c) (Offer c place v (wait_at c place) 0) o.0 (λ s. tt) o.1 w f)

  pub refused : {x : ℕ} → ClosedWith a.who c x b.floor d.floor → d.who ≡ a.who → d.items ≡ b.items ++ item.Channel (SendClosed c v x) ∷ []
      → SentAnswer c v a d (Ok (send.Closed x))
  refused {x} o w f = (
    record {
      told = heard (SendClosed c v x) ∷ [];
      goes = IsUnsent.refused;
      left = roomed h (told_met (SendClosed c v x) refl o.looked (closed_so a.who c x b.floor d.floor o) w f);
    },
    o.is_closed,
  )

  spent_told : Looked a.who b.floor d.floor → AtStep b.floor d.floor (IsSpentForOffers b.floor.shape c) → d.who ≡ a.who
      → d.items ≡ b.items ++ item.Channel (Spent c) ∷ [] → ToldOnChannels a d (spent (sends c v))
  spent_told look at w f =
      let m : IsSpentForOffers b.floor.shape c (replay at.moment) = at.holds in
      roomed h (told_met_after (SpentForOffers c) (Spent c) refl look at (record { is_open = m.not_closed; spent = m.spent }) w f)

  pub no_place : OfferAnswer a.who c v b.floor d.floor offered.Spent → d.who ≡ a.who → d.items ≡ b.items ++ item.Channel (Spent c) ∷ []
      → SentAnswer c v a d (Ok send.Spent)
  no_place o w f = record {
    told = spent (sends c v);
    goes = PlainCall.no_place (sends c v) (spent (sends c v)) refl;
    left = spent_told o.0 o.1 w f;
  }

  -- ---- without waiting

  pub full : TriedOfferAnswer a.who c v b.floor d.floor tried.Full → d.who ≡ a.who → d.items ≡ b.items ++ item.Channel (Full c v) ∷ []
      → ToldOnChannels a d (blocked (sends c v) ∷ [])
  full o w f = roomed h (told_met (Full c v) refl o.0 o.1 w f)

  -- as a call or as a clause
  pub try_refused : (by : TriedAs) {x : ℕ} {note : ChannelNote} → note ≡ closed_note by (sends c v) x → ClosedWith a.who c x b.floor d.floor
      → d.who ≡ a.who → d.items ≡ b.items ++ item.Channel note ∷ [] → ToldOnChannels a d (heard (closed_note by (sends c v) x) ∷ [])
  try_refused by {x} {note} is o w f = roomed h (noted by (f ∙ ap (λ (m : ChannelNote). b.items ++ item.Channel m ∷ []) is))
    where
      noted : (by : TriedAs) → d.items ≡ b.items ++ item.Channel (closed_note by (sends c v) x) ∷ []
          → ToldOnChannels (record b { who = a.who }) d (heard (closed_note by (sends c v) x) ∷ [])
      noted tried_as.Call l = told_met (TrySendClosed c v x) refl o.looked (closed_so a.who c x b.floor d.floor o) w l
      noted tried_as.Clause l = told_met (SendClosed c v x) refl o.looked (closed_so a.who c x b.floor d.floor o) w l

  pub try_no_place : TriedOfferAnswer a.who c v b.floor d.floor tried.Spent → d.who ≡ a.who → d.items ≡ b.items
      ++ item.Channel (Spent c) ∷ []
      → ToldOnChannels a d (spent (sends c v))
  try_no_place o w f = spent_told o.0 o.1 w f

-- a send that waits where it must is sent so too
pub sent : {c v : ℕ} {a d : SeenOnChannels} → Tells (GoesAtOnce (sends c v) Done) a d → Tells (IsSent c v) a d
sent t = record { told = t.told; goes = IsSent.at_once t.told t.goes; left = t.left }

-- ---- a send that found no memory

-- a send that waits where it must stops so too
pub send_stopped : (c v : ℕ) {a d : SeenOnChannels} → ToldPart (GoesAtOnceSomehow (sends c v)) a d → ToldPart (GoesSomehow (sends c v)) a d
send_stopped c v h =
    part_of (GoesAtOnceSomehow (sends c v)) (GoesSomehow (sends c v)) (λ all g. (g.0, PlainCall.at_once (sends c v) all g.0 g.1)) h

-- nothing was told
pub send_untold : (c v : ℕ) {a b : SeenOnChannels} → IsUntouched a b → ToldPart (GoesAtOnceSomehow (sends c v)) a b
send_untold c v h = part_none (GoesAtOnceSomehow (sends c v)) (made (Hand c 0 v) ∷ []) (Done, AtOnce.hands c v 0) h
