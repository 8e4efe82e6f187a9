-- What one receive and one offer tell, by the floor's answer.
use Rattle.std.specs.Prelude.{◌≡◌, ℕ, false, [], ◌∷◌, ◌++◌, Option, refl}
use Rattle.std.proofs.Common.{sym, ap, ◌∙◌, subst}
use Rattle.std.proofs.lemmas.Bool.{true≢false}
use Rattle.co_base.specs.declared.names.WaitId.{WaitId}
use Rattle.channel_model.specs.declared.acts.Act.{Act}
use Rattle.channel_model.specs.declared.acts.Act.TheVariants.{Hand, Put, Offer, Await, Take}
use Rattle.channel_model.specs.declared.acts.ChannelNote.TheVariants.{ReceiveClosed, SendClosed, Spent}
use Rattle.channel_model.specs.declared.acts.Kind.{Kind}
use Rattle.channel_model.specs.declared.acts.Kind.TheVariants.{Unlimited}
use Rattle.channel_model.specs.declared.floor.Got.TheVariants as got
use Rattle.channel_model.specs.declared.floor.Offered.TheVariants as offered
use Rattle.channel_model.specs.Channels.{kind_at, suspends, is_signal}
use Rattle.channel_model.specs.Histories.{replay, Legal}
use Rattle.channel_model.specs.Floors.{Floor, AtStep, Made}
use Rattle.channel_model.specs.Answers.{GotAnswer, OfferAnswer, TakenFrom, HandedTo, ClosedWith, IsSpentForReceives, IsSpentForOffers, IsDrainedAndClosed}
use Rattle.channel_model.proofs.Histories.{Legal-last}
use Rattle.channel_model.proofs.Spans.{prefix_self}
use Rattle.note_book.specs.declared.book.Item.TheVariants as item
use Rattle.call_meaning.specs.Telling.{SpentForReceives, SpentForOffers, items_in, made, heard}
use Rattle.call_meaning.specs.Facts.{ActHolds, IsClosedWith, IsDrained}
use Rattle.call_meaning.specs.Seen.{SeenOnChannels}
use Rattle.call_meaning.specs.Calls.{ToldOnChannels}
use Rattle.call_meaning.specs.ChannelCalls.{sends, receives, wait_at, spent}
use Rattle.call_meaning.proofs.ChannelsHeard.{told_made, told_met, told_met_after, moment_before}
use Rattle.channel_calls.specs.Groups.{made_note}
use Rattle.channel_calls.proofs.Roomed.{IsRoomed, roomed}
use Rattle.channel_calls.proofs.Begun.{receiver_waits}
use Rattle.channel_calls.proofs.ReceivesTold.{closed_as}
use Rattle.permits.specs.Answers.{TakesOne, AwaitsOne, GivesOne, GivenJust}

-- a channel that keeps all is no signal, and no offer waits there
pub no_signal : (k : Kind) → k ≡ Unlimited → is_signal k ≡ false
no_signal k e = ap is_signal e

pub never_held : (who c v place : ℕ) (w : WaitId) (b d : Floor) → kind_at d.shape c ≡ Unlimited → Legal d.shape d.seen
    → Made who (Offer c place v w 0) b d → ⊥
never_held who c v place w b d kind l m =
    let n = (Legal-last d.shape m.before (record { who = who; act = Offer c place v w 0 }) (subst (Legal d.shape) m.last l)).1 in
    true≢false (sym n.3 ∙ ap suspends kind)

module _ {c n : ℕ} {a b d : SeenOnChannels} (h : IsRoomed n a b) where
  pub takes_one : {place v : ℕ} {t : Option ℕ} → TakenFrom a.who c place v t b.floor d.floor → d.who ≡ a.who
      → d.items ≡ b.items ++ made_note (Take c place v) ∷ [] → TakesOne c v a d
  takes_one {place} {v} o w f =
      let act : Act = Take c place v in
      let at = moment_before a.who act b.floor d.floor (ActHolds act) o.made tt in
      record { place = place; told = roomed h (told_made act o.made at w f) }

  pub awaits_one : {place : ℕ} → Legal d.floor.shape d.floor.seen → Made a.who (Await c place (wait_at c place) 0) b.floor d.floor
      → d.who ≡ a.who → d.items ≡ b.items ++ made_note (Await c place (wait_at c place) 0) ∷ [] → AwaitsOne c (wait_at c place) a d
  unfolding items_in
  awaits_one {place} l o w f =
      let act : Act = Await c place (wait_at c place) 0 in
      let at = moment_before a.who act b.floor d.floor (ActHolds act) o tt in
      let told : ToldOnChannels a d (made act ∷ []) = roomed h (told_made act o at w f) in
      record { place = place; is = refl; told = told; waits = receiver_waits l o told.added w }

  pub receive_closed : {x : ℕ} → Legal d.floor.shape d.floor.seen → GotAnswer a.who c b.floor d.floor (got.Closed x) → d.who ≡ a.who
      → d.items ≡ b.items ++ item.Channel (ReceiveClosed c x) ∷ [] → ToldOnChannels a d (heard (ReceiveClosed c x) ∷ [])
  receive_closed {x} l o w f =
      let m : AtStep b.floor d.floor (IsDrainedAndClosed c) = o.1 in
      let at : AtStep b.floor d.floor (IsDrained c x) = record {
        moment = m.moment;
        after = m.after;
        before = m.before;
        holds = record {
          is_closed = closed_as d.floor.shape c x m.moment d.floor.seen m.before.0 m.before.1 l m.holds.is_closed o.0.is_closed;
          nothing = m.holds.nothing;
        };
      } in
      roomed h (told_met (ReceiveClosed c x) refl o.0.looked at w f)

  pub receive_spent : GotAnswer a.who c b.floor d.floor got.Spent → d.who ≡ a.who → d.items ≡ b.items ++ item.Channel (Spent c) ∷ []
      → ToldOnChannels a d (spent (receives c))
  receive_spent o w f =
      let m : IsSpentForReceives b.floor.shape c (replay o.1.moment) = o.1.holds in
      roomed h (told_met_after (SpentForReceives c) (Spent c) refl o.0 o.1 (record { is_open = m.not_closed; spent = m.spent }) w f)

  -- ---- one offer

  pub hands_one : {v place t : ℕ} → HandedTo a.who c v place t b.floor d.floor → d.who ≡ a.who
      → d.items ≡ b.items ++ made_note (Hand c place v) ∷ [] → GivenJust c v a d
  hands_one {v} {place} o w f =
      record { act = Hand c place v; gives = GivesOne.hands place; told = roomed h (told_made (Hand c place v) o.made o.was_open w f) }

  pub puts_one : {v place : ℕ} → Made a.who (Put c place v) b.floor d.floor → d.who ≡ a.who
      → d.items ≡ b.items ++ made_note (Put c place v) ∷ [] → GivenJust c v a d
  puts_one {v} {place} o w f =
      let act : Act = Put c place v in
      let at = moment_before a.who act b.floor d.floor (ActHolds act) o tt in
      record { act = act; gives = GivesOne.puts place; told = roomed h (told_made act o at w f) }

  pub offer_closed : {v x : ℕ} → ClosedWith a.who c x b.floor d.floor → d.who ≡ a.who
      → d.items ≡ b.items ++ item.Channel (SendClosed c v x) ∷ [] → ToldOnChannels a d (heard (SendClosed c v x) ∷ [])
  offer_closed {v} {x} o w f =
      let at : AtStep b.floor d.floor (IsClosedWith c x) =
      record { moment = d.floor.seen; after = o.looked.longer; before = prefix_self d.floor.seen; holds = o.is_closed } in
      roomed h (told_met (SendClosed c v x) refl o.looked at w f)

  pub offer_spent : (v : ℕ) → OfferAnswer a.who c v b.floor d.floor offered.Spent → d.who ≡ a.who → d.items ≡ b.items
      ++ item.Channel (Spent c) ∷ []
      → ToldOnChannels a d (spent (sends c v))
  offer_spent v o w f =
      let m : IsSpentForOffers b.floor.shape c (replay o.1.moment) = o.1.holds in
      roomed h (told_met_after (SpentForOffers c) (Spent c) refl o.0 o.1 (record { is_open = m.not_closed; spent = m.spent }) w f)
