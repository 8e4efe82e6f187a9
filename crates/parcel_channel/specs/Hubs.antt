-- A channel of owned values, a pass, and the answers of the calls.
use Rattle.std.specs.Prelude.{◌≡◌, ◌⊎◌, ℕ, ◌<◌, ◌≤◌, Bool, true, List, length, Option, Some, None, Ok, Err}
use lib.ListN.{get_elem?}
use Rattle.co_base.specs.declared.names.WaitId.{WaitId}
use Rattle.channel_model.specs.Floors.{Floor}
use Rattle.channel_model.specs.Answers.{TriedOfferAnswer, WakeAnswer, DrainAnswer}
use Rattle.channel_model.specs.declared.floor.TriedOffer.TheVariants as tried_offer
use Rattle.parcel_channel.specs.declared.waits.Placed.TheVariants as placed
use Rattle.parcel_channel.specs.declared.waits.Received.TheVariants as received
use Rattle.parcel_channel.specs.declared.waits.TriedReceived.TheVariants as tried_received
use Rattle.parcel_channel.specs.declared.waits.Ended.TheVariants as ended
use Rattle.cell_words.specs.Seen.{Seen as NumbersSeen}
use Rattle.cell_words.specs.Hubs.{IsOwn, GivesTags, SameGiving}
use Rattle.cell_words.specs.Hubs as numbers
use Rattle.cell_calls.specs.HubFloors.{hub_floor}
use Rattle.parcel_channel.specs.declared.hub.ParcelHub.{ParcelHub}
use Rattle.parcel_channel.specs.declared.hub.ParcelPass.{ParcelPass}
use Rattle.parcel_channel.specs.declared.answers.ParcelSent.{ParcelSent}
use Rattle.parcel_channel.specs.declared.answers.ParcelSent.TheVariants as sent
use Rattle.parcel_channel.specs.declared.answers.ParcelOffered.{ParcelOffered}
use Rattle.parcel_channel.specs.declared.answers.ParcelOffered.TheVariants as offered
use Rattle.parcel_channel.specs.declared.answers.ParcelGot.{ParcelGot}
use Rattle.parcel_channel.specs.declared.answers.ParcelGot.TheVariants as found
use Rattle.parcel_channel.specs.declared.answers.ParcelTried.{ParcelTried}
use Rattle.parcel_channel.specs.declared.answers.ParcelTried.TheVariants as tried
use Rattle.parcel_channel.specs.declared.answers.ParcelSettled.{ParcelSettled}
use Rattle.parcel_channel.specs.declared.answers.ParcelSettled.TheVariants as settled
use Rattle.parcel_channel.specs.Numbers.{HoldsWait, Sends, Refused, Gets, TriesToGet, EndAnswer}
use Rattle.parcel_channel.specs.Seen.{Seen, SameTags}
use Rattle.parcel_channel.specs.Answers.{IsOnly, PutAnswer, TakeAnswer}

-- the first of these, as far as they were copied
abbrev pub IsCopied : {A : Type 0} → List A → List A → Type 0
IsCopied from to = (k : ℕ) → k < length to → get_elem? to k ≡ get_elem? from k

-- the first receiver was told of the close; or none stands
abbrev pub WakeParcel : ℕ → Floor → Floor → Option ℕ → Type 0
WakeParcel who old new (Some t) = (place : ℕ) × WakeAnswer who 0 old new (Some (place, t))
WakeParcel who old new None = WakeAnswer who 0 old new None

-- who tried to send a number, and the channel was full, closed or had no place left
abbrev pub TriedInVain : ℕ → ℕ → Floor → Floor → Type 0
TriedInVain who k old new =
    TriedOfferAnswer who 0 k old new tried_offer.Full
    ⊎ ((c : ℕ) × TriedOfferAnswer who 0 k old new (tried_offer.Closed c))
    ⊎ TriedOfferAnswer who 0 k old new tried_offer.Spent

module _ {T : Type 0} where
  -- the pass is one of this channel
  abbrev pub IsOf : ParcelHub T → ParcelPass T → Type 0
  IsOf hub pass =
      (pass.seat.table_id ≡ hub.table.shared.table_id)
      × (pass.seat.me.0.key ≡ hub.parcels)
      × IsOwn hub.hub pass.pass pass.tag

  -- what it has seen of the parcels
  abbrev pub seen_by : ParcelPass T → Seen T
  seen_by pass = pass.seat.me.0

  -- and of their numbers
  abbrev pub numbers_by : ParcelPass T → NumbersSeen
  numbers_by pass = numbers.seen_by pass.pass

  -- it gives out tags, those of its seat and of its pass on the numbers alike
  abbrev pub IsFirst : ParcelPass T → Type 0
  IsFirst pass = (pass.seat.me.0.chief ≡ true) × GivesTags pass.seat.me.0.given pass.pass

  -- it has the same tags, and gives out others as before
  abbrev pub SamePass : ParcelPass T → ParcelPass T → Type 0
  SamePass old new =
      (new.tag ≡ old.tag) × SameTags (seen_by old) (seen_by new) × SameGiving old.pass new.pass

  -- what it has seen of the numbers
  abbrev pub floor_by : ParcelHub T → ParcelPass T → Floor
  floor_by hub pass = hub_floor hub.hub pass.pass

  -- ---- answers: of so many parcels, by who, whose seat had seen v and now w, and whose floor of numbers was `old` and is `new`

  -- what became of a number that was offered; where that was refused, its value was moved out again
  abbrev pub NumberSent : ℕ → ℕ → Seen T → Seen T → Floor → Floor → ParcelSent T → Type 0
  NumberSent who k v w old new (sent.Sent (Some t) set) = Sends who k old new (placed.Handed t) × (set ≡ 0) × (w ≡ v)
  NumberSent who k v w old new (sent.Sent None set) = Sends who k old new (placed.Kept set) × (w ≡ v)
  NumberSent who k v w old new (sent.Waits wait set) =
      Sends who k old new (placed.Waits wait.place set) × (wait.channel ≡ 0) × (w ≡ v) × HoldsWait who wait new
  NumberSent who k v w old new (sent.Closed y c) = Sends who k old new (placed.Closed c) × TakeAnswer who k v w (Some y) × IsOnly k y v.seen
  NumberSent who k v w old new (sent.Spent y) = Sends who k old new placed.Spent × TakeAnswer who k v w (Some y) × IsOnly k y v.seen
  NumberSent who k v w old new (sent.NoParcel y) = ⊥
  NumberSent who k v w old new sent.Lost = Refused who k old new × TakeAnswer who k v w None

  -- the value was moved in before its number was offered; where that was refused, the same value comes back
  abbrev pub SendAnswer : ℕ → ℕ → T → Seen T → Seen T → Floor → Floor → ParcelSent T → Type 0
  SendAnswer parcels who x v w old new (sent.Sent (Some t) set) =
      (k : ℕ) × PutAnswer parcels who x v w (Ok k) × Sends who k old new (placed.Handed t) × (set ≡ 0)
  SendAnswer parcels who x v w old new (sent.Sent None set) =
      (k : ℕ) × PutAnswer parcels who x v w (Ok k) × Sends who k old new (placed.Kept set)
  SendAnswer parcels who x v w old new (sent.Waits wait set) =
      (k : ℕ) × PutAnswer parcels who x v w (Ok k) × Sends who k old new (placed.Waits wait.place set) × (wait.channel ≡ 0)
      × HoldsWait who wait new
  SendAnswer parcels who x v w old new (sent.Closed y c) =
      (k : ℕ) × (u : Seen T) × PutAnswer parcels who x v u (Ok k) × Sends who k old new (placed.Closed c)
      × TakeAnswer who k u w (Some y) × (y ≡ x)
  SendAnswer parcels who x v w old new (sent.Spent y) =
      (k : ℕ) × (u : Seen T) × PutAnswer parcels who x v u (Ok k) × Sends who k old new placed.Spent
      × TakeAnswer who k u w (Some y) × (y ≡ x)
  SendAnswer parcels who x v w old new (sent.NoParcel y) = PutAnswer parcels who x v w (Err y) × (new ≡ old)
  SendAnswer parcels who x v w old new sent.Lost =
      (k : ℕ) × (u : Seen T) × PutAnswer parcels who x v u (Ok k) × Refused who k old new × TakeAnswer who k u w None

  -- what became of a number that was tried; where it was not sent, its value was moved out again
  abbrev pub NumberTried : ℕ → ℕ → Seen T → Seen T → Floor → Floor → ParcelOffered T → Type 0
  NumberTried who k v w old new (offered.Sent (Some t)) =
      (place : ℕ) × TriedOfferAnswer who 0 k old new (tried_offer.Handed place t) × (w ≡ v)
  NumberTried who k v w old new (offered.Sent None) = (place : ℕ) × TriedOfferAnswer who 0 k old new (tried_offer.Put place) × (w ≡ v)
  NumberTried who k v w old new (offered.Full y) =
      TriedOfferAnswer who 0 k old new tried_offer.Full × TakeAnswer who k v w (Some y) × IsOnly k y v.seen
  NumberTried who k v w old new (offered.Closed y c) =
      TriedOfferAnswer who 0 k old new (tried_offer.Closed c) × TakeAnswer who k v w (Some y) × IsOnly k y v.seen
  NumberTried who k v w old new (offered.Spent y) =
      TriedOfferAnswer who 0 k old new tried_offer.Spent × TakeAnswer who k v w (Some y) × IsOnly k y v.seen
  NumberTried who k v w old new (offered.NoParcel y) = ⊥
  NumberTried who k v w old new offered.Lost = TriedInVain who k old new × TakeAnswer who k v w None

  -- the value was moved in before its number was tried, which never waits; where it was not sent, the same value comes back
  abbrev pub TrySendAnswer : ℕ → ℕ → T → Seen T → Seen T → Floor → Floor → ParcelOffered T → Type 0
  TrySendAnswer parcels who x v w old new (offered.Sent (Some t)) =
      (k : ℕ) × (place : ℕ) × PutAnswer parcels who x v w (Ok k) × TriedOfferAnswer who 0 k old new (tried_offer.Handed place t)
  TrySendAnswer parcels who x v w old new (offered.Sent None) =
      (k : ℕ) × (place : ℕ) × PutAnswer parcels who x v w (Ok k) × TriedOfferAnswer who 0 k old new (tried_offer.Put place)
  TrySendAnswer parcels who x v w old new (offered.Full y) =
      (k : ℕ) × (u : Seen T) × PutAnswer parcels who x v u (Ok k) × TriedOfferAnswer who 0 k old new tried_offer.Full
      × TakeAnswer who k u w (Some y) × (y ≡ x)
  TrySendAnswer parcels who x v w old new (offered.Closed y c) =
      (k : ℕ) × (u : Seen T) × PutAnswer parcels who x v u (Ok k) × TriedOfferAnswer who 0 k old new (tried_offer.Closed c)
      × TakeAnswer who k u w (Some y) × (y ≡ x)
  TrySendAnswer parcels who x v w old new (offered.Spent y) =
      (k : ℕ) × (u : Seen T) × PutAnswer parcels who x v u (Ok k) × TriedOfferAnswer who 0 k old new tried_offer.Spent
      × TakeAnswer who k u w (Some y) × (y ≡ x)
  TrySendAnswer parcels who x v w old new (offered.NoParcel y) = PutAnswer parcels who x v w (Err y) × (new ≡ old)
  TrySendAnswer parcels who x v w old new offered.Lost =
      (k : ℕ) × (u : Seen T) × PutAnswer parcels who x v u (Ok k) × TriedInVain who k old new × TakeAnswer who k u w None

  -- the slot of this number held no value, or there is no such number
  abbrev pub IsLost : ℕ → ℕ → ℕ → Seen T → Seen T → Type 0
  IsLost parcels who k v w = ((parcels ≤ k) × (w ≡ v)) ⊎ TakeAnswer who k v w None

  -- the value that was moved in with the number that was received
  abbrev pub ReceiveAnswer : ℕ → ℕ → Seen T → Seen T → Floor → Floor → ParcelGot T → Type 0
  ReceiveAnswer parcels who v w old new (found.Value x t set) =
      (k : ℕ) × Gets who old new (received.Taken k t set) × TakeAnswer who k v w (Some x)
  ReceiveAnswer parcels who v w old new (found.Waits wait) =
      Gets who old new (received.Waiting wait.place) × (wait.channel ≡ 0) × (w ≡ v) × HoldsWait who wait new
  ReceiveAnswer parcels who v w old new (found.Closed c) = Gets who old new (received.Closed c) × (w ≡ v)
  ReceiveAnswer parcels who v w old new found.Spent = Gets who old new received.Spent × (w ≡ v)
  ReceiveAnswer parcels who v w old new (found.Lost t set) =
      (k : ℕ) × Gets who old new (received.Taken k t set) × IsLost parcels who k v w

  -- the same, of a receive that never waits
  abbrev pub TryAnswer : ℕ → ℕ → Seen T → Seen T → Floor → Floor → ParcelTried T → Type 0
  TryAnswer parcels who v w old new (tried.Value x t set) =
      (k : ℕ) × TriesToGet who old new (tried_received.Taken k t set) × TakeAnswer who k v w (Some x)
  TryAnswer parcels who v w old new tried.Empty = TriesToGet who old new tried_received.Empty × (w ≡ v)
  TryAnswer parcels who v w old new (tried.Closed c) = TriesToGet who old new (tried_received.Closed c) × (w ≡ v)
  TryAnswer parcels who v w old new (tried.Lost t set) =
      (k : ℕ) × TriesToGet who old new (tried_received.Taken k t set) × IsLost parcels who k v w

  -- the value that was moved in with the number that the wait was handed
  abbrev pub SettleParcel : ℕ → ℕ → WaitId → Bool → Seen T → Seen T → Floor → Floor → ParcelSettled T → Type 0
  SettleParcel parcels who at cancelled v w old new (settled.Value x) =
      (k : ℕ) × EndAnswer who at cancelled old new (ended.Value k) × TakeAnswer who k v w (Some x)
  SettleParcel parcels who at cancelled v w old new settled.Sent = EndAnswer who at cancelled old new ended.Sent × (w ≡ v)
  SettleParcel parcels who at cancelled v w old new (settled.Closed c) = EndAnswer who at cancelled old new (ended.Closed c) × (w ≡ v)
  SettleParcel parcels who at cancelled v w old new (settled.Cancelled (Some x)) =
      (k : ℕ) × EndAnswer who at cancelled old new (ended.Withdrew k) × TakeAnswer who k v w (Some x)
  SettleParcel parcels who at cancelled v w old new (settled.Cancelled None) = EndAnswer who at cancelled old new ended.Cancelled × (w ≡ v)
  SettleParcel parcels who at cancelled v w old new (settled.Undelivered x) =
      (k : ℕ) × EndAnswer who at cancelled old new (ended.Undelivered k) × TakeAnswer who k v w (Some x)
  SettleParcel parcels who at cancelled v w old new settled.Lost =
      (k : ℕ)
      × (EndAnswer who at cancelled old new (ended.Value k)
      ⊎ EndAnswer who at cancelled old new (ended.Withdrew k)
      ⊎ EndAnswer who at cancelled old new (ended.Undelivered k))
      × IsLost parcels who k v w

  -- a value moved out, or none, and the coroutine that waited with its number
  abbrev pub DrainParcel : ℕ → ℕ → Seen T → Seen T → Floor → Floor → Option (Option T × Option ℕ) → Type 0
  DrainParcel parcels who v w old new None = DrainAnswer who 0 old new None × (w ≡ v)
  DrainParcel parcels who v w old new (Some (Some x, t)) =
      (place : ℕ) × (k : ℕ) × DrainAnswer who 0 old new (Some (place, k, t)) × TakeAnswer who k v w (Some x)
  DrainParcel parcels who v w old new (Some (None, t)) =
      (place : ℕ) × (k : ℕ) × DrainAnswer who 0 old new (Some (place, k, t)) × IsLost parcels who k v w
