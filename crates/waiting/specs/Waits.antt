-- What a send and a receive come to that sleep while they have to wait.
use Rattle.std.specs.Prelude.{◌≡◌, ◌⊎◌, ℕ, false, Option, Result, Ok, Err}
use Rattle.co_base.specs.declared.names.WaitId.{WaitId}
use Rattle.channel_model.specs.Floors.{Floor, Looked}
use Rattle.channel_model.specs.Answers.{IsReady}
use Rattle.parcel_channel.specs.declared.hub.ParcelHub.{ParcelHub}
use Rattle.parcel_channel.specs.declared.hub.ParcelPass.{ParcelPass}
use Rattle.parcel_channel.specs.declared.answers.ParcelSent.TheVariants as sent
use Rattle.parcel_channel.specs.declared.answers.ParcelGot.TheVariants as found
use Rattle.parcel_channel.specs.declared.answers.ParcelSettled.{ParcelSettled}
use Rattle.parcel_channel.specs.declared.answers.ParcelSettled.TheVariants as settled
use Rattle.parcel_channel.specs.Seen.{Seen}
use Rattle.parcel_channel.specs.Numbers.{HoldsWait}
use Rattle.parcel_channel.specs.Hubs.{SamePass, seen_by, floor_by, SendAnswer, ReceiveAnswer, SettleParcel}
use Rattle.waiting.specs.declared.calls.SendFault.{SendFault}
use Rattle.waiting.specs.declared.calls.SendFault.TheVariants as unsent
use Rattle.waiting.specs.declared.calls.ReceiveFault.{ReceiveFault}
use Rattle.waiting.specs.declared.calls.ReceiveFault.TheVariants as ungot

module _ {T : Type 0} where
  -- the pass did nothing but look, and its wait did not end
  pub record Stays (hub : ParcelHub T) (wait : WaitId) (old new : ParcelPass T) : Type 0 where
    pub same : SamePass old new
    pub values : seen_by new ≡ seen_by old
    pub looked : Looked old.tag (floor_by hub old) (floor_by hub new)
    pub holds : HoldsWait new.tag wait (floor_by hub new)

  -- who looked until its wait was resolved, and settled it
  pub record EndsAsleep (parcels who : ℕ) (wait : WaitId) (v w : Seen T) (old new : Floor) (r : ParcelSettled T) : Type 0 where
    pub ready : Floor
    pub looked : Looked who old ready
    pub resolved : IsReady who wait ready
    pub settled : SettleParcel parcels who wait false v w ready new r

  -- ---- to send x

  -- it did not wait
  pub record SentAtOnce (parcels who : ℕ) (x : T) (v w : Seen T) (old new : Floor) : Type 0 where
    pub to : Option ℕ
    pub admitted : ℕ
    pub answer : SendAnswer parcels who x v w old new (sent.Sent to admitted)

  -- it waited, and its wait ended so
  pub record SentLater (parcels who : ℕ) (x : T) (v w : Seen T) (old new : Floor) (r : ParcelSettled T) : Type 0 where
    pub wait : WaitId
    pub admitted : ℕ
    pub seen : Seen T
    pub floor : Floor
    pub waits : SendAnswer parcels who x v seen old floor (sent.Waits wait admitted)
    pub ends : EndsAsleep parcels who wait seen w floor new r

  -- and answered so
  abbrev pub SendsAtOnce : ℕ → ℕ → T → Seen T → Seen T → Floor → Floor → Result (Unit {0}) (SendFault T) → Type 0
  SendsAtOnce parcels who x v w old new (Ok u) = SentAtOnce parcels who x v w old new
  SendsAtOnce parcels who x v w old new (Err (unsent.Closed y c)) = SendAnswer parcels who x v w old new (sent.Closed y c)
  SendsAtOnce parcels who x v w old new (Err (unsent.Spent y)) = SendAnswer parcels who x v w old new (sent.Spent y)
  SendsAtOnce parcels who x v w old new (Err (unsent.NoParcel y)) = SendAnswer parcels who x v w old new (sent.NoParcel y)
  SendsAtOnce parcels who x v w old new (Err unsent.Lost) = SendAnswer parcels who x v w old new sent.Lost
  SendsAtOnce parcels who x v w old new (Err (unsent.Ended s)) = ⊥

  -- it ended, but not as sent
  abbrev pub IsUnsent : ParcelSettled T → Type 0
  IsUnsent settled.Sent = ⊥
  IsUnsent other = Unit {0}

  -- how a send ends whose wait ended so
  abbrev pub SendEndsAs : ParcelSettled T → Result (Unit {0}) (SendFault T) → Type 0
  SendEndsAs s (Ok u) = s ≡ settled.Sent
  SendEndsAs s (Err (unsent.Closed y c)) = ⊥
  SendEndsAs s (Err (unsent.Spent y)) = ⊥
  SendEndsAs s (Err (unsent.NoParcel y)) = ⊥
  SendEndsAs s (Err unsent.Lost) = ⊥
  SendEndsAs s (Err (unsent.Ended r)) = (s ≡ r) × IsUnsent r

  -- what a send answers, whether it waited or not
  abbrev pub SentAsleep : ℕ → ℕ → T → Seen T → Seen T → Floor → Floor → Result (Unit {0}) (SendFault T) → Type 0
  SentAsleep parcels who x v w old new r =
      SendsAtOnce parcels who x v w old new r
      ⊎ ((s : ParcelSettled T) × SentLater parcels who x v w old new s × SendEndsAs s r)

  -- ---- to receive

  -- it did not wait
  pub record GotAtOnce (parcels who : ℕ) (v w : Seen T) (old new : Floor) (x : T) : Type 0 where
    pub from : Option ℕ
    pub admitted : ℕ
    pub answer : ReceiveAnswer parcels who v w old new (found.Value x from admitted)

  pub record LostAtOnce (parcels who : ℕ) (v w : Seen T) (old new : Floor) : Type 0 where
    pub from : Option ℕ
    pub admitted : ℕ
    pub answer : ReceiveAnswer parcels who v w old new (found.Lost from admitted)

  -- and answered so
  abbrev pub ReceivesAtOnce : ℕ → ℕ → Seen T → Seen T → Floor → Floor → Result T ReceiveFault → Type 0
  ReceivesAtOnce parcels who v w old new (Ok x) = GotAtOnce parcels who v w old new x
  ReceivesAtOnce parcels who v w old new (Err (ungot.Closed c)) = ReceiveAnswer parcels who v w old new (found.Closed c)
  ReceivesAtOnce parcels who v w old new (Err ungot.Spent) = ReceiveAnswer parcels who v w old new found.Spent
  ReceivesAtOnce parcels who v w old new (Err ungot.Lost) = LostAtOnce parcels who v w old new

  -- it waited, and its wait ended so
  pub record GotLater (parcels who : ℕ) (v w : Seen T) (old new : Floor) (r : ParcelSettled T) : Type 0 where
    pub wait : WaitId
    pub seen : Seen T
    pub floor : Floor
    pub waits : ReceiveAnswer parcels who v seen old floor (found.Waits wait)
    pub ends : EndsAsleep parcels who wait seen w floor new r

  -- it ended as the wait of a receiver does that nobody takes back
  abbrev pub IsReceived : ParcelSettled T → Type 0
  IsReceived (settled.Value x) = Unit {0}
  IsReceived (settled.Closed c) = Unit {0}
  IsReceived settled.Lost = Unit {0}
  IsReceived other = ⊥

  -- how a receive ends whose wait ended so
  abbrev pub ReceiveEndsAs : ParcelSettled T → Result T ReceiveFault → Type 0
  ReceiveEndsAs s (Ok x) = s ≡ settled.Value x
  ReceiveEndsAs s (Err (ungot.Closed c)) = s ≡ settled.Closed c
  ReceiveEndsAs s (Err ungot.Spent) = ⊥
  ReceiveEndsAs s (Err ungot.Lost) = s ≡ settled.Lost

  -- what a receive answers, whether it waited or not
  abbrev pub GotAsleep : ℕ → ℕ → Seen T → Seen T → Floor → Floor → Result T ReceiveFault → Type 0
  GotAsleep parcels who v w old new r =
      ReceivesAtOnce parcels who v w old new r
      ⊎ ((s : ParcelSettled T) × GotLater parcels who v w old new s × ReceiveEndsAs s r)
