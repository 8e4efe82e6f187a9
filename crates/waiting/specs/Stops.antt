-- What a wait comes to that is given up.
use Rattle.std.specs.Prelude.{◌≡◌, ℕ, true, Option, Some, None}
use Rattle.co_base.specs.declared.names.WaitId.{WaitId}
use Rattle.channel_model.specs.declared.acts.Why.TheVariants as why
use Rattle.channel_model.specs.declared.floor.Withdrawn.{Withdrawn}
use Rattle.channel_model.specs.Floors.{Floor}
use Rattle.channel_model.specs.Answers.{IsReady, WithdrawAnswer}
use Rattle.parcel_channel.specs.declared.hub.ParcelHub.{ParcelHub}
use Rattle.parcel_channel.specs.declared.hub.ParcelPass.{ParcelPass}
use Rattle.parcel_channel.specs.declared.answers.ParcelSettled.{ParcelSettled}
use Rattle.parcel_channel.specs.declared.answers.ParcelSettled.TheVariants as settled
use Rattle.parcel_channel.specs.Seen.{Seen}
use Rattle.parcel_channel.specs.Hubs.{SamePass, seen_by, floor_by, SettleParcel}

module _ {T : Type 0} where
  -- the pass took its wait back, or that was resolved before
  pub record TakesBack (hub : ParcelHub T) (wait : WaitId) (old new : ParcelPass T) (how : Withdrawn) : Type 0 where
    pub same : SamePass old new
    pub values : seen_by new ≡ seen_by old
    pub answer : WithdrawAnswer old.tag wait why.Cancelled (floor_by hub old) (floor_by hub new) how
    pub ready : IsReady new.tag wait (floor_by hub new)

  -- and then settled it as cancelled
  pub record GivesUp (parcels who : ℕ) (wait : WaitId) (v w : Seen T) (old new : Floor) (s : ParcelSettled T) : Type 0 where
    pub how : Withdrawn
    pub mid : Floor
    pub withdrawn : WithdrawAnswer who wait why.Cancelled old mid how
    pub settled : SettleParcel parcels who wait true v w mid new s

  -- the value that comes back
  abbrev pub value_in : ParcelSettled T → Option T
  value_in (settled.Value x) = Some x
  value_in settled.Sent = None
  value_in (settled.Closed c) = None
  value_in (settled.Cancelled x) = x
  value_in (settled.Undelivered x) = Some x
  value_in settled.Lost = None

  -- who stood at no wait stops so, and else gives its wait up
  abbrev pub StopsAt : Option WaitId → ParcelHub T → ParcelPass T → ParcelPass T → Option T → Type 0
  StopsAt None hub old new value = (new ≡ old) × (value ≡ None)
  StopsAt (Some at) hub old new value =
      (s : ParcelSettled T)
      × GivesUp hub.parcels old.tag at (seen_by old) (seen_by new) (floor_by hub old) (floor_by hub new) s
      × (value ≡ value_in s)
