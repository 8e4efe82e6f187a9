-- Where a stream or a sink stands: at a wait, or at none.
use Rattle.std.specs.Prelude.{◌≡◌, ℕ, List, [], ◌∷◌, Option, Some, None}
use Rattle.co_base.specs.declared.names.WaitId.{WaitId}
use Rattle.channel_model.specs.declared.acts.Act.{Act}
use Rattle.channel_model.specs.declared.acts.Act.TheVariants.{Await}
use Rattle.channel_model.specs.Floors.{Floor}
use Rattle.channel_model.specs.Histories.{acts_of}
use Rattle.parcel_channel.specs.declared.hub.ParcelHub.{ParcelHub}
use Rattle.parcel_channel.specs.declared.hub.ParcelPass.{ParcelPass}
use Rattle.parcel_channel.specs.Hubs.{floor_by}
use Rattle.parcel_channel.specs.Numbers.{HoldsWait}

-- the last of these acts; of none that other one
unfoldable pub last_or : Option Act → List Act → Option Act
last_or before [] = before
last_or before (act ∷ acts) = last_or (Some act) acts

-- who's last act placed this receiver of the channel
abbrev pub IsPlacedLast : ℕ → WaitId → Floor → Type 0
IsPlacedLast who w floor = (w.channel ≡ 0) × (last_or None (acts_of who floor.seen) ≡ Some (Await w.channel w.place w 0))

-- so it is, and its wait did not end
abbrev pub AwaitsOn : ℕ → WaitId → Floor → Type 0
AwaitsOn who w floor = IsPlacedLast who w floor × HoldsWait who w floor

module _ {T : Type 0} where
  -- the wait is the pass's, and did not end
  abbrev pub HoldsAt : ParcelHub T → ParcelPass T → Option WaitId → Type 0
  HoldsAt hub pass None = Unit {0}
  HoldsAt hub pass (Some w) = (w.channel ≡ 0) × HoldsWait pass.tag w (floor_by hub pass)

  -- the wait is that of the pass's last act, a receive, and did not end
  abbrev pub AwaitsAt : ParcelHub T → ParcelPass T → Option WaitId → Type 0
  AwaitsAt hub pass None = Unit {0}
  AwaitsAt hub pass (Some w) = AwaitsOn pass.tag w (floor_by hub pass)
