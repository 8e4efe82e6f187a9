-- Three passes of one channel of owned values.
use Rattle.std.specs.Prelude.{◌≡◌, ℕ, [], ◌∷◌, Option, IfSome}
use Rattle.co_base.specs.declared.names.WaitId.{WaitId}
use Rattle.parcel_channel.specs.declared.hub.ParcelHub.{ParcelHub}
use Rattle.parcel_channel.specs.declared.hub.ParcelPass.{ParcelPass}
use Rattle.parcel_channel.specs.Hubs.{IsOf, IsFirst, seen_by, floor_by}
use Rattle.parcel_channel.specs.Numbers.{HoldsWait}

module _ {T : Type 0} where
  -- the first of them, which gave out the tags of the others
  abbrev pub IsMain : ParcelHub T → ParcelPass T → Type 0
  IsMain hub pass = IsOf hub pass × IsFirst pass × ((seen_by pass).given ≡ 2 ∷ 1 ∷ 0 ∷ []) × ((seen_by pass).tags ≡ 0 ∷ [])

  -- one of the others
  abbrev pub IsOther : ℕ → ParcelHub T → ParcelPass T → Type 0
  IsOther t hub pass = IsOf hub pass × ((seen_by pass).tags ≡ t ∷ [])

  -- it is still a pass of this channel, with the same tags
  abbrev pub Keeps : ParcelHub T → ParcelPass T → ParcelPass T → Type 0
  Keeps hub old new = IsOf hub new × ((seen_by new).tags ≡ (seen_by old).tags)

  -- the wait, if there is one, is its own
  abbrev pub HasWait : ParcelHub T → ParcelPass T → Option WaitId → Type 0
  HasWait hub pass wait = IfSome wait (λ w. (w.channel ≡ 0) × HoldsWait pass.tag w (floor_by hub pass))
