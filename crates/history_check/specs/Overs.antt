-- Of each element, whether it was one too many when it was placed.
use Rattle.std.specs.Prelude.{◌≡◌, ℕ, ◌<◌, ◌==◌, ◌&&◌, Bool, false, List, [], Vec, length, Option, Some, None, slice_get, if◌then◌else◌}
use Rattle.std.specs.Global.{Global}
use Rattle.channel_model.specs.declared.acts.Act.{Act}
use Rattle.channel_model.specs.declared.acts.Act.TheVariants.{Put, Spurn}
use Rattle.channel_model.specs.Channels.{Shape, State, kind_at, spurns}
use Rattle.channel_model.specs.Floors.{Floor}
use Rattle.channel_model.specs.Histories.{replay}

-- a bit is set
abbrev pub is_set : Option Bool → Bool
is_set None = false
is_set (Some b) = b

abbrev pub bit_in : List Bool → ℕ → Bool
bit_in bits place = is_set (slice_get bits place)

-- the bits of a channel, if there are some
abbrev pub bits_of : Option (Vec Bool Global) → List Bool
bits_of None = []
bits_of (Some bits) = bits.items

-- the bit of this channel and place
abbrev pub over_in : List (Vec Bool Global) → ℕ → ℕ → Bool
over_in overs c place = bit_in (bits_of (slice_get overs c)) place

-- bits of so many channels, of which none is set
pub record AreNone (count : ℕ) (overs : List (Vec Bool Global)) : Type 0 where
  pub counted : length overs ≡ count
  pub none : (c place : ℕ) → over_in overs c place ≡ false

-- bits of the channels of the floor: of each element whether it was one too many when it was placed
pub record AreOvers (floor : Floor) (overs : List (Vec Bool Global)) : Type 0 where
  pub counted : length overs ≡ length floor.shape
  pub bits : (c place : ℕ) → over_in overs c place ≡ spurns (kind_at floor.shape c) ((replay floor.seen).stood c place)

-- only the bit of this channel and place becomes another
pub record IsSet (c place : ℕ) (over : Bool) (old new : List (Vec Bool Global)) : Type 0 where
  pub counted : length new ≡ length old
  pub bits : c < length old → (d q : ℕ) → over_in new d q ≡ (if (c == d) && (place == q) then over else over_in old d q)

-- whether the element that an act puts is one too many; of another act nothing is said
abbrev pub IsOver : Shape → Act → State → Bool → Type 0
IsOver shape (Put c p v) s over = over ≡ spurns (kind_at shape c) (length (s.channels c).queue)
IsOver shape other s over = Unit {0}

-- whether the element that an act removes was one too many; of another act nothing is said
abbrev pub TellsOver : List (Vec Bool Global) → Act → Bool → Type 0
TellsOver overs (Spurn c p v) over = over ≡ over_in overs c p
TellsOver overs other over = Unit {0}

-- the bits after an act
abbrev pub KeepsOvers : Act → Bool → List (Vec Bool Global) → List (Vec Bool Global) → Type 0
KeepsOvers (Put c p v) over old new = IsSet c p over old new
KeepsOvers other over old new = new ≡ old
