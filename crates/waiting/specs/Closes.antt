-- What a close comes to that wakes each receiver.
use Rattle.std.specs.Prelude.{ℕ, Some, None, Result}
use Rattle.channel_model.specs.declared.floor.AlreadyClosed.{AlreadyClosed}
use Rattle.channel_model.specs.Floors.{Floor}
use Rattle.channel_model.specs.Answers.{CloseAnswer}
use Rattle.parcel_channel.specs.Hubs.{WakeParcel}

-- who told receivers of the close, one after the other
pub data Tells (who : ℕ) : Floor → Floor → Type 0 where
  nobody : (old : Floor) → Tells who old old
  another : (t : ℕ) (old mid new : Floor) → Tells who old mid → WakeParcel who mid new (Some t) → Tells who old new

-- until none stood
pub record TellsAll (who : ℕ) (old new : Floor) : Type 0 where
  pub before : Floor
  pub told : Tells who old before
  pub none : WakeParcel who before new None

-- the channel was closed, and then each receiver was told
pub record ClosesForAll (who v : ℕ) (old new : Floor) (r : Result (Unit {0}) AlreadyClosed) : Type 0 where
  pub mid : Floor
  pub closed : CloseAnswer who 0 v old mid r
  pub told : TellsAll who mid new
