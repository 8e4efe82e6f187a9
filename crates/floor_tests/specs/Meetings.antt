-- The floor on which another coroutine calls in between.
use Rattle.std.specs.Prelude.{◌≡◌, ℕ, ◌≤◌, true, false, [], ◌∷◌, length}
use Rattle.channel_model.specs.declared.acts.Kind.TheVariants.{Rendezvous}
use Rattle.channel_model.specs.Channels.{Shape, kind_at, is_signal}
use Rattle.channel_model.specs.Floors.{Floor}

-- the coroutine that calls in between
abbrev pub other : ℕ
other = 2

-- two rendezvous channels with four places each
abbrev pub two_channels : Shape
two_channels = (Rendezvous, 4) ∷ (Rendezvous, 4) ∷ []

-- the other may call on the first two channels, which carry elements
pub record MayMeet (floor : Floor) : Type 0 where
  pub caller : floor.callers other ≡ true
  pub channels : 2 ≤ length floor.shape
  pub first : is_signal (kind_at floor.shape 0) ≡ false
  pub second : is_signal (kind_at floor.shape 1) ≡ false
