-- What a coroutine's floor of Jobs hears of its channels between two calls.
use Rattle.std.specs.Prelude.{ℕ, []}
use Rattle.channel_model.specs.Floors.{Floor as ChannelFloor}
use Rattle.job_model.specs.Floors.{Floor, Looked}
use Rattle.call_meaning.specs.Orders.{HeardIfJoint}

-- the floor of Jobs heard what was seen on these channels, and who made no entry
pub record HasHeardOf (who : ℕ) (c : ChannelFloor) (old new : Floor) : Type 0 where
  pub looked : Looked who [] old new
  pub heard : HeardIfJoint c new
