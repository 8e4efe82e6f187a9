-- What three coroutines know of the one permit of a channel, on one floor or with a pass each.
use Rattle.std.specs.Prelude.{◌≡◌, true}
use Rattle.channel_model.specs.Floors.{Floor}
use Rattle.cell_words.specs.declared.hub.Hub.{Hub}
use Rattle.cell_words.specs.declared.pass.Pass.{Pass}
use Rattle.cell_words.specs.Hubs.{IsOf}
use Rattle.cell_calls.specs.HubFloors.{hub_floor}
use Rattle.permits.specs.Parts.{UsesPermits, MayFill}
use Rattle.floor_tests.specs.declared.permit_calls.three_callers.Three.{Three}
use Rattle.floor_tests.specs.KnownPermits.{Knows}

-- ---- three coroutines, with the tags 0, 1 and 2, on the one permit of the first channel

-- on one floor, where nobody else calls
pub record AllKnow (k : Three) (f : Floor) : Type 0 where
  pub alone : f.alone ≡ true
  pub a : Knows 0 1 0 k.a f
  pub b : Knows 0 1 1 k.b f
  pub c : Knows 0 1 2 k.c f

-- ---- with a pass each

-- the first may fill, and no other has called
pub record AreFresh (hub : Hub) (p q r : Pass) : Type 0 where
  pub of_a : IsOf hub p
  pub of_b : IsOf hub q
  pub of_c : IsOf hub r
  pub a : MayFill 0 1 0 (hub_floor hub p)
  pub b : UsesPermits 0 1 1 0 (hub_floor hub q)
  pub c : UsesPermits 0 1 2 0 (hub_floor hub r)

pub record AllHold (hub : Hub) (p q r : Pass) (k : Three) : Type 0 where
  pub of_a : IsOf hub p
  pub of_b : IsOf hub q
  pub of_c : IsOf hub r
  pub a : Knows 0 1 0 k.a (hub_floor hub p)
  pub b : Knows 0 1 1 k.b (hub_floor hub q)
  pub c : Knows 0 1 2 k.c (hub_floor hub r)
