-- Three coroutines with a pass each, who may use the permits of a channel over words.
use Rattle.std.specs.Prelude.{ℕ}
use Rattle.cell_words.specs.declared.hub.Hub.{Hub}
use Rattle.cell_words.specs.Hubs.{IsOf}
use Rattle.cell_calls.specs.HubFloors.{hub_floor}
use Rattle.permits.specs.Parts.{UsesPermits}
use Rattle.library_examples.specs.declared.three_passes.Three.{Three}

-- each uses the n permits of the first channel, and holds none
pub record MayUse (n : ℕ) (hub : Hub) (p : Three) : Type 0 where
  pub of_a : IsOf hub p.a
  pub of_b : IsOf hub p.b
  pub of_c : IsOf hub p.c
  pub a : UsesPermits 0 n 1 0 (hub_floor hub p.a)
  pub b : UsesPermits 0 n 2 0 (hub_floor hub p.b)
  pub c : UsesPermits 0 n 3 0 (hub_floor hub p.c)
