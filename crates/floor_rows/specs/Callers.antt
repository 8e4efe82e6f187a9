-- A coroutine with a pass of its own, and what it knows.
use Rattle.std.specs.Prelude.{ℕ}
use Rattle.cell_words.specs.declared.hub.Hub.{Hub}
use Rattle.cell_words.specs.declared.pass.Pass.{Pass}
use Rattle.cell_words.specs.Hubs.{IsOwn}
use Rattle.cell_calls.specs.HubFloors.{hub_floor}
use Rattle.floor_rows.specs.declared.known.Known.{Known}
use Rattle.floor_rows.specs.Known.{Knows}

-- the pass may call for who, who knows this of the first channel
pub record IsCaller (hub : Hub) (who : ℕ) (pass : Pass) (k : Known) : Type 0 where
  pub own : IsOwn hub pass who
  pub knows : Knows k (hub_floor hub pass)
