use Rattle.cell_words.specs.declared.pass.Pass.{Pass}
use Rattle.cell_calls.specs.HubFloors.{hub_floor}
use Rattle.floor_rows.specs.Known.{Knows, nothing}
use Rattle.floor_rows.proofs.NothingKnown.{knows_nothing}
use Rattle.floor_rows.proofs.rows.right_on_hub.Goals as goal

pub right_of_three-requires : goal.right_of_three-requires
right_of_three-requires c =
    let knows : (pass : Pass) → Knows nothing (hub_floor c.in_ok-hub.hub pass) = λ pass. knows_nothing c.args.kind c.args.places
    (hub_floor c.in_ok-hub.hub pass) c.in_ok-hub.ensures.shape c.requires.elements in
    record {
      a = record { own = c.split-a.ensures.own; knows = knows c.split-a.result };
      b = record { own = c.split-b.ensures.own; knows = knows c.split-b.result };
      c = record { own = c.split-c.ensures.own; knows = knows c.split-c.result };
    }
