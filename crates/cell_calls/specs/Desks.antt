-- What is seen of a desk.
use Rattle.channel_model.specs.Floors.{Floor}
use Rattle.cell_calls.specs.declared.desk.Desk.{Desk}
use Rattle.cell_calls.specs.declared.desk.DeskAnchor.{DeskAnchor}
use Rattle.cell_calls.specs.HubFloors.{hub_floor}
use Rattle.cell_words.specs.Hubs.{seen_by}

-- what its callers have seen
abbrev pub desk_floor : Desk → Floor
desk_floor d = hub_floor d.hub.now d.pass.now

-- what its calls do not change
abbrev pub desk_anchor : Desk → DeskAnchor
desk_anchor d =
    record {
      hub = d.hub.now;
      name = d.pass.ghost_name;
      chief = (seen_by d.pass.now).chief;
      given = (seen_by d.pass.now).given;
      given_all = (seen_by d.pass.now).given_all;
    }
