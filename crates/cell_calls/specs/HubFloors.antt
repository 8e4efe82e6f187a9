-- What the callers of a pass see of a hub.
use Rattle.std.specs.Prelude.{false}
use Rattle.channel_model.specs.Floors.{Floor}
use Rattle.worded.specs.Views.{has_tag}
use Rattle.cell_words.specs.declared.hub.Hub.{Hub}
use Rattle.cell_words.specs.declared.pass.Pass.{Pass}
use Rattle.cell_words.specs.Hubs.{shape_of, seen_by}

-- a call takes no memory, so there is always room
abbrev pub hub_floor : Hub → Pass → Floor
hub_floor hub pass =
    record {
      shape = shape_of hub;
      seen = (seen_by pass).seen;
      spare = 4294967296;
      alone = false;
      callers = λ t. has_tag t (seen_by pass).tags;
      order = (seen_by pass).order;
    }
