-- Two passes of one channel over words.
use Rattle.std.specs.Prelude.{◌≡◌, ◌<◌, false, length}
use Rattle.channel_model.specs.Channels.{kind_at, is_signal}
use Rattle.cell_words.specs.declared.hub.Hub.{Hub}
use Rattle.cell_words.specs.declared.pass.Pass.{Pass}
use Rattle.cell_words.specs.Hubs.{shape_of, IsOwn}

-- channel 0 carries elements, and the passes are those of the tags 1 and 2
abbrev pub AreTwo : Hub → Pass → Pass → Type 0
AreTwo hub one two =
    (0 < length (shape_of hub))
    × (is_signal (kind_at (shape_of hub) 0) ≡ false)
    × IsOwn hub one 1
    × IsOwn hub two 2
