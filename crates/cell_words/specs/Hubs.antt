-- A hub and a pass.
use Rattle.std.specs.Prelude.{◌≡◌, ℕ, true, List}
use Rattle.worded.specs.Views.{IsIdleSeatOf, HasGiven, has_tag}
use Rattle.joined_words.specs.Seen.{view_of, tags_given}
use Rattle.channel_model.specs.Channels.{Shape}
use Rattle.cell_words.specs.declared.hub.Hub.{Hub}
use Rattle.cell_words.specs.declared.pass.Pass.{Pass}
use Rattle.worded.specs.declared.view.View.{View}
use Rattle.word_rules.specs.declared.deed.Deed.{Deed}
use Rattle.word_rules.specs.declared.size.ForestSize.{ForestSize}
use Rattle.cell_words.specs.Seen.{Seen, on_channels, rows_beside}

abbrev pub shape_of : Hub → Shape
shape_of hub = hub.table.value.shared.key.0.kinds

-- what the pass knows of the channels
abbrev pub seen_by : Pass → Seen
seen_by pass = on_channels pass.seat.me.0

-- what it knows of the rows beside them
abbrev pub beside : Pass → View Deed ForestSize
beside pass = rows_beside pass.seat.me.0

-- the pass is one of the hub
abbrev pub IsOf : Hub → Pass → Type 0
IsOf hub pass = IsIdleSeatOf hub.table.value.shared.table_id hub.table.value.shared.key pass.seat

-- and who is one of its callers
abbrev pub IsOwn : Hub → Pass → ℕ → Type 0
IsOwn hub pass who = IsOf hub pass × (has_tag who (seen_by pass).tags ≡ true)

-- the pass gives out tags, and has given out these
abbrev pub GivesTags : List ℕ → Pass → Type 0
GivesTags given pass = HasGiven given (view_of (seen_by pass))

-- it gives out tags as before
abbrev pub SameGiving : Pass → Pass → Type 0
SameGiving old new = tags_given (seen_by new) ≡ tags_given (seen_by old)
