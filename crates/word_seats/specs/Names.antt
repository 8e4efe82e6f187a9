-- What names a hub, and a forest.
use Rattle.std.specs.Prelude.{◌≡◌, []}
use Rattle.atomic_table.specs.Seated.{TableId}
use Rattle.cell_words.specs.declared.hub.Hub.{Hub}
use Rattle.word_rules.specs.declared.layout.Layout.{Layout}
use Rattle.job_words.specs.declared.forest.Forest.{Forest}
use Rattle.word_rules.specs.declared.size.ForestSize.{ForestSize}

-- any table, where none is picked
abbrev pub no_table : TableId
no_table = record { words = 0; slots = 0; views_name = 0; atom = 0; block = 0; offset = 0; slot_names = [] }

-- the hub has this table, which was made for this layout, and so many rows
abbrev pub IsNamedHub : TableId → Layout × ForestSize → Hub → Type 0
IsNamedHub table key hub = (hub.table.value.shared.table_id ≡ table) × (hub.table.value.shared.key ≡ key)

-- the forest has this table, which was made for this layout, and so many rows
abbrev pub IsNamedForest : TableId → Layout × ForestSize → Forest → Type 0
IsNamedForest table key forest = (forest.table.value.shared.table_id ≡ table) × (forest.table.value.shared.key ≡ key)
