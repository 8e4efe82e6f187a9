-- The table of the berths.
use Rattle.std.specs.Prelude.{◌≡◌, suc, ◌*◌}
use Rattle.atomic_table.specs.Seated.{TableId}

-- two words for each berth, and one more
abbrev pub IsTable : TableId → Type 0
IsTable table = table.words ≡ suc (2 * table.slots)
