-- A value for each place of each channel.
use Rattle.std.specs.Prelude.{ℕ, List, [], map, slice_index_or, Vec}
use Rattle.std.specs.Global.{Global}
use Rattle.run_report.specs.declared.table.Table.{Table}

-- the rows as lists
abbrev pub lists_of : {T : Type 0} → List (Vec T Global) → List (List T)
lists_of rows = map (λ row. row.items) rows

-- the value at a place: what stands in its channel's row, and the table's plain value after the end
abbrev pub value_in : {T : Type 0} → List (List T) → T → ℕ → ℕ → T
value_in rows plain c p = slice_index_or (slice_index_or rows c []) p plain

abbrev pub value_at : {T : Type 0} → Table T → ℕ → ℕ → T
value_at table c p = value_in (lists_of table.rows.items) table.plain c p
