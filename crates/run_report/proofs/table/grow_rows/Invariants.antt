use Rattle.std.proofs.Common.{◌≡◌, ℕ, ◌+◌, ◌-◌, [], slice_index_or, vec_len}
use Rattle.run_report.specs.Tables.{lists_of}
use Rattle.run_report.proofs.table.grow_rows.Given as goal

abbrev pub invariant-loop-alloc : goal.invariant-loop-alloc
invariant-loop-alloc g l = (d : ℕ) → slice_index_or (lists_of l.rows.items) d [] ≡ slice_index_or (lists_of l.fn.rows.items) d []

abbrev pub decreases-loop-alloc : goal.decreases-loop-alloc
decreases-loop-alloc g l = l.c + 1 - vec_len l.rows
