use Rattle.std.proofs.Common.{◌≡◌, ℕ, ◌+◌, ◌-◌, slice_index_or, vec_len}
use Rattle.run_report.proofs.table.set_in_row.Given as goal

abbrev pub invariant-loop-plain : goal.invariant-loop-plain
invariant-loop-plain g l = (q : ℕ) → slice_index_or l.row.items q l.plain ≡ slice_index_or l.fn.row.items q l.plain

abbrev pub decreases-loop-plain : goal.decreases-loop-plain
decreases-loop-plain g l = l.place + 1 - vec_len l.row
