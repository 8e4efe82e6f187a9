use Rattle.std.proofs.Common.{◌≡◌, map, string_bytes}
use Rattle.std.specs.List.{range_with_len}
use Rattle.log_check.specs.Logs.{row_name}
use Rattle.log_check.proofs.names.row_names.Given as goal

abbrev pub invariant-loop-row : goal.invariant-loop-row
invariant-loop-row l = map string_bytes l.names.items ≡ map row_name (range_with_len 0 l.row-counter)
