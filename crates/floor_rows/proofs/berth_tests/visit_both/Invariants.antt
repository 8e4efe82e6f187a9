use Rattle.std.proofs.Common.{◌≡◌, []}
use Rattle.task_berths.specs.Seats.{view_of, IsSeatOf}
use Rattle.floor_rows.proofs.berth_tests.visit_both.Given as goal

abbrev pub invariant-loop : goal.invariant-loop
invariant-loop l = IsSeatOf l.berths l.seat × ((view_of l.seat).held ≡ [])
