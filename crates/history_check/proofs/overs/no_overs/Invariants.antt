use Rattle.std.proofs.Common.{◌-◌, ◌≤◌}
use Rattle.history_check.specs.Overs.{AreNone}
use Rattle.history_check.proofs.overs.no_overs.Given as goal

abbrev pub invariant-loop-made : goal.invariant-loop-made
invariant-loop-made l = record {
  none : AreNone l.made l.overs.items;
  few : l.made ≤ l.count;
}

abbrev pub decreases-loop-made : goal.decreases-loop-made
decreases-loop-made l = l.count - l.made
