use Rattle.std.proofs.Common.{◌≤◌}
use Rattle.floor_tests.specs.Shares.{OwnsAll}
use Rattle.floor_tests.proofs.forest_shares.shares.work_through.Given as goal

abbrev pub invariant-loop-tag : goal.invariant-loop-tag
invariant-loop-tag l = record {
  owns : OwnsAll l.forest l.pass l.from l.to;
  from : l.from ≤ l.tag;
}
