use Rattle.std.proofs.Common.{◌≤◌}
use Rattle.job_words.specs.Forests.{IsOwn}
use Rattle.floor_tests.specs.Shares.{OwnsAll, GivesFrom}
use Rattle.floor_tests.proofs.forest_shares.shares.share_of.Given as goal

abbrev pub invariant-loop-tag : goal.invariant-loop-tag
invariant-loop-tag l = record {
  own : IsOwn l.forest l.main 0;
  gives : GivesFrom l.forest l.main l.tag;
  owns : OwnsAll l.forest l.pass l.from l.tag;
  within : l.tag ≤ l.to;
}
