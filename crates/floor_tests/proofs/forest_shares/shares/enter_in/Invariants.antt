use Rattle.floor_tests.specs.Shares.{OwnsAll}
use Rattle.floor_tests.proofs.forest_shares.shares.enter_in.Given as goal

abbrev pub invariant-loop-count : goal.invariant-loop-count
invariant-loop-count l = OwnsAll l.forest l.pass l.from l.to
