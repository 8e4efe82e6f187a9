use Rattle.std.proofs.Common.{◌≡◌}
use Rattle.ring_channel.specs.Passes.{tag_of}
use Rattle.bridge_tests.proofs.rings.selects.receive_of_both.Given as goal

abbrev pub invariant-loop : goal.invariant-loop
invariant-loop g l = (1 ≡ tag_of l.clause.first.pass) × (1 ≡ tag_of l.clause.second.pass)
