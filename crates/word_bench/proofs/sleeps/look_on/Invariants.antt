use Rattle.parcel_channel.specs.Hubs.{IsOf, floor_by}
use Rattle.parcel_channel.specs.Numbers.{HoldsWait}
use Rattle.word_bench.proofs.sleeps.look_on.Given as goal

abbrev pub invariant-loop : goal.invariant-loop
invariant-loop g l = record { of : IsOf l.hub l.pass; holds : HoldsWait l.pass.tag l.wait (floor_by l.hub l.pass) }
