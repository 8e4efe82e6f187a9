use Rattle.parcel_channel.specs.Hubs.{floor_by}
use Rattle.parcel_channel.specs.Numbers.{HoldsWait}
use Rattle.bridge_tests.specs.ParcelPasses.{Keeps}
use Rattle.bridge_tests.proofs.parcels.parcel_lines.await_number.Given as goal

abbrev pub invariant-loop : goal.invariant-loop
invariant-loop l = record { kept : Keeps l.hub l.initial.pass l.pass; holds : HoldsWait l.pass.tag l.wait (floor_by l.hub l.pass) }
