use Rattle.parcel_channel.specs.Hubs.{IsOf}
use Rattle.bridge_tests.specs.ParcelPasses.{Keeps, HasWait}
use Rattle.bridge_tests.proofs.parcels.parcel_rows.are_right.Given as goal

abbrev pub invariant-loop-by : goal.invariant-loop-by
invariant-loop-by l = record {
  one : Keeps l.hub l.initial.one.pass l.one.pass × HasWait l.hub l.one.pass l.one.wait;
  two : Keeps l.hub l.initial.two.pass l.two.pass × HasWait l.hub l.two.pass l.two.wait;
}
