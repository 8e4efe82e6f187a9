use Rattle.parcel_channel.specs.Hubs.{IsOf}
use Rattle.bridge_tests.proofs.parcels.parcel_lines.send_part.Given as goal

abbrev pub invariant-loop-number : goal.invariant-loop-number
invariant-loop-number g l = IsOf l.hub l.pass
