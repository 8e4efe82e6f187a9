use Rattle.parcel_channel.specs.Hubs.{IsOf}
use Rattle.bridge_tests.proofs.parcels.parcel_lines.receive_part.Given as goal

abbrev pub invariant-loop-due : goal.invariant-loop-due
invariant-loop-due g l = IsOf l.hub l.pass
