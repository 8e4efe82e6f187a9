use Rattle.channel_model.specs.Answers.{IsSeenVoided}
use Rattle.parcel_channel.specs.Hubs.{IsOf, floor_by}
use Rattle.bridge_tests.proofs.parcels.parcel_lines.end_all.Given as goal

abbrev pub invariant-loop : goal.invariant-loop
invariant-loop l = IsOf l.hub l.pass × IsSeenVoided 0 (floor_by l.hub l.pass)
