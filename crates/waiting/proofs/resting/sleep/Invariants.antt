use Rattle.parcel_channel.specs.Hubs.{IsOf}
use Rattle.waiting.specs.Waits.{Stays}
use Rattle.waiting.proofs.resting.sleep.Given as goal

abbrev pub invariant-loop : goal.invariant-loop
invariant-loop g l = record { of : IsOf l.hub l.pass; stays : Stays l.hub l.wait l.initial.pass l.pass }
