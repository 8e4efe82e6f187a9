use Rattle.cell_words.specs.Hubs.{IsOf}
use Rattle.cell_calls.specs.HubFloors.{hub_floor}
use Rattle.floor_tests.specs.KnownPermits.{Knows}
use Rattle.floor_tests.proofs.permit_calls.at_once.are_free.Given as goal

abbrev pub invariant-loop : goal.invariant-loop
invariant-loop l = record {
  of : IsOf l.hub l.pass;
  knows : Knows l.p.c l.p.n 0 l.known (hub_floor l.hub l.pass);
}
