use Rattle.std.specs.Prelude.{[]}
use Rattle.channel_model.specs.Laws.{NoneBelow}
use Rattle.channel_model.specs.Floors.{AtMoment}
use Rattle.cell_words.specs.Hubs.{IsOwn, seen_by}
use Rattle.cell_words.specs.Seen.{Sees, at_channel}
use Rattle.cell_calls.specs.HubFloors.{hub_floor}
use Rattle.cell_calls.specs.Registrations.{IsMainStanding}
use Rattle.cell_calls.proofs.registering.walk_to_receive.Given as goal

abbrev pub invariant-loop-place : goal.invariant-loop-place
invariant-loop-place l = record {
  own : IsOwn l.hub l.pass l.who;
  sees : Sees (seen_by l.fn.pass) (seen_by l.pass);
  low : NoneBelow 0 l.place (at_channel (seen_by l.pass).seen l.c);
  first : AtMoment l.who [] (hub_floor l.hub l.fn.pass) (hub_floor l.hub l.pass) (IsMainStanding l.main);
}
