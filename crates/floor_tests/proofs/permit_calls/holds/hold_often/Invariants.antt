use Rattle.channel_calls.specs.Calls.{SameCaller}
use Rattle.permits.specs.Parts.{UsesPermits}
use Rattle.floor_tests.proofs.permit_calls.holds.hold_often.Given as goal

abbrev pub invariant-loop : goal.invariant-loop
invariant-loop g l = record {
  same : SameCaller g.F.ChannelFloor.anchor l.initial.x l.x;
  uses : UsesPermits l.p.c l.p.n l.initial.x.who l.held (g.F.ChannelFloor.view l.x.floor.now);
}
