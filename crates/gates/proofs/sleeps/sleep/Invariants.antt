use Rattle.std.proofs.Common.{true, []}
use Rattle.gates.specs.Passes.{IsOf, SamePass, IsAt}
use Rattle.gates.specs.Seen.{Adds}
use Rattle.gates.proofs.sleeps.sleep.Given as goal

abbrev pub invariant-loop : goal.invariant-loop
invariant-loop g l = record {
  of : IsOf l.gate l.pass;
  same : SamePass l.initial.pass l.pass;
  at : IsAt l.initial.pass.held true l.pass;
  adds : Adds l.initial.pass.number [] l.initial.pass.seat.me.0 l.pass.seat.me.0;
}
