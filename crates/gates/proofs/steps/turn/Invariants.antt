use Rattle.gates.specs.Passes.{IsOf, SamePass, IsAt}
use Rattle.gates.specs.Seen.{Beaten}
use Rattle.gates.proofs.steps.turn.Given as goal

abbrev pub invariant-loop-tries : goal.invariant-loop-tries
invariant-loop-tries l = record {
  of : IsOf l.gate l.pass;
  same : SamePass l.initial.pass l.pass;
  at : IsAt l.initial.pass.held l.initial.pass.waits l.pass;
  beaten : Beaten l._tries l.initial.pass.number l.initial.pass.seat.me.0 l.pass.seat.me.0;
}
