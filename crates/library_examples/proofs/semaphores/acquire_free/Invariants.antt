use Rattle.std.specs.Prelude.{◌≡◌, ◌+◌}
use Rattle.channel_calls.specs.Calls.{SameCaller}
use Rattle.permits.specs.Parts.{UsesPermits}
use Rattle.library_examples.proofs.semaphores.acquire_free.Given as goal

abbrev pub invariant-loop-count : goal.invariant-loop-count
invariant-loop-count g l = record {
  same : SameCaller g.F.ChannelFloor.anchor l.initial.caller l.caller;
  uses : UsesPermits l.semaphore.c l.semaphore.n l.caller.who l.held (g.F.ChannelFloor.view l.caller.floor.now);
  more : l.held ≡ l.initial.held + l.count;
}
