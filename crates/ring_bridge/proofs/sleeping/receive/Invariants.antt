use Rattle.ring_channel.specs.Passes.{IsOf, SamePass, seen_by, tag_of}
use Rattle.ring_bridge.specs.Waits.{WaitedToReceive}
use Rattle.ring_bridge.proofs.sleeping.receive.Given as goal

abbrev pub invariant-loop : goal.invariant-loop
invariant-loop g l = record {
  finite : (goal.iterator-loop g).can_next l.iterator' × (goal.iterator-loop g).is_finite l.iterator';
  of : IsOf l.ring l.pass;
  same : SamePass l.initial.pass l.pass;
  waited : WaitedToReceive l.ring.slots (tag_of l.initial.pass) (seen_by l.initial.pass) (seen_by l.pass);
}
