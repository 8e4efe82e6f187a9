use Rattle.std.proofs.Common.{◌≡◌, ◌-◌}
use Rattle.ring_channel.specs.Outcomes.{Tried, MissedRoom}
use Rattle.ring_channel.specs.Passes.{IsOf, SamePass, seen_by, tag_of}
use Rattle.ring_channel.proofs.ring.Ring.send.Given as goal

abbrev pub invariant-loop-tries : goal.invariant-loop-tries
invariant-loop-tries g l =
    IsOf l.self l.pass × SamePass l.initial.pass l.pass × (l.value ≡ l.initial.value)
    × Tried (MissedRoom l.self.slots l.self.places (tag_of l.initial.pass) l.initial.value) l.tries (seen_by l.initial.pass) (seen_by l.pass)

abbrev pub decreases-loop-tries : goal.decreases-loop-tries
decreases-loop-tries g l = 18446744073709551615 - l.tries
