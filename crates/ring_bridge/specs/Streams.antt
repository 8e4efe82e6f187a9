-- A ring as a stream.
use Rattle.std.specs.Prelude.{◌≡◌, ℕ, List, Option, Some, None, ⊤}
use Rattle.futures.specs.declared.task.Poll.{Poll}
use Rattle.futures.specs.declared.task.Poll.TheVariants.{Ready, Pending}
use Rattle.ring_channel.specs.Passes.{SamePass, seen_by, tag_of}
use Rattle.ring_bridge.specs.declared.streams.RingStream.{RingStream}
use Rattle.ring_bridge.specs.Waits.{NotYetReceived, ReceivedOrOver}

module _ {T : Type 0} where
  -- at any time
  abbrev pub PollsAny : RingStream T → Type 0
  PollsAny s = ⊤

  -- whatever the senders put
  abbrev pub YieldsAny : RingStream T → List T → Option T → Type 0
  YieldsAny s xs last = ⊤

  -- it is a stream of the same ring, with the same tags
  abbrev pub SameStream : RingStream T → RingStream T → Type 0
  SameStream old new = (new.ring.now ≡ old.ring.now) × SamePass old.pass new.pass

  -- the value that a poll gives was received by it; it ends where the ring is over; and it is pending where it waits
  abbrev pub PolledSo : RingStream T → RingStream T → Poll (Option T) → Type 0
  PolledSo old new (Ready (Some x)) =
      (p : ℕ) × ReceivedOrOver old.ring.now.slots (tag_of old.pass) (seen_by old.pass) (seen_by new.pass) (Some (p, x))
  PolledSo old new (Ready None) = ReceivedOrOver old.ring.now.slots (tag_of old.pass) (seen_by old.pass) (seen_by new.pass) None
  PolledSo old new Pending = NotYetReceived old.ring.now.slots (tag_of old.pass) (seen_by old.pass) (seen_by new.pass)
