-- A ring as a sink.
use Rattle.std.specs.Prelude.{◌≡◌, ◌⊎◌, ℕ, List, Option, Some, None, Result, Ok, Err, ⊤}
use Rattle.futures.specs.declared.task.Poll.{Poll}
use Rattle.futures.specs.declared.task.Poll.TheVariants.{Ready, Pending}
use Rattle.ring_channel.specs.Passes.{SamePass, seen_by, tag_of}
use Rattle.ring_bridge.specs.declared.sinks.Put.{Put}
use Rattle.ring_bridge.specs.declared.sinks.Put.TheVariants as put
use Rattle.ring_bridge.specs.declared.sinks.RingSink.{RingSink}
use Rattle.ring_bridge.specs.declared.sinks.RingSinkFault.{RingSinkFault}
use Rattle.ring_bridge.specs.Waits.{NotYetSent, SentOrNot}

module _ {T : Type 0} where
  -- at any time
  abbrev pub SinkPolls : RingSink T → Type 0
  SinkPolls s = ⊤

  -- each value
  abbrev pub TakesAny : RingSink T → T → Type 0
  TakesAny s x = ⊤

  -- whatever it was sent
  abbrev pub TookAny : RingSink T → List T → Type 0
  TookAny s xs = ⊤

  -- it is a sink of the same ring, with the same tags
  abbrev pub SameSink : RingSink T → RingSink T → Type 0
  SameSink old new = (new.ring.now ≡ old.ring.now) × SamePass old.pass new.pass

  -- it sent x for good: this is the place, or why there is none
  abbrev pub EndsSo : T → RingSink T → RingSink T → Result ℕ (RingSinkFault T) → Type 0
  EndsSo x old new r =
      (new.held ≡ None)
      × SentOrNot old.ring.now.slots old.ring.now.places (tag_of old.pass) x (seen_by old.pass) (seen_by new.pass) r

  -- x waits for room
  abbrev pub HoldsSo : T → RingSink T → RingSink T → Type 0
  HoldsSo x old new =
      (new.held ≡ Some x)
      × NotYetSent old.ring.now.slots old.ring.now.places (tag_of old.pass) x (seen_by old.pass) (seen_by new.pass)

  -- x was sent, or is held
  abbrev pub PutSo : T → RingSink T → RingSink T → Put T → Type 0
  PutSo x old new put.Done = (p : ℕ) × EndsSo x old new (Ok p)
  PutSo x old new put.Waits = HoldsSo x old new
  PutSo x old new put.Passed = HoldsSo x old new
  PutSo x old new (put.Failed f) = EndsSo x old new (Err f)

  -- the same of the value that was held; where there was none nothing was done
  abbrev pub FlushedSo : Option T → RingSink T → RingSink T → Put T → Type 0
  FlushedSo None old new r = (r ≡ put.Done) × (new.held ≡ None) × (new.pass ≡ old.pass)
  FlushedSo (Some x) old new r = PutSo x old new r

  -- the same of a poll, which is pending while a value is held
  abbrev pub PushedSo : Option T → RingSink T → RingSink T → Poll (Result (Unit {0}) (RingSinkFault T)) → Type 0
  PushedSo None old new r = (r ≡ Ready (Ok tt)) × (new.held ≡ None) × (new.pass ≡ old.pass)
  PushedSo (Some x) old new (Ready (Ok u)) = (p : ℕ) × EndsSo x old new (Ok p)
  PushedSo (Some x) old new (Ready (Err f)) = EndsSo x old new (Err f)
  PushedSo (Some x) old new Pending = HoldsSo x old new

  -- x was sent or is held, or comes back
  abbrev pub StartedSo : T → RingSink T → RingSink T → Result (Unit {0}) (RingSinkFault T) → Type 0
  StartedSo x old new (Ok u) = ((p : ℕ) × EndsSo x old new (Ok p)) ⊎ HoldsSo x old new
  StartedSo x old new (Err f) = EndsSo x old new (Err f)
