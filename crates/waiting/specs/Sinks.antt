-- A channel of owned values as a sink.
use Rattle.std.specs.Prelude.{◌≡◌, ◌⊎◌, ℕ, List, Option, Some, None, Result, Ok, Err, ⊤}
use Rattle.futures.specs.declared.task.Poll.{Poll}
use Rattle.futures.specs.declared.task.Poll.TheVariants.{Ready, Pending}
use Rattle.co_base.specs.declared.names.WaitId.{WaitId}
use Rattle.parcel_channel.specs.declared.hub.ParcelHub.{ParcelHub}
use Rattle.parcel_channel.specs.declared.hub.ParcelPass.{ParcelPass}
use Rattle.parcel_channel.specs.declared.answers.ParcelSent.TheVariants as sent
use Rattle.parcel_channel.specs.declared.answers.ParcelSettled.{ParcelSettled}
use Rattle.parcel_channel.specs.declared.answers.ParcelSettled.TheVariants as settled
use Rattle.parcel_channel.specs.Hubs.{SamePass, seen_by, floor_by, SendAnswer}
use Rattle.waiting.specs.declared.calls.SendFault.{SendFault}
use Rattle.waiting.specs.declared.sinks.Flushed.{Flushed}
use Rattle.waiting.specs.declared.sinks.Flushed.TheVariants as flushed
use Rattle.waiting.specs.declared.sinks.ParcelSink.{ParcelSink}
use Rattle.waiting.specs.Waits.{Stays, EndsAsleep, SendsAtOnce, SendEndsAs}

module _ {T : Type 0} where
  -- at any time
  abbrev pub SinkPolls : ParcelSink T → Type 0
  SinkPolls s = ⊤

  -- each value
  abbrev pub TakesAny : ParcelSink T → T → Type 0
  TakesAny s x = ⊤

  -- whatever it was sent
  abbrev pub TookAny : ParcelSink T → List T → Type 0
  TookAny s xs = ⊤

  -- it is a sink of the same channel, with the same tags
  abbrev pub SameSink : ParcelSink T → ParcelSink T → Type 0
  SameSink old new = (new.hub.now ≡ old.hub.now) × SamePass old.pass new.pass

  -- what a flush comes to whose wait ended so
  abbrev pub FlushedAs : ParcelSettled T → Flushed T → Type 0
  FlushedAs s flushed.Done = s ≡ settled.Sent
  FlushedAs s flushed.Waits = ⊥
  FlushedAs s (flushed.Failed f) = SendEndsAs s (Err f)

  -- what becomes of the value that waits at this wait; at none there is nothing to do
  abbrev pub FlushStep : Option WaitId → ParcelHub T → ParcelPass T → ParcelPass T → Flushed T → Type 0
  FlushStep None hub old new r = (r ≡ flushed.Done) × (new ≡ old)
  FlushStep (Some at) hub old new flushed.Done =
      EndsAsleep hub.parcels old.tag at (seen_by old) (seen_by new) (floor_by hub old) (floor_by hub new) settled.Sent
  FlushStep (Some at) hub old new flushed.Waits = Stays hub at old new
  FlushStep (Some at) hub old new (flushed.Failed f) =
      (s : ParcelSettled T)
      × EndsAsleep hub.parcels old.tag at (seen_by old) (seen_by new) (floor_by hub old) (floor_by hub new) s
      × SendEndsAs s (Err f)

  -- the same of the sink's own
  abbrev pub FlushesSo : ParcelSink T → ParcelSink T → Flushed T → Type 0
  FlushesSo old new r = FlushStep old.wait old.hub.now old.pass new.pass r

  -- and where it waits then
  abbrev pub FlushedSo : ParcelSink T → ParcelSink T → Flushed T → Type 0
  FlushedSo old new flushed.Done = FlushesSo old new flushed.Done × (new.wait ≡ None)
  FlushedSo old new flushed.Waits = FlushesSo old new flushed.Waits × (new.wait ≡ old.wait)
  FlushedSo old new (flushed.Failed f) = FlushesSo old new (flushed.Failed f) × (new.wait ≡ None)

  -- the same of a poll, which is pending while the value waits
  abbrev pub PushedSo : ParcelSink T → ParcelSink T → Poll (Result (Unit {0}) (SendFault T)) → Type 0
  PushedSo old new (Ready (Ok u)) = FlushedSo old new flushed.Done
  PushedSo old new (Ready (Err f)) = FlushedSo old new (flushed.Failed f)
  PushedSo old new Pending = FlushedSo old new flushed.Waits

  -- x was sent at once
  abbrev pub SendsSo : T → ParcelSink T → ParcelSink T → Result (Unit {0}) (SendFault T) → Type 0
  SendsSo x old new r =
      SendsAtOnce old.hub.now.parcels old.pass.tag x (seen_by old.pass) (seen_by new.pass) (floor_by old.hub.now old.pass)
      (floor_by old.hub.now new.pass) r
      × (new.wait ≡ None)

  -- or waits
  pub record WaitsSo (x : T) (old new : ParcelSink T) : Type 0 where
    pub wait : WaitId
    pub admitted : ℕ
    pub answer : SendAnswer old.hub.now.parcels old.pass.tag x (seen_by old.pass) (seen_by new.pass) (floor_by old.hub.now old.pass)
        (floor_by old.hub.now new.pass) (sent.Waits wait admitted)
    pub at : new.wait ≡ Some wait

  abbrev pub StartedSo : T → ParcelSink T → ParcelSink T → Result (Unit {0}) (SendFault T) → Type 0
  StartedSo x old new (Ok u) = SendsSo x old new (Ok u) ⊎ WaitsSo x old new
  StartedSo x old new (Err f) = SendsSo x old new (Err f)
