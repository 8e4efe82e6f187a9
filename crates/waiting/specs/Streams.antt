-- A channel of owned values as a stream.
use Rattle.std.specs.Prelude.{◌≡◌, ℕ, Bool, true, false, List, Option, Some, None, Result, Ok, Err, ⊤}
use Rattle.futures.specs.declared.task.Poll.{Poll}
use Rattle.futures.specs.declared.task.Poll.TheVariants.{Ready, Pending}
use Rattle.co_base.specs.declared.names.WaitId.{WaitId}
use Rattle.parcel_channel.specs.declared.hub.ParcelHub.{ParcelHub}
use Rattle.parcel_channel.specs.declared.hub.ParcelPass.{ParcelPass}
use Rattle.parcel_channel.specs.declared.answers.ParcelGot.TheVariants as found
use Rattle.parcel_channel.specs.declared.answers.ParcelSettled.{ParcelSettled}
use Rattle.parcel_channel.specs.declared.answers.ParcelSettled.TheVariants as settled
use Rattle.parcel_channel.specs.Hubs.{SamePass, seen_by, floor_by, ReceiveAnswer}
use Rattle.waiting.specs.declared.calls.ReceiveFault.{ReceiveFault}
use Rattle.waiting.specs.declared.calls.ReceiveFault.TheVariants as ungot
use Rattle.waiting.specs.declared.receiving.Polled.{Polled}
use Rattle.waiting.specs.declared.receiving.Polled.TheVariants as polled
use Rattle.waiting.specs.declared.streams.ParcelStream.{ParcelStream}
use Rattle.waiting.specs.Stands.{AwaitsAt}
use Rattle.waiting.specs.Waits.{Stays, EndsAsleep, GotAtOnce, ReceivesAtOnce, ReceiveEndsAs}

-- another than that the channel is closed
abbrev pub NotClosed : ReceiveFault → Type 0
NotClosed (ungot.Closed c) = ⊥
NotClosed ungot.Spent = Unit {0}
NotClosed ungot.Lost = Unit {0}

module _ {T : Type 0} where
  -- at any time
  abbrev pub PollsAny : ParcelStream T → Type 0
  PollsAny s = ⊤

  -- whatever the senders put
  abbrev pub YieldsAny : ParcelStream T → List (Result T ReceiveFault) → Option (Result T ReceiveFault) → Type 0
  YieldsAny s xs last = ⊤

  -- what a poll comes to whose wait ended so
  abbrev pub PolledAs : ParcelSettled T → Polled T → Type 0
  PolledAs s (polled.Value x) = s ≡ settled.Value x
  PolledAs s (polled.Closed c) = s ≡ settled.Closed c
  PolledAs s (polled.Fault f) = ReceiveEndsAs s (Err f) × NotClosed f
  PolledAs s (polled.Waits w) = ⊥

  -- what a receive comes to that stands at this wait, or at none
  abbrev pub ReceiveStep : Option WaitId → ParcelHub T → ParcelPass T → ParcelPass T → Polled T → Type 0
  ReceiveStep None hub old new (polled.Value x) =
      GotAtOnce hub.parcels old.tag (seen_by old) (seen_by new) (floor_by hub old) (floor_by hub new) x
  ReceiveStep None hub old new (polled.Closed c) =
      ReceiveAnswer hub.parcels old.tag (seen_by old) (seen_by new) (floor_by hub old) (floor_by hub new) (found.Closed c)
  ReceiveStep None hub old new (polled.Fault f) =
      ReceivesAtOnce hub.parcels old.tag (seen_by old) (seen_by new) (floor_by hub old) (floor_by hub new) (Err f) × NotClosed f
  ReceiveStep None hub old new (polled.Waits w) =
      ReceiveAnswer hub.parcels old.tag (seen_by old) (seen_by new) (floor_by hub old) (floor_by hub new) (found.Waits w)
  ReceiveStep (Some at) hub old new (polled.Value x) =
      EndsAsleep hub.parcels old.tag at (seen_by old) (seen_by new) (floor_by hub old) (floor_by hub new) (settled.Value x)
  ReceiveStep (Some at) hub old new (polled.Closed c) =
      EndsAsleep hub.parcels old.tag at (seen_by old) (seen_by new) (floor_by hub old) (floor_by hub new) (settled.Closed c)
  ReceiveStep (Some at) hub old new (polled.Fault f) =
      (s : ParcelSettled T)
      × EndsAsleep hub.parcels old.tag at (seen_by old) (seen_by new) (floor_by hub old) (floor_by hub new) s
      × ReceiveEndsAs s (Err f) × NotClosed f
  ReceiveStep (Some at) hub old new (polled.Waits w) = (w ≡ at) × Stays hub at old new

  -- the wait at which the pass stands then
  abbrev pub HeldAfter : ParcelHub T → ParcelPass T → Polled T → Type 0
  HeldAfter hub pass (polled.Value x) = Unit {0}
  HeldAfter hub pass (polled.Closed c) = Unit {0}
  HeldAfter hub pass (polled.Fault f) = Unit {0}
  HeldAfter hub pass (polled.Waits w) = AwaitsAt hub pass (Some w)

  -- it is a stream of the same channel, with the same tags
  abbrev pub SameStream : ParcelStream T → ParcelStream T → Type 0
  SameStream old new = (new.hub.now ≡ old.hub.now) × SamePass old.pass new.pass

  -- what its pass did
  abbrev pub StepsSo : ParcelStream T → ParcelStream T → Polled T → Type 0
  StepsSo old new r = ReceiveStep old.wait old.hub.now old.pass new.pass r

  -- it is over: one that had ended did nothing, and another saw the close
  abbrev pub IsOverBy : Bool → ParcelStream T → ParcelStream T → Type 0
  IsOverBy true old new = new.pass ≡ old.pass
  IsOverBy false old new = (c : ℕ) × StepsSo old new (polled.Closed c) × (new.wait ≡ None)

  -- a poll gives what was received; the stream ends with the channel, and after a fault; and it is pending where it waits
  abbrev pub PolledSo : ParcelStream T → ParcelStream T → Poll (Option (Result T ReceiveFault)) → Type 0
  PolledSo old new (Ready (Some (Ok x))) = StepsSo old new (polled.Value x) × (new.wait ≡ None) × (new.ended ≡ false)
  PolledSo old new (Ready (Some (Err f))) = StepsSo old new (polled.Fault f) × (new.wait ≡ None) × (new.ended ≡ true)
  PolledSo old new (Ready None) = IsOverBy old.ended old new × (new.ended ≡ true)
  PolledSo old new Pending = (w : WaitId) × StepsSo old new (polled.Waits w) × (new.wait ≡ Some w) × (new.ended ≡ false)
