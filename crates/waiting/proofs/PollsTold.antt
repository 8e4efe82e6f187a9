-- What a poll of a stream or a sink comes to whose wait ended.
use Rattle.std.specs.Prelude.{Some}
use Rattle.std.proofs.Common.{subst}
use Rattle.co_base.specs.declared.names.WaitId.{WaitId}
use Rattle.parcel_channel.specs.declared.hub.ParcelHub.{ParcelHub}
use Rattle.parcel_channel.specs.declared.hub.ParcelPass.{ParcelPass}
use Rattle.parcel_channel.specs.declared.answers.ParcelSettled.{ParcelSettled}
use Rattle.parcel_channel.specs.Hubs.{seen_by, floor_by}
use Rattle.waiting.specs.declared.receiving.Polled.{Polled}
use Rattle.waiting.specs.declared.receiving.Polled.TheVariants as polled
use Rattle.waiting.specs.declared.sinks.Flushed.{Flushed}
use Rattle.waiting.specs.declared.sinks.Flushed.TheVariants as flushed
use Rattle.waiting.specs.Waits.{EndsAsleep}
use Rattle.waiting.specs.Streams.{PolledAs, ReceiveStep, HeldAfter}
use Rattle.waiting.specs.Sinks.{FlushedAs, FlushStep}

module _ {T : Type 0} where
  -- the wait of p ended so, and then its pass was q
  abbrev Ended : ParcelHub T → WaitId → ParcelPass T → ParcelPass T → ParcelSettled T → Type 0
  Ended hub at p q s = EndsAsleep hub.parcels p.tag at (seen_by p) (seen_by q) (floor_by hub p) (floor_by hub q) s

  pub step_told : (hub : ParcelHub T) (at : WaitId) (p q : ParcelPass T) (s : ParcelSettled T) (r : Polled T) → Ended hub at p q s
      → PolledAs s r → ReceiveStep (Some at) hub p q r
  step_told hub at p q s (polled.Fault f) h e = (s, h, e.0, e.1)
  step_told hub at p q s (polled.Waits w) h e = absurd e
  step_told hub at p q s other h e = subst (Ended hub at p q) e h

  pub held_told : (hub : ParcelHub T) (q : ParcelPass T) (s : ParcelSettled T) (r : Polled T) → PolledAs s r → HeldAfter hub q r
  held_told hub q s (polled.Waits w) e = absurd e
  held_told hub q s other e = tt

  pub flush_told : (hub : ParcelHub T) (at : WaitId) (p q : ParcelPass T) (s : ParcelSettled T) (r : Flushed T) → Ended hub at p q s
      → FlushedAs s r → FlushStep (Some at) hub p q r
  flush_told hub at p q s flushed.Done h e = subst (Ended hub at p q) e h
  flush_told hub at p q s flushed.Waits h e = absurd e
  flush_told hub at p q s (flushed.Failed f) h e = (s, h, e)
