-- That a pass holds the wait has one proof.
use Rattle.std.specs.Prelude.{ℕ, Option, Some, None}
use Rattle.std.specs.Coded.{×_prop, Unit-prop}
use Rattle.std.proofs.Props.{props}
use Rattle.co_base.specs.declared.names.WaitId.{WaitId}
use Rattle.channel_model.specs.Channels.{Wait}
use Rattle.channel_model.specs.Histories.{replay}
use Rattle.channel_model.specs.Answers.{IsUnsettledOf}
use Rattle.parcel_channel.specs.declared.hub.ParcelHub.{ParcelHub}
use Rattle.parcel_channel.specs.declared.hub.ParcelPass.{ParcelPass}
use Rattle.parcel_channel.specs.Hubs.{floor_by}
use Rattle.waiting.specs.Stands.{HoldsAt, AwaitsAt}

IsUnsettledOf-prop : (who : ℕ) (x : Option Wait) → IsProp (IsUnsettledOf who x)
IsUnsettledOf-prop who None = λ a b. absurd a
IsUnsettledOf-prop who (Some x) = hlevel props

module _ {T : Type 0} where
  pub HoldsAt-prop : (hub : ParcelHub T) (pass : ParcelPass T) (wait : Option WaitId) → IsProp (HoldsAt hub pass wait)
  HoldsAt-prop hub pass None = Unit-prop
  HoldsAt-prop hub pass (Some w) =
      ×_prop (hlevel props) (IsUnsettledOf-prop pass.tag ((replay (floor_by hub pass).seen).waits w))

  pub AwaitsAt-prop : (hub : ParcelHub T) (pass : ParcelPass T) (wait : Option WaitId) → IsProp (AwaitsAt hub pass wait)
  AwaitsAt-prop hub pass None = Unit-prop
  AwaitsAt-prop hub pass (Some w) =
      ×_prop (hlevel props) (IsUnsettledOf-prop pass.tag ((replay (floor_by hub pass).seen).waits w))
