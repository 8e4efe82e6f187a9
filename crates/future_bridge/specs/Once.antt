-- That a wait did not end has one proof.
use Rattle.std.specs.Prelude.{ℕ, Option, Some, None}
use Rattle.std.specs.Coded.{Unit-prop}
use Rattle.std.proofs.Props.{props}
use Rattle.channel_model.specs.Channels.{Wait}
use Rattle.channel_model.specs.Histories.{replay}
use Rattle.channel_model.specs.Floors.{Floor}
use Rattle.channel_model.specs.Answers.{IsUnsettledOf}
use Rattle.future_bridge.specs.Gains.{HoldsAt, wait_at}

IsUnsettledOf-prop : (who : ℕ) (x : Option Wait) → IsProp (IsUnsettledOf who x)
IsUnsettledOf-prop who None = λ a b. absurd a
IsUnsettledOf-prop who (Some x) = hlevel props

pub HoldsAt-prop : (who c : ℕ) (floor : Floor) (wait : Option ℕ) → IsProp (HoldsAt who c floor wait)
HoldsAt-prop who c floor None = Unit-prop
HoldsAt-prop who c floor (Some place) = IsUnsettledOf-prop who ((replay floor.seen).waits (wait_at c place))
