-- How a wait ends that is given up.
use Rattle.std.specs.Prelude.{◌≡◌, ℕ, [], ◌∷◌, Option, Some, None}
use Rattle.channel_model.specs.declared.acts.Act.TheVariants.{Withdraw, Settle}
use Rattle.channel_model.specs.declared.acts.Settled.{Settled}
use Rattle.channel_model.specs.declared.acts.Settled.TheVariants as settled
use Rattle.channel_model.specs.declared.acts.Why.TheVariants as why
use Rattle.channel_model.specs.Histories.{replay}
use Rattle.channel_model.specs.Floors.{Floor, Added}
use Rattle.channel_model.specs.Answers.{IsResolvedWait}
use Rattle.cell_words.specs.declared.hub.Hub.{Hub}
use Rattle.cell_words.specs.declared.pass.Pass.{Pass}
use Rattle.cell_words.specs.Hubs.{IsOwn, SameGiving}
use Rattle.cell_calls.specs.HubFloors.{hub_floor}
use Rattle.future_bridge.specs.declared.receiving.Stopped.{Stopped}
use Rattle.future_bridge.specs.declared.receiving.Stopped.TheVariants as stopped
use Rattle.future_bridge.specs.Gains.{wait_at, AdmitsAll}

-- the own wait was withdrawn, or had been resolved
pub data TakenBack (who c place : ℕ) (old new : Floor) : Type 0 where
  now : Added who (Withdraw (wait_at c place) why.Cancelled ∷ []) old new → TakenBack who c place old new
  before : Added who [] old new → IsResolvedWait ((replay new.seen).waits (wait_at c place)) → TakenBack who c place old new

-- the outcome with which it ended then
abbrev pub outcome_in : Stopped → Settled
outcome_in stopped.Idle = settled.Cancelled
outcome_in stopped.Cancelled = settled.Cancelled
outcome_in (stopped.Undelivered v) = settled.Undelivered v

-- there was a wait
abbrev pub IsNotIdle : Stopped → Type 0
IsNotIdle stopped.Idle = ⊥
IsNotIdle stopped.Cancelled = Unit {0}
IsNotIdle (stopped.Undelivered v) = Unit {0}

-- the wait ended with this outcome
pub record GivenUp (who c place : ℕ) (old new : Floor) (result : Stopped) : Type 0 where
  pub not_idle : IsNotIdle result
  pub added : Added who (Settle (wait_at c place) (outcome_in result) ∷ []) old new

-- the whole: it was taken back, ended so, and those were admitted for whom the channel has room
pub record EndedSo (who c place : ℕ) (old new : Floor) (result : Stopped) : Type 0 where
  pub taken : Floor
  pub settled : Floor
  pub back : TakenBack who c place old taken
  pub ends : GivenUp who c place taken settled result
  pub admits : AdmitsAll who c settled new

-- ---- who stood at a wait, or at none, and stops

-- by the wait: there was none, or it ended so
abbrev pub StopsSo : Hub → Pass → ℕ → ℕ → Option ℕ → Pass → Stopped → Type 0
StopsSo hub old who c None new result = (new ≡ old) × (result ≡ stopped.Idle)
StopsSo hub old who c (Some place) new result = EndedSo who c place (hub_floor hub old) (hub_floor hub new) result

-- and the pass is one of its hub, and gives out tags as before
pub record StoppedAt (hub : Hub) (old : Pass) (who c : ℕ) (wait : Option ℕ) (new : Pass) (result : Stopped) : Type 0 where
  pub own : IsOwn hub new who
  pub giving : SameGiving old new
  pub stops : StopsSo hub old who c wait new result
