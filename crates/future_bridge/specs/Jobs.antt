-- A Job as a future.
use Rattle.std.specs.Prelude.{◌≡◌, ◌⊎◌, ℕ, ◌<◌, true, List, [], ◌∷◌, length, Option, Some, None, Result, Ok, Err, is_some, IsSomeAnd}
use Rattle.channel_model.specs.declared.acts.Kind.TheVariants.{Signal}
use Rattle.channel_model.specs.Channels.{kind_at}
use Rattle.channel_model.specs.declared.acts.Act.TheVariants.{Await, Settle}
use Rattle.channel_model.specs.declared.acts.Settled.TheVariants as settled
use Rattle.channel_model.specs.Floors.{Floor, Added as AddedTo}
use Rattle.job_model.specs.declared.acts.JobAct.{JobAct}
use Rattle.job_model.specs.declared.acts.JobAct.TheVariants.{Start}
use Rattle.job_model.specs.Histories.{replay}
use Rattle.job_model.specs.Floors.{Floor as JobFloor, Added}
use Rattle.job_model.specs.Answers.{IsNotNew}
use Rattle.job_words.specs.declared.forest.Forest.{Forest}
use Rattle.job_words.specs.declared.pass.JobPass.{JobPass}
use Rattle.job_words.specs.Passes.{floor_seen}
use Rattle.job_words.specs.Forests.{seen_by, IsOwn as IsOwnOfJobs, SameGiving as SameGivingOfJobs}
use Rattle.cell_words.specs.declared.hub.Hub.{Hub}
use Rattle.cell_words.specs.declared.pass.Pass.{Pass}
use Rattle.cell_words.specs.Hubs.{shape_of, IsOwn, SameGiving}
use Rattle.cell_calls.specs.HubFloors.{hub_floor}
use Rattle.future_bridge.specs.declared.receiving.Spent.{Spent}
use Rattle.future_bridge.specs.declared.jobs.JobWait.{JobWait}
use Rattle.future_bridge.specs.declared.jobs.JobFuture.{JobFuture}
use Rattle.future_bridge.specs.Gains.{Gained, wait_at, WaitsAt, WaitsBy, EndsAs, HasNoPlace}
use Rattle.future_bridge.specs.Streams.{WaitStands}

-- what a pass of Jobs has seen
abbrev pub jobs_seen : JobPass → JobFloor
jobs_seen jobs = floor_seen (seen_by jobs)

-- ---- the start

-- a pass that did not wait yet has seen the row attached; one that waits has seen that its Job is not New
abbrev pub RowStands : ℕ → JobPass → Option ℕ → Type 0
RowStands row jobs None = is_some (replay (jobs_seen jobs).seen row) ≡ true
RowStands row jobs (Some place) = IsNotNew (replay (jobs_seen jobs).seen row)

-- who started the Job, or did nothing
abbrev pub AtMostStart : ℕ → List JobAct → Type 0
AtMostStart row acts = (acts ≡ Start row ∷ []) ⊎ (acts ≡ [])

-- who started the Job in the span unless it was not New, which it is not any more
pub record Started (who row : ℕ) (old new : JobFloor) : Type 0 where
  pub acts : List JobAct
  pub added : Added who acts [] old new
  pub at_most : AtMostStart row acts
  pub not_new : IsNotNew (replay new.seen row)

-- a pass of Jobs that did not wait yet starts the Job; one that waits is left as it is
abbrev pub StartsFirst : Option ℕ → ℕ → ℕ → JobPass → JobPass → Type 0
StartsFirst None who row old new = Started who row (jobs_seen old) (jobs_seen new)
StartsFirst (Some place) who row old new = new ≡ old

-- ---- the future

-- both passes are its coroutine's own, the done channel is a signal, and its wait, if it has one, is the last that it did there
pub record JobStands (s : JobWait) : Type 0 where
  pub own : IsOwn s.hub.now s.pass s.who
  pub jobs : IsOwnOfJobs s.forest.now s.jobs s.who
  pub row : RowStands s.row s.jobs s.wait
  pub channel : s.done < length (shape_of s.hub.now)
  pub kind : kind_at (shape_of s.hub.now) s.done ≡ Signal
  pub wait : WaitStands s.who s.done (hub_floor s.hub.now s.pass) s.wait

-- a new one
pub record IsNewWait (hub : Hub) (pass : Pass) (forest : Forest) (jobs : JobPass) (who row done : ℕ) (s : JobWait) : Type 0 where
  pub hub_is : s.hub.now ≡ hub
  pub pass_is : s.pass ≡ pass
  pub forest_is : s.forest.now ≡ forest
  pub jobs_is : s.jobs ≡ jobs
  pub who_is : s.who ≡ who
  pub row_is : s.row ≡ row
  pub channel_is : s.done ≡ done
  pub no_wait : s.wait ≡ None

-- ---- what it gives

-- the result is the value of the done channel's close; or the done channel had no place left
abbrev pub EndsWithResult : ℕ → Floor → Floor → Result ℕ Spent → Type 0
EndsWithResult done old new (Ok v) = EndsAs done v old new
EndsWithResult done old new (Err spent) = HasNoPlace done old new

-- who's acts in the span: its receiver ended with the close of this value, placed in the span unless it was before; or none, where the
-- close was seen at once, or where no place was left for it. One whose receiver was placed is never refused for want of a place
abbrev pub AwaitsBy : Option ℕ → ℕ → ℕ → Floor → Floor → Result ℕ Spent → Type 0
AwaitsBy None who done old new (Ok v) =
    AddedTo who [] old new ⊎ ((place : ℕ) × (k : ℕ)
    × AddedTo who (Await done place (wait_at done place) 0 ∷ Settle (wait_at done place) (settled.Closed k v) ∷ []) old new)
AwaitsBy None who done old new (Err spent) = AddedTo who [] old new
AwaitsBy (Some place) who done old new (Ok v) = (k : ℕ) × AddedTo who (Settle (wait_at done place) (settled.Closed k v) ∷ []) old new
AwaitsBy (Some place) who done old new (Err spent) = ⊥

-- the passes that came back are its coroutine's own, the Job was started by the first poll, nothing was received, and it ended so; wait is
-- the place of its receiver, if it was placed before
pub record JobEnds (hub : Hub) (pass : Pass) (forest : Forest) (jobs : JobPass) (who row done : ℕ) (wait : Option ℕ)
    (pass' : Pass) (jobs' : JobPass) (result : Result ℕ Spent) : Type 0 where
  pub own : IsOwn hub pass' who
  pub giving : SameGiving pass pass'
  pub jobs_own : IsOwnOfJobs forest jobs' who
  pub jobs_giving : SameGivingOfJobs jobs jobs'
  pub starts : StartsFirst wait who row jobs jobs'
  pub gained : Gained who done [] (hub_floor hub pass) (hub_floor hub pass')
  pub ends : EndsWithResult done (hub_floor hub pass) (hub_floor hub pass') result
  pub awaits : AwaitsBy wait who done (hub_floor hub pass) (hub_floor hub pass') result

-- ---- in the words of the future

-- a future that may be polled has a state, and has ended if it has none
abbrev pub FutureStands : JobFuture → Type 0
FutureStands f = IsSomeAnd f.state JobStands

-- what a future may give, by its state
abbrev pub FutureGives : JobFuture → Pass × JobPass × Result ℕ Spent → Type 0
FutureGives f r = IsSomeAnd f.state (λ s. JobEnds s.hub.now s.pass s.forest.now s.jobs s.who s.row s.done s.wait r.0 r.1 r.2)

-- what it may give after a poll, it might give before
abbrev pub GivesNoMore : JobFuture → JobFuture → Type 0
GivesNoMore old new = (r : Pass × JobPass × Result ℕ Spent) → FutureGives new r → FutureGives old r

-- its receiver stood on the done channel at a moment of the poll that left it waiting: the one that it had, if it had one
pub record IsLeftAwaiting (old new : JobFuture) : Type 0 where
  pub before : JobWait
  pub after : JobWait
  pub was : old.state ≡ Some before
  pub is : new.state ≡ Some after
  pub place : ℕ
  pub wait : after.wait ≡ Some place
  pub waits : WaitsAt before.who before.done place (hub_floor before.hub.now before.pass) (hub_floor before.hub.now after.pass)
  pub by : WaitsBy before.wait before.who before.done place (hub_floor before.hub.now before.pass) (hub_floor before.hub.now after.pass)
