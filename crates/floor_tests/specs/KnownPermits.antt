-- What a coroutine knows of its use of the permits of a channel, before and after a call.
use Rattle.std.specs.Prelude.{◌≡◌, ◌≤◌, ℕ, List, [], ◌∷◌, Option, Some, None, Result, Ok, Err}
use Rattle.co_base.specs.declared.names.WaitId.{WaitId}
use Rattle.co_base.specs.declared.names.Memory.{Memory}
use Rattle.channel_model.specs.declared.acts.Act.{Act}
use Rattle.channel_model.specs.declared.acts.Kind.TheVariants.{Unlimited}
use Rattle.channel_model.specs.Histories.{replay}
use Rattle.channel_model.specs.Floors.{Floor, Added}
use Rattle.channel_model.specs.Answers.{IsUnsettledOf}
use Rattle.cell_words.specs.declared.hub.Hub.{Hub}
use Rattle.cell_words.specs.Hubs.{shape_of, IsOf}
use Rattle.cell_calls.specs.HubFloors.{hub_floor}
use Rattle.permits.specs.declared.permits.Acquired.{Acquired}
use Rattle.permits.specs.declared.permits.Acquired.TheVariants as acquired
use Rattle.permits.specs.Parts.{UsesPermits}
use Rattle.floor_tests.specs.declared.permit_calls.known_calls.Known.{Known}
use Rattle.floor_tests.specs.declared.permit_calls.at_once.Worker.{Worker}

-- the wait was seen, is who's, and did not end
abbrev pub HoldsWait : ℕ → WaitId → Floor → Type 0
HoldsWait who w f = IsUnsettledOf who ((replay f.seen).waits w)

-- the wait, if there is one, is who's, on the channel, and did not end
abbrev pub IsOwnWait : ℕ → ℕ → Option WaitId → Floor → Type 0
IsOwnWait c who None f = Unit {0}
IsOwnWait c who (Some w) f = (w.channel ≡ c) × HoldsWait who w f

-- who uses the n permits, and holds so many of them; its wait did not end
pub record Knows (c n who : ℕ) (k : Known) (f : Floor) : Type 0 where
  pub uses : UsesPermits c n who k.held f
  pub wait : IsOwnWait c who k.wait f

-- where no wait was taken up, this one did not end
abbrev pub WaitsStill : ℕ → WaitId → Result (Option Acquired) Memory → Floor → Type 0
WaitsStill who w (Ok (Some r)) f = Unit {0}
WaitsStill who w (Ok None) f = HoldsWait who w f
WaitsStill who w (Err m) f = Unit {0}

-- who added some acts
pub record Adds (who : ℕ) (old new : Floor) : Type 0 where
  pub acts : List Act
  pub added : Added who acts old new

-- so many are held, and no wait is known
abbrev pub used : ℕ → Known
used held = record { held = held; wait = None }

-- the wait that an acquire began, if it did
abbrev pub wait_of : Acquired → Option WaitId
wait_of (acquired.Waits w) = Some w
wait_of acquired.Held = None
wait_of acquired.Cancelled = None
wait_of (acquired.Closed v) = None
wait_of acquired.Spent = None

-- ---- several with a pass each, on the permits of the first channel

-- a semaphore may have so many permits
pub record IsNumber (n : ℕ) : Type 0 where
  pub some : 1 ≤ n
  pub few : n ≤ 65535

-- the hub's one channel keeps all
abbrev pub IsForAll : Hub → Type 0
IsForAll hub = shape_of hub ≡ (Unlimited, 1048576) ∷ []

-- a coroutine with a pass of its own uses the n permits of the first channel, and holds none
pub record IsWorker (n : ℕ) (hub : Hub) (w : Worker) : Type 0 where
  pub of : IsOf hub w.pass
  pub uses : UsesPermits 0 n w.who 0 (hub_floor hub w.pass)
