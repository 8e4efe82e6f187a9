-- What the examples come to.
use Rattle.std.specs.Prelude.{◌≡◌, ℕ, true, List, [], ◌∷◌, ◌++◌, Option, Some, None, Result, Ok, Err}
use Rattle.channel_model.specs.declared.acts.Settled.{Settled}
use Rattle.channel_model.specs.declared.acts.ChannelNote.TheVariants.{TryReceiveClosed}
use Rattle.job_model.specs.declared.acts.End.TheVariants.{Completed}
use Rattle.job_model.specs.declared.acts.JobNote.TheVariants.{SawEnd}
use Rattle.note_book.specs.declared.book.Item.{Item}
use Rattle.note_book.specs.declared.book.Item.TheVariants.{Job}
use Rattle.call_meaning.specs.Seen.{SeenOnChannels}
use Rattle.call_meaning.specs.Telling.{heard}
use Rattle.call_meaning.specs.ChannelCalls.{Got, receives, blocked, is_given_up}
use Rattle.call_meaning.specs.Calls.{ToldOnChannels}
use Rattle.channel_calls.specs.Calls.{Tells, GoesAtOnce}
use Rattle.co_base.specs.declared.names.Memory.{Memory}
use Rattle.permits.specs.declared.permits.GivenBack.{GivenBack}
use Rattle.permits.specs.Answers.{NumberAfterCancel}

-- this element was received; or none was, since the channel was empty, or closed and empty, and the answer is the other value
pub data ReceivedOr (c other : ℕ) (old new : SeenOnChannels) : ℕ → Type 0 where
  received : (v : ℕ) → Tells (GoesAtOnce (receives c) (Got v)) old new → ReceivedOr c other old new v
  empty : ToldOnChannels old new (blocked (receives c) ∷ []) → ReceivedOr c other old new other
  closed : (x : ℕ) → ToldOnChannels old new (heard (TryReceiveClosed c x) ∷ []) → ReceivedOr c other old new other

-- a wait that ended did so as cancelled, or with its element given up
abbrev pub IsGivenUp : Option Settled → Type 0
IsGivenUp None = Unit {0}
IsGivenUp (Some outcome) = is_given_up outcome ≡ true

-- the last of these notes is that the Job of the row was seen completed with this value
pub record SawCompleted (row value : ℕ) (items : List Item) : Type 0 where
  pub before : List Item
  pub noted : items ≡ before ++ Job (SawEnd row (Completed value)) ∷ []

-- a result was seen, if there is one
abbrev pub SawResult : ℕ → Option ℕ → List Item → Type 0
SawResult row None items = Unit {0}
SawResult row (Some value) items = SawCompleted row value items

-- the result of some Job was seen, if there is one
abbrev pub SawSome : Option ℕ → List Item → Type 0
SawSome None items = Unit {0}
SawSome (Some value) items = (row : ℕ) × SawCompleted row value items

-- a coroutine that gave up waiting for a permit holds as many as before, unless one came that the channel did not take back
abbrev pub HoldsAfterGivingUp : Result (Option GivenBack) Memory → ℕ → ℕ → Type 0
HoldsAfterGivingUp (Ok (Some outcome)) old new = NumberAfterCancel (Ok outcome) old new
HoldsAfterGivingUp (Ok None) old new = Unit {0}
HoldsAfterGivingUp (Err m) old new = Unit {0}
