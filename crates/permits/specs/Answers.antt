-- What each call comes to, by cases on its answer: what it tells is noted, its acts are the entries that it added, and all of it was so.
use Rattle.std.specs.Prelude.{◌≡◌, ℕ, ◌+◌, ◌<◌, ◌≤◌, true, false, List, [], ◌∷◌, ◌++◌, Result, Ok, Err}
use Rattle.co_base.specs.declared.names.WaitId.{WaitId}
use Rattle.co_base.specs.declared.names.Memory.{Memory}
use Rattle.channel_model.specs.declared.acts.Act.{Act}
use Rattle.channel_model.specs.declared.acts.Act.TheVariants.{Hand, Put, Await, Take}
use Rattle.channel_model.specs.declared.acts.ChannelNote.TheVariants.{SendClosed, ReceiveClosed, TryReceiveClosed}
use Rattle.channel_model.specs.declared.acts.Settled.{Settled}
use Rattle.channel_model.specs.declared.acts.Settled.TheVariants as settled
use Rattle.call_meaning.specs.Seen.{SeenOnChannels}
use Rattle.call_meaning.specs.Telling.{Told, made, heard}
use Rattle.call_meaning.specs.ChannelCalls.{sends, receives, wait_at, blocked, spent}
use Rattle.call_meaning.specs.Calls.{ToldOnChannels}
use Rattle.channel_calls.specs.declared.caller.ReceiveAnswer.{ReceiveAnswer}
use Rattle.channel_calls.specs.declared.caller.ReceiveAnswer.TheVariants as receive
use Rattle.channel_calls.specs.declared.caller.TryReceiveAnswer.{TryReceiveAnswer}
use Rattle.channel_calls.specs.declared.caller.TryReceiveAnswer.TheVariants as try_receive
use Rattle.channel_calls.specs.Calls.{Tells, IsUntouched, IsLeftWaiting, DispatchedAnswer}
use Rattle.channel_calls.specs.Parts.{EndsCancelled}
use Rattle.permits.specs.Parts.{brings_element}
use Rattle.permits.specs.declared.steps.Given.{Given}
use Rattle.permits.specs.declared.steps.Given.TheVariants as given
use Rattle.permits.specs.declared.permits.Filled.{Filled}
use Rattle.permits.specs.declared.permits.Filled.TheVariants as filled
use Rattle.permits.specs.declared.permits.Acquired.{Acquired}
use Rattle.permits.specs.declared.permits.Acquired.TheVariants as acquired
use Rattle.permits.specs.declared.permits.TryAcquired.{TryAcquired}
use Rattle.permits.specs.declared.permits.TryAcquired.TheVariants as try_acquired
use Rattle.permits.specs.declared.permits.Released.{Released}
use Rattle.permits.specs.declared.permits.Released.TheVariants as released
use Rattle.permits.specs.declared.permits.GivenBack.{GivenBack}
use Rattle.permits.specs.declared.permits.GivenBack.TheVariants as back

-- ---- the number that a caller keeps

-- by how much it grew
abbrev pub got_by_acquire : Result Acquired Memory → ℕ
got_by_acquire (Ok acquired.Held) = 1
got_by_acquire other = 0

abbrev pub got_by_try : Result TryAcquired Memory → ℕ
got_by_try (Ok try_acquired.Held) = 1
got_by_try other = 0

-- and shrank
abbrev pub given_by_release : Result Released Memory → ℕ
given_by_release (Ok released.Done) = 1
given_by_release other = 0

-- a permit that came to a wait which was given up is held only if it could not be given back
abbrev pub NumberAfterCancel : Result GivenBack Memory → ℕ → ℕ → Type 0
NumberAfterCancel (Ok back.Cancelled) old new = new ≡ old
NumberAfterCancel (Ok back.Back) old new = new ≡ old
NumberAfterCancel (Ok (back.Closed x)) old new = new ≡ old + 1
NumberAfterCancel (Ok back.Spent) old new = new ≡ old + 1
NumberAfterCancel (Err m) old new = (old ≤ new) × (new ≤ old + 1)

abbrev pub given_once : Result Given Memory → ℕ
given_once (Ok given.Done) = 1
given_once other = 0

-- ---- the steps

-- the first element was taken
pub record TakesOne (c v : ℕ) (old new : SeenOnChannels) : Type 0 where
  pub place : ℕ
  pub told : ToldOnChannels old new (made (Take c place v) ∷ [])

-- a receiver was placed, and waits
pub record AwaitsOne (c : ℕ) (w : WaitId) (old new : SeenOnChannels) : Type 0 where
  pub place : ℕ
  pub is : w ≡ wait_at c place
  pub told : ToldOnChannels old new (made (Await c place w 0) ∷ [])
  pub waits : IsLeftWaiting w (Await c place w 0 ∷ []) old new

abbrev pub ReceivedOnce : ℕ → SeenOnChannels → SeenOnChannels → Result ReceiveAnswer Memory → Type 0
ReceivedOnce c old new (Ok (receive.Value v)) = TakesOne c v old new
ReceivedOnce c old new (Ok (receive.Waits w)) = AwaitsOne c w old new
ReceivedOnce c old new (Ok (receive.Closed x)) = ToldOnChannels old new (heard (ReceiveClosed c x) ∷ [])
ReceivedOnce c old new (Ok receive.Spent) = ToldOnChannels old new (spent (receives c))
ReceivedOnce c old new (Err m) = IsUntouched old new

abbrev pub TriedOnce : ℕ → SeenOnChannels → SeenOnChannels → Result TryReceiveAnswer Memory → Type 0
TriedOnce c old new (Ok (try_receive.Value v)) = TakesOne c v old new
TriedOnce c old new (Ok try_receive.Empty) = ToldOnChannels old new (blocked (receives c) ∷ [])
TriedOnce c old new (Ok (try_receive.Closed x)) = ToldOnChannels old new (heard (TryReceiveClosed c x) ∷ [])
TriedOnce c old new (Err m) = IsUntouched old new

-- an element was handed or put
pub data GivesOne (c v : ℕ) : Act → Type 0 where
  hands : (place : ℕ) → GivesOne c v (Hand c place v)
  puts : (place : ℕ) → GivesOne c v (Put c place v)

pub record GivenJust (c v : ℕ) (old new : SeenOnChannels) : Type 0 where
  pub act : Act
  pub gives : GivesOne c v act
  pub told : ToldOnChannels old new (made act ∷ [])

abbrev pub GivenOnce : ℕ → ℕ → SeenOnChannels → SeenOnChannels → Result Given Memory → Type 0
GivenOnce c v old new (Ok given.Done) = GivenJust c v old new
GivenOnce c v old new (Ok (given.Closed x)) = ToldOnChannels old new (heard (SendClosed c v x) ∷ [])
GivenOnce c v old new (Ok given.Spent) = ToldOnChannels old new (spent (sends c v))
GivenOnce c v old new (Err m) = IsUntouched old new

abbrev pub EndedOnce : WaitId → SeenOnChannels → SeenOnChannels → Result Settled Memory → Type 0
EndedOnce w old new (Ok outcome) = Tells (EndsCancelled w outcome) old new
EndedOnce w old new (Err m) = IsUntouched old new

-- ---- fill

-- elements n on were handed or put, one after the other, up to m and without m
pub data GivesAll (c m : ℕ) : ℕ → List Told → Type 0 where
  all : GivesAll c m m []
  one : (n : ℕ) (act : Act) (more : List Told) → n < m → GivesOne c n act → GivesAll c m (n + 1) more
      → GivesAll c m n (made act ∷ more)

-- fewer than n elements were handed or put, and at the next one, m, the call stopped so
pub data GivesSome (c n : ℕ) (stops : ℕ → List Told) : List Told → Type 0 where
  some : (m : ℕ) (gave all : List Told) → m < n → GivesAll c m 0 gave → all ≡ gave ++ stops m → GivesSome c n stops all

abbrev pub FilledAnswer : ℕ → ℕ → SeenOnChannels → SeenOnChannels → Result Filled Memory → Type 0
FilledAnswer c n old new (Ok filled.Done) = Tells (GivesAll c n 0) old new
FilledAnswer c n old new (Ok (filled.Closed x)) = Tells (GivesSome c n (λ m. heard (SendClosed c m x) ∷ [])) old new
FilledAnswer c n old new (Ok filled.Spent) = Tells (GivesSome c n (λ m. spent (sends c m))) old new
FilledAnswer c n old new (Err m) = Tells (GivesSome c n (λ m. [])) old new

-- ---- acquire

pub record TakesPermit (c : ℕ) (old new : SeenOnChannels) : Type 0 where
  pub value : ℕ
  pub takes : TakesOne c value old new

abbrev pub AcquiredAnswer : ℕ → SeenOnChannels → SeenOnChannels → Result Acquired Memory → Type 0
AcquiredAnswer c old new (Ok acquired.Held) = TakesPermit c old new
AcquiredAnswer c old new (Ok (acquired.Waits w)) = AwaitsOne c w old new
AcquiredAnswer c old new (Ok acquired.Cancelled) = ⊥
AcquiredAnswer c old new (Ok (acquired.Closed x)) = ToldOnChannels old new (heard (ReceiveClosed c x) ∷ [])
AcquiredAnswer c old new (Ok acquired.Spent) = ToldOnChannels old new (spent (receives c))
AcquiredAnswer c old new (Err m) = IsUntouched old new

abbrev pub TryAcquiredAnswer : ℕ → SeenOnChannels → SeenOnChannels → Result TryAcquired Memory → Type 0
TryAcquiredAnswer c old new (Ok try_acquired.Held) = TakesPermit c old new
TryAcquiredAnswer c old new (Ok try_acquired.Empty) = ToldOnChannels old new (blocked (receives c) ∷ [])
TryAcquiredAnswer c old new (Ok (try_acquired.Closed x)) = ToldOnChannels old new (heard (TryReceiveClosed c x) ∷ [])
TryAcquiredAnswer c old new (Err m) = IsUntouched old new

-- ---- take up

-- the wait ended in such a way, as it had been resolved
pub record TakesUp (w : WaitId) (P : Settled → Type 0) (old new : SeenOnChannels) : Type 0 where
  pub outcome : Settled
  pub is : P outcome
  pub ended : DispatchedAnswer w false old new (Ok outcome)

abbrev pub BringsElement : Settled → Type 0
BringsElement outcome = brings_element outcome ≡ true

abbrev pub IsClosedBy : ℕ → Settled → Type 0
IsClosedBy x (settled.Closed k v) = v ≡ x
IsClosedBy x other = ⊥

abbrev pub TakenUpAnswer : WaitId → SeenOnChannels → SeenOnChannels → Result Acquired Memory → Type 0
TakenUpAnswer w old new (Ok acquired.Held) = TakesUp w BringsElement old new
TakenUpAnswer w old new (Ok (acquired.Waits u)) = ⊥
TakenUpAnswer w old new (Ok acquired.Cancelled) = TakesUp w (λ outcome. outcome ≡ settled.Cancelled) old new
TakenUpAnswer w old new (Ok (acquired.Closed x)) = TakesUp w (IsClosedBy x) old new
TakenUpAnswer w old new (Ok acquired.Spent) = ⊥
TakenUpAnswer w old new (Err m) = IsUntouched old new

-- ---- release

abbrev pub ReleasedAnswer : ℕ → SeenOnChannels → SeenOnChannels → Result Released Memory → Type 0
ReleasedAnswer c old new (Ok released.Done) = GivenJust c 0 old new
ReleasedAnswer c old new (Ok released.NotHeld) = IsUntouched old new
ReleasedAnswer c old new (Ok (released.Closed x)) = ToldOnChannels old new (heard (SendClosed c 0 x) ∷ [])
ReleasedAnswer c old new (Ok released.Spent) = ToldOnChannels old new (spent (sends c 0))
ReleasedAnswer c old new (Err m) = IsUntouched old new

-- ---- cancel

-- the wait ended with an element that was given up, and then so
pub record EndsThen (w : WaitId) (P : ℕ → List Told → Type 0) (all : List Told) : Type 0 where
  pub value : ℕ
  pub ends : List Told
  pub more : List Told
  pub ended : EndsCancelled w (settled.Undelivered value) ends
  pub goes : P value more
  pub whole : all ≡ ends ++ more

-- that element was handed or put
pub record GivesAgain (c v : ℕ) (told : List Told) : Type 0 where
  pub act : Act
  pub gives : GivesOne c v act
  pub is : told ≡ made act ∷ []

-- no memory was found: nothing was done, or the wait ended with an element that the caller has
pub data StopsEarly (w : WaitId) (old new : SeenOnChannels) : Type 0 where
  untouched : IsUntouched old new → StopsEarly w old new
  ended : Tells (EndsThen w (λ v more. more ≡ [])) old new → StopsEarly w old new

abbrev pub GivenBackAnswer : ℕ → WaitId → SeenOnChannels → SeenOnChannels → Result GivenBack Memory → Type 0
GivenBackAnswer c w old new (Ok back.Cancelled) = Tells (EndsCancelled w settled.Cancelled) old new
GivenBackAnswer c w old new (Ok back.Back) = Tells (EndsThen w (GivesAgain c)) old new
GivenBackAnswer c w old new (Ok (back.Closed x)) =
    Tells (EndsThen w (λ v more. more ≡ heard (SendClosed c v x) ∷ [])) old new
GivenBackAnswer c w old new (Ok back.Spent) = Tells (EndsThen w (λ v more. more ≡ spent (sends c v))) old new
GivenBackAnswer c w old new (Err m) = StopsEarly w old new
