-- A channel as a stream of its elements.
use Rattle.std.specs.Prelude.{◌≡◌, ℕ, ◌<◌, Bool, true, false, List, [], ◌∷◌, ◌++◌, length, map, Option, Some, None, Result, Ok, Err}
use Rattle.futures.specs.declared.task.Poll.{Poll}
use Rattle.futures.specs.declared.task.Poll.TheVariants.{Ready, Pending}
use Rattle.channel_model.specs.Floors.{Floor}
use Rattle.cell_words.specs.declared.hub.Hub.{Hub}
use Rattle.cell_words.specs.declared.pass.Pass.{Pass}
use Rattle.cell_words.specs.Hubs.{shape_of, IsOwn, SameGiving}
use Rattle.cell_calls.specs.HubFloors.{hub_floor}
use Rattle.future_bridge.specs.declared.streams.ReceiveStream.{ReceiveStream}
use Rattle.future_bridge.specs.declared.receiving.Spent.{Spent}
use Rattle.future_bridge.specs.Gains.{Gained, AwaitsLast, WaitsAt, IsOver, HasNoPlace, EndsAs, ReceivesBy, EndsBy, SpentBy, WaitsBy}

-- ---- where a stream stands

-- what its pass has seen of its hub
abbrev pub floor_of : ReceiveStream → Floor
floor_of s = hub_floor s.hub.now s.pass

-- the receiver at the place of a stream's wait is the last that its coroutine did, and did not end
abbrev pub WaitStands : ℕ → ℕ → Floor → Option ℕ → Type 0
WaitStands who c floor None = Unit {0}
WaitStands who c floor (Some place) = AwaitsLast who c place floor

-- it calls as one of its pass's coroutines, on a channel of its hub; its wait, if it has one, is the last that it did
pub record Stands (s : ReceiveStream) : Type 0 where
  pub own : IsOwn s.hub.now s.pass s.who
  pub channel : s.c < length (shape_of s.hub.now)
  pub wait : WaitStands s.who s.c (floor_of s) s.wait

-- a new one
pub record IsNew (hub : Hub) (pass : Pass) (who c : ℕ) (s : ReceiveStream) : Type 0 where
  pub hub_is : s.hub.now ≡ hub
  pub pass_is : s.pass ≡ pass
  pub who_is : s.who ≡ who
  pub channel_is : s.c ≡ c
  pub no_wait : s.wait ≡ None
  pub not_ended : s.ended ≡ false

-- ---- what it yields

-- elements, and at most one fault after them, which is the last; nothing once it has ended
unfoldable pub RunsSo : Bool → List (Result ℕ Spent) → Option (Result ℕ Spent) → Type 0
RunsSo true xs last = (xs ≡ []) × (last ≡ None)
RunsSo false [] last = Unit {0}
RunsSo false (Ok v ∷ xs) last = RunsSo false xs last
RunsSo false (Err e ∷ xs) last = RunsSo true xs last

-- what may come of a stream
abbrev pub StreamYields : ReceiveStream → List (Result ℕ Spent) → Option (Result ℕ Spent) → Type 0
StreamYields s xs last = RunsSo s.ended xs last

-- ---- one poll

-- what no poll changes
pub record SameStream (old new : ReceiveStream) : Type 0 where
  pub hub : new.hub.now ≡ old.hub.now
  pub who : new.who ≡ old.who
  pub channel : new.c ≡ old.c
  pub giving : SameGiving old.pass new.pass

-- its coroutine received just these elements of its channel
abbrev pub GainedBy : ReceiveStream → List ℕ → ReceiveStream → Type 0
GainedBy old elements new = Gained old.who old.c elements (floor_of old) (floor_of new)

-- it stands at a wait that was standing at a moment of this poll: the one that it had, if it had one
pub record IsLeftWaiting (old new : ReceiveStream) : Type 0 where
  pub place : ℕ
  pub wait : new.wait ≡ Some place
  pub waits : WaitsAt old.who old.c place (floor_of old) (floor_of new)
  pub by : WaitsBy old.wait old.who old.c place (floor_of old) (floor_of new)

-- it is over: one that had ended made no act, and another saw the close, in which its wait ended, if it had one
abbrev pub IsOverBy : Bool → ReceiveStream → ReceiveStream → Type 0
IsOverBy true old new = new.pass ≡ old.pass
IsOverBy false old new =
    (value : ℕ) × EndsAs old.c value (floor_of old) (floor_of new) × EndsBy old.wait old.who old.c value (floor_of old) (floor_of new)

-- by the answer, and by the wait that it had
abbrev pub PolledSo : ReceiveStream → ReceiveStream → Poll (Option (Result ℕ Spent)) → Type 0
PolledSo old new Pending = (new.ended ≡ old.ended) × GainedBy old [] new × IsLeftWaiting old new
PolledSo old new (Ready (Some (Ok v))) =
    (new.ended ≡ false) × GainedBy old (v ∷ []) new × ReceivesBy old.wait old.who old.c v (floor_of old) (floor_of new)
PolledSo old new (Ready (Some (Err e))) =
    (new.ended ≡ true) × GainedBy old [] new × HasNoPlace old.c (floor_of old) (floor_of new)
    × SpentBy old.wait old.who (floor_of old) (floor_of new)
PolledSo old new (Ready None) = (new.ended ≡ true) × GainedBy old [] new × IsOverBy old.ended old new

-- ---- a whole stream

-- the elements among the items
abbrev pub elements_of : List (Result ℕ Spent) → List ℕ
elements_of [] = []
elements_of (Ok v ∷ xs) = v ∷ elements_of xs
elements_of (Err e ∷ xs) = elements_of xs

-- all items are elements, and the channel is over; or the last is a fault, and the channel had no place left
pub data EndsWith (c : ℕ) (old new : Floor) : List (Result ℕ Spent) → Type 0 where
  over : (values : List ℕ) → IsOver c old new → EndsWith c old new (map (λ v. Ok v) values)
  spent : (values : List ℕ) (e : Spent) → HasNoPlace c old new → EndsWith c old new (map (λ v. Ok v) values ++ Err e ∷ [])

-- how the items go on, of a stream that has ended or not
abbrev pub GoesOn : Bool → ℕ → Floor → Floor → List (Result ℕ Spent) → Type 0
GoesOn true c old new xs = xs ≡ []
GoesOn false c old new xs = EndsWith c old new xs

-- the pass that came back gained just the elements of the items that were added to those before
pub record CollectsSo (hub : Hub) (pass : Pass) (who c : ℕ) (ended : Bool) (before : List (Result ℕ Spent)) (pass' : Pass)
    (all : List (Result ℕ Spent)) : Type 0 where
  pub items : List (Result ℕ Spent)
  pub whole : all ≡ before ++ items
  pub own : IsOwn hub pass' who
  pub giving : SameGiving pass pass'
  pub gained : Gained who c (elements_of items) (hub_floor hub pass) (hub_floor hub pass')
  pub ends : GoesOn ended c (hub_floor hub pass) (hub_floor hub pass') items
