-- What one coroutine gained in a span of its calls.
use Rattle.std.specs.Prelude.{◌≡◌, ℕ, ◌==◌, ◌&&◌, Bool, true, false, List, [], ◌∷◌, ◌++◌, map, Option, Some, None, if◌then◌else◌}
use Rattle.co_base.specs.declared.names.WaitId.{WaitId}
use Rattle.channel_model.specs.declared.acts.Act.{Act}
use Rattle.channel_model.specs.declared.acts.Act.TheVariants.{Await, Take, Admit, Settle}
use Rattle.channel_model.specs.declared.acts.Settled.{Settled}
use Rattle.channel_model.specs.declared.acts.Settled.TheVariants as settled
use Rattle.channel_model.specs.declared.floor.WaitState.TheVariants as state
use Rattle.channel_model.specs.Channels.{kind_at, is_signal}
use Rattle.channel_model.specs.Histories.{replay, acts_of}
use Rattle.channel_model.specs.Floors.{Floor, Added, AtStep}
use Rattle.channel_model.specs.Answers.{IsUnsettledOf, IsDrainedAndClosed, IsSpentForReceives, IsAdmittedBelow, state_of_wait}
use Rattle.future_bridge.specs.declared.steps.Step.{Step}
use Rattle.future_bridge.specs.declared.steps.Step.TheVariants as step

-- ---- what acts received

-- the element with which a wait ended
abbrev pub element_in : Settled → List ℕ
element_in (settled.Value k v) = v ∷ []
element_in (settled.Sent k) = []
element_in (settled.Closed k v) = []
element_in settled.Cancelled = []
element_in (settled.Undelivered v) = []

-- the element of channel c that the act received: taken, or handed to a wait of that channel that ended with it
abbrev pub received_by : ℕ → Act → List ℕ
received_by c (Take d p v) = if d == c then v ∷ [] else []
received_by c (Settle w outcome) = if w.channel == c then element_in outcome else []
received_by c other = []

-- the elements that these acts received, in their order
unfoldable pub received : ℕ → List Act → List ℕ
received c [] = []
received c (act ∷ acts) = received_by c act ++ received c acts

-- the act belongs to receiving from channel c: it takes, waits, admits, or ends a wait there
abbrev pub is_receiving : ℕ → Act → Bool
is_receiving c (Take d p v) = d == c
is_receiving c (Await d p w n) = d == c
is_receiving c (Admit d p) = d == c
is_receiving c (Settle w outcome) = w.channel == c
is_receiving c other = false

-- each of these acts does
unfoldable pub all_receiving : ℕ → List Act → Bool
all_receiving c [] = true
all_receiving c (act ∷ acts) = is_receiving c act && all_receiving c acts

-- who received just these elements in the span, and made no act but such as belong to receiving from that channel
pub record Gained (who c : ℕ) (elements : List ℕ) (old new : Floor) : Type 0 where
  pub acts : List Act
  pub added : Added who acts old new
  pub gets : received c acts ≡ elements
  pub only : all_receiving c acts ≡ true

-- ---- a receiver that waits

-- the wait that a plain call begins at this place
abbrev pub wait_at : ℕ → ℕ → WaitId
wait_at c place = record { channel = c; place = place }

-- who's wait at this place, if it has one there, did not end
abbrev pub HoldsAt : ℕ → ℕ → Floor → Option ℕ → Type 0
HoldsAt who c floor None = Unit {0}
HoldsAt who c floor (Some place) = IsUnsettledOf who ((replay floor.seen).waits (wait_at c place))

-- who's last act placed a receiver here, whose wait did not end
pub record AwaitsLast (who c place : ℕ) (floor : Floor) : Type 0 where
  pub earlier : List Act
  pub last : acts_of who floor.seen ≡ earlier ++ Await c place (wait_at c place) 0 ∷ []
  pub holds : IsUnsettledOf who ((replay floor.seen).waits (wait_at c place))

-- it was seen standing at a moment of the span
pub record WaitsAt (who c place : ℕ) (old new : Floor) : Type 0 where
  pub last : AwaitsLast who c place new
  pub stood : AtStep old new (λ s. state_of_wait (s.waits (wait_at c place)) ≡ Some state.Standing)

-- ---- the end of the elements

-- the close of the channel with this value was seen, and nothing was left of it at a moment of the span after the close
pub record EndsAs (c value : ℕ) (old new : Floor) : Type 0 where
  pub closed : ((replay new.seen).channels c).closed ≡ Some value
  pub drained : AtStep old new (IsDrainedAndClosed c)

-- the same, with some value
abbrev pub IsOver : ℕ → Floor → Floor → Type 0
IsOver c old new = (value : ℕ) × EndsAs c value old new

-- at a moment of the span the open channel had no place left, and nothing to receive
abbrev pub HasNoPlace : ℕ → Floor → Floor → Type 0
HasNoPlace c old new = AtStep old new (IsSpentForReceives old.shape c)

-- ---- whoever waits for room

-- each offer below the mark was admitted for which the channel has room
pub record AdmitsBelow (who c mark : ℕ) (old new : Floor) : Type 0 where
  pub places : List ℕ
  pub added : Added who (map (λ q. Admit c q) places) old new
  pub none : AtStep old new (IsAdmittedBelow old.shape c mark)

-- each that came before
pub record AdmitsAll (who c : ℕ) (old new : Floor) : Type 0 where
  pub mark : ℕ
  pub next : AtStep old new (λ s. (s.channels c).next ≡ mark)
  pub below : AdmitsBelow who c mark old new

-- ---- one step, by the wait that it had

-- an element came: without a wait it was taken, and then those were admitted for whom there is room; with one it was handed to that very
-- wait
abbrev pub ReceivesBy : Option ℕ → ℕ → ℕ → ℕ → Floor → Floor → Type 0
ReceivesBy None who c v old new = (place : ℕ) × (taken : Floor) × Added who (Take c place v ∷ []) old taken × AdmitsAll who c taken new
ReceivesBy (Some place) who c v old new = (k : ℕ) × Added who (Settle (wait_at c place) (settled.Value k v) ∷ []) old new

-- the channel is closed with this value: without a wait no act was made, and with one that very wait ended so
abbrev pub EndsBy : Option ℕ → ℕ → ℕ → ℕ → Floor → Floor → Type 0
EndsBy None who c v old new = Added who [] old new
EndsBy (Some place) who c v old new = (k : ℕ) × Added who (Settle (wait_at c place) (settled.Closed k v) ∷ []) old new

-- no place is left: that comes of no wait, and no act was made
abbrev pub SpentBy : Option ℕ → ℕ → Floor → Floor → Type 0
SpentBy None who old new = Added who [] old new
SpentBy (Some place) who old new = ⊥

-- it is left waiting here: without a wait a receiver was placed, and with one it is that very wait, and no act was made
abbrev pub WaitsBy : Option ℕ → ℕ → ℕ → ℕ → Floor → Floor → Type 0
WaitsBy None who c place old new = Added who (Await c place (wait_at c place) 0 ∷ []) old new
WaitsBy (Some own) who c place old new = (place ≡ own) × Added who [] old new

-- what it came to; no element comes on a signal
abbrev pub Stepped : Option ℕ → ℕ → ℕ → Floor → Floor → Step → Type 0
Stepped wait who c old new (step.Item v) =
    Gained who c (v ∷ []) old new × ReceivesBy wait who c v old new × (is_signal (kind_at new.shape c) ≡ false)
Stepped wait who c old new (step.Ended v) = Gained who c [] old new × EndsAs c v old new × EndsBy wait who c v old new
Stepped wait who c old new step.Spent = Gained who c [] old new × HasNoPlace c old new × SpentBy wait who old new
Stepped wait who c old new (step.Waits place) = Gained who c [] old new × WaitsAt who c place old new × WaitsBy wait who c place old new
