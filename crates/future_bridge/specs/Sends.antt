-- What one send comes to.
use Rattle.std.specs.Prelude.{◌≡◌, ℕ, ◌==◌, List, [], ◌∷◌, ◌++◌, map, Option, Some, None, if◌then◌else◌}
use mathlib.Core.List.{IsPrefix}
use Rattle.channel_model.specs.declared.acts.Act.{Act}
use Rattle.channel_model.specs.declared.acts.Act.TheVariants.{Hand, Put, Offer, Admit, Drop, Spurn, Settle}
use Rattle.channel_model.specs.declared.acts.Settled.TheVariants as settled
use Rattle.channel_model.specs.declared.floor.WaitState.TheVariants as state
use Rattle.channel_model.specs.Histories.{replay}
use Rattle.channel_model.specs.Floors.{Floor, Added, AtStep}
use Rattle.channel_model.specs.Answers.{IsSpentForOffers, IsTrimmed, StandsWithRoom, state_of_wait}
use Rattle.channel_model.specs.PlainOffers.{OffersPlainly}
use Rattle.future_bridge.specs.Gains.{wait_at, AdmitsAll}
use Rattle.future_bridge.specs.declared.send_steps.SendStep.{SendStep}
use Rattle.future_bridge.specs.declared.send_steps.SendStep.TheVariants as step

-- ---- acts

-- an offer at place q, and the admits after it
abbrev pub offer_acts : ℕ → ℕ → ℕ → List ℕ → List Act
offer_acts c v q admits = Offer c q v (wait_at c q) 0 ∷ map (λ p. Admit c p) admits

-- an element is put at place q, and the oldest are dropped that are too many; then it is removed itself, if it is one too many
abbrev pub spurn_acts : ℕ → ℕ → Option ℕ → List Act
spurn_acts c q None = []
spurn_acts c q (Some v) = Spurn c q v ∷ []

abbrev pub put_acts : ℕ → ℕ → ℕ → List (ℕ × ℕ) → Option ℕ → List Act
put_acts c v q dropped spurned = Put c q v ∷ (map (λ d. Drop c d.0 d.1) dropped ++ spurn_acts c q spurned)

-- the element was handed; or put, and those were removed that are too many; or offered, and the offer was received or kept
pub data SendsOne (c v : ℕ) : List Act → Type 0 where
  hands : (q : ℕ) → SendsOne c v (Hand c q v ∷ [])
  puts : (q : ℕ) (dropped : List (ℕ × ℕ)) (spurned : Option ℕ) → SendsOne c v (put_acts c v q dropped spurned)
  offers : (q k : ℕ) (admits : List ℕ) (all : List Act) → all ≡ offer_acts c v q admits ++ Settle (wait_at c q) (settled.Sent k) ∷ []
      → SendsOne c v all

-- or the offer was removed with its channel
pub record SendsNone (c v : ℕ) (all : List Act) : Type 0 where
  pub place : ℕ
  pub admits : List ℕ
  pub is : all ≡ offer_acts c v place admits ++ Settle (wait_at c place) settled.Cancelled ∷ []

-- these elements were sent, one after the other
pub data SendsEach (c : ℕ) : List ℕ → List Act → Type 0 where
  none : SendsEach c [] []
  one : (v : ℕ) (vs : List ℕ) (group more all : List Act) → SendsOne c v group → SendsEach c vs more → all ≡ group ++ more
      → SendsEach c (v ∷ vs) all

-- ---- what acts gave to a channel

-- the element that the act gave to channel c: handed, put or offered
abbrev pub given_by : ℕ → Act → List ℕ
given_by c (Hand d p v) = if d == c then v ∷ [] else []
given_by c (Put d p v) = if d == c then v ∷ [] else []
given_by c (Offer d p v w k) = if d == c then v ∷ [] else []
given_by c other = []

-- the elements that these acts gave to it, in their order
unfoldable pub given : ℕ → List Act → List ℕ
given c [] = []
given c (act ∷ acts) = given_by c act ++ given c acts

-- ---- spans

-- who added acts of this sort in the span
pub record Acted (who : ℕ) (P : List Act → Type 0) (old new : Floor) : Type 0 where
  pub acts : List Act
  pub added : Added who acts old new
  pub are : P acts

-- who has an offer at this place, which waits or was resolved, and did not end
abbrev pub OffersAt : ℕ → ℕ → ℕ → Floor → Type 0
OffersAt who c place floor = OffersPlainly who (wait_at c place) (replay floor.seen)

-- it was seen standing at a moment of the span
pub record OfferWaits (who c place : ℕ) (old new : Floor) : Type 0 where
  pub plain : OffersAt who c place new
  pub stood : AtStep old new (λ s. state_of_wait (s.waits (wait_at c place)) ≡ Some state.Standing)

-- ---- what follows an offer

-- the oldest were dropped, as long as more stood up to the own place than the channel keeps
pub record TrimsAll (who c mine : ℕ) (old new : Floor) : Type 0 where
  pub dropped : List (ℕ × ℕ)
  pub added : Added who (map (λ d. Drop c d.0 d.1) dropped) old new
  pub fits : AtStep old new (IsTrimmed old.shape c mine)

-- the own element was removed, if the channel does not keep its latest and too many stood before it
pub record SpurnsOwn (who c mine : ℕ) (old new : Floor) : Type 0 where
  pub spurned : Option ℕ
  pub added : Added who (spurn_acts c mine spurned) old new
  pub fits : spurned ≡ None → AtStep old new (StandsWithRoom old.shape c mine)

-- both, one after the other
pub record RemovesTooMany (who c mine : ℕ) (old new : Floor) : Type 0 where
  pub trimmed : Floor
  pub trims : TrimsAll who c mine old trimmed
  pub spurns : SpurnsOwn who c mine trimmed new

-- those were admitted for whom there is room, and then who may have made more
pub record AdmitsFirst (who c : ℕ) (old new : Floor) : Type 0 where
  pub admitted : Floor
  pub admits : AdmitsAll who c old admitted
  pub longer : IsPrefix admitted.seen new.seen

-- nothing follows a Hand; after a Put those are removed that are too many; after an offer those are admitted for whom there is room
pub data Follows (who c v : ℕ) (old new : Floor) : Type 0 where
  hands : (q : ℕ) → Added who (Hand c q v ∷ []) old new → Follows who c v old new
  puts : (q : ℕ) (put : Floor) → Added who (Put c q v ∷ []) old put → RemovesTooMany who c q put new → Follows who c v old new
  offers : (q : ℕ) (offered : Floor) → Added who (Offer c q v (wait_at c q) 0 ∷ []) old offered → AdmitsFirst who c offered new
      → Follows who c v old new

-- ---- steps

-- an offer, and what follows it
abbrev pub OfferedSo : ℕ → ℕ → ℕ → Floor → Floor → SendStep → Type 0
OfferedSo who c v old new step.Sent = Acted who (SendsOne c v) old new × Follows who c v old new
OfferedSo who c v old new (step.Waits q) =
    Acted who (λ acts. (admits : List ℕ) × (acts ≡ offer_acts c v q admits)) old new × OfferWaits who c q old new
    × Follows who c v old new
OfferedSo who c v old new (step.Closed x) = Acted who (λ acts. acts ≡ []) old new × (((replay new.seen).channels c).closed ≡ Some x)
OfferedSo who c v old new step.Spent = Acted who (λ acts. acts ≡ []) old new × AtStep old new (IsSpentForOffers old.shape c)
OfferedSo who c v old new step.Cancelled = Acted who (SendsNone c v) old new × Follows who c v old new

-- a look at the own offer
abbrev pub LookedSo : ℕ → ℕ → ℕ → Floor → Floor → SendStep → Type 0
LookedSo who c q old new step.Sent = Acted who (λ acts. (k : ℕ) × (acts ≡ Settle (wait_at c q) (settled.Sent k) ∷ [])) old new
LookedSo who c q old new (step.Waits p) = (p ≡ q) × Acted who (λ acts. acts ≡ []) old new × OfferWaits who c q old new
LookedSo who c q old new (step.Closed x) = ⊥
LookedSo who c q old new step.Spent = ⊥
LookedSo who c q old new step.Cancelled = Acted who (λ acts. acts ≡ Settle (wait_at c q) settled.Cancelled ∷ []) old new

-- admits, and then a look
abbrev pub HeldSo : ℕ → ℕ → ℕ → Floor → Floor → SendStep → Type 0
HeldSo who c q old new step.Sent =
    Acted who (λ acts. (admits : List ℕ) × (k : ℕ)
    × (acts ≡ map (λ p. Admit c p) admits ++ Settle (wait_at c q) (settled.Sent k) ∷ [])) old new
    × AdmitsFirst who c old new
HeldSo who c q old new (step.Waits p) =
    (p ≡ q) × Acted who (λ acts. (admits : List ℕ) × (acts ≡ map (λ p. Admit c p) admits)) old new × OfferWaits who c q old new
    × AdmitsFirst who c old new
HeldSo who c q old new (step.Closed x) = ⊥
HeldSo who c q old new step.Spent = ⊥
HeldSo who c q old new step.Cancelled =
    Acted who (λ acts. (admits : List ℕ) × (acts ≡ map (λ p. Admit c p) admits ++ Settle (wait_at c q) settled.Cancelled ∷ [])) old new
    × AdmitsFirst who c old new
