-- The words of what holds of the fates of elements in every legal history.
use Rattle.std.specs.Prelude.{◌≡◌, ℕ, ◌+◌, ◌≤◌, ◌==◌, Bool, true, false, ◌&&◌, ◌||◌, List, [], ◌∷◌, Option, Some, None, is_none}
use Rattle.std.specs.List.{list_any}
use Rattle.channel_model.specs.declared.acts.Act.{Act}
use Rattle.channel_model.specs.declared.standing.Standing.{Standing}
use Rattle.channel_model.specs.Channels.{State, Wait}
use Rattle.channel_model.specs.Fates.{hands, takes, wait_at, of_wait, is_received, is_undelivered_at, is_dropped, is_spurned, is_withdrawn}
use Rattle.channel_model.specs.Laws.{how_many}

-- which of received, undelivered, dropped, spurned and withdrawn apply to the element of a place
abbrev pub fates_of : ℕ → ℕ → List Act → List Bool
fates_of c p acts =
    is_received c p acts ∷ is_undelivered_at c p acts ∷ is_dropped c p acts
    ∷ is_spurned c p acts ∷ is_withdrawn c p acts ∷ []

-- at most one of them does
abbrev pub IsAtMostOneFate : ℕ → ℕ → List Act → Type 0
IsAtMostOneFate c p acts = how_many (λ applies. applies) (fates_of c p acts) ≤ 1

-- how often the element of a place was given to a receiver: handed, or taken from the queue
abbrev pub deliveries_of : ℕ → ℕ → List Act → ℕ
deliveries_of c p acts = how_many (hands c p) acts + how_many (takes c p) acts

-- an offer of this place and value stands in the queue
abbrev pub stands_in : ℕ → ℕ → List Standing → Bool
stands_in p v queue = list_any (λ o. (o.place == p) && (o.value == v)) queue

-- the wait began and was not settled
abbrev pub is_unsettled : Option Wait → Bool
is_unsettled None = false
is_unsettled (Some x) = is_none x.settled

-- the element of a place stands in the queue, or was handed to a wait that is not settled
abbrev pub StandsOrIsUnsettled : ℕ → ℕ → ℕ → List Act → State → Type 0
StandsOrIsUnsettled c p v acts s =
    (stands_in p v (s.channels c).queue || (list_any (hands c p) acts && of_wait (λ w. is_unsettled (s.waits w)) (wait_at c p acts))) ≡ true
