-- The placing of a select's clauses: who may place one, and what each answer says.
use Rattle.std.specs.Prelude.{◌≡◌, ℕ, ◌≤◌, ◌==◌, true, Option, Some, None}
use Rattle.std.specs.List.{list_any}
use Rattle.channel_model.specs.declared.acts.Act.TheVariants.{Offer, Await}
use Rattle.channel_model.specs.declared.floor.Registered.{Registered}
use Rattle.channel_model.specs.declared.floor.Registered.TheVariants as registered
use Rattle.co_base.specs.declared.names.WaitId.{WaitId}
use Rattle.channel_model.specs.Channels.{State}
use Rattle.channel_model.specs.Needs.{JoinsWait}
use Rattle.channel_model.specs.Histories.{replay}
use Rattle.channel_model.specs.Floors.{Floor, Looked, Made, AtStep}
use Rattle.channel_model.specs.Answers.{ClosedWith, IsSpentForOffers, IsSpentForReceives, IsDrainedAndClosed, IsResolvedWait}

-- clause k of who may be placed at channel c: as the first of its select, or as one more of the select's wait, which is
-- not settled, and has neither this clause nor this channel
abbrev pub MayRegister : ℕ → ℕ → ℕ → Option WaitId → Floor → Type 0
MayRegister who k c None floor = (1 ≤ k) × (k ≤ 7)
MayRegister who k c (Some w) floor = JoinsWait who k c ((replay floor.seen).waits w)

-- the wait that a clause at this place names: that of its select, or the one that begins here
abbrev pub main_at : ℕ → ℕ → Option WaitId → WaitId
main_at c place None = record { channel = c; place = place }
main_at c place (Some w) = w

-- the select has a wait, and it was seen resolved
abbrev pub IsMainResolved : Option WaitId → Floor → Type 0
IsMainResolved None floor = ⊥
IsMainResolved (Some w) floor = IsResolvedWait ((replay floor.seen).waits w)

-- a receiver stands at this place
abbrev pub StandsReceiver : ℕ → ℕ → State → Type 0
StandsReceiver c place s = list_any (λ r. r.place == place) (s.channels c).receivers ≡ true

-- an offer stands at this place
abbrev pub StandsOffer : ℕ → ℕ → State → Type 0
StandsOffer c place s = list_any (λ o. o.place == place) (s.channels c).queue ≡ true

-- a clause that sends
abbrev pub RegisterOfferAnswer : ℕ → Option WaitId → ℕ → ℕ → ℕ → Floor → Floor → Registered → Type 0
RegisterOfferAnswer who main k c v old new (registered.Stands place) = Made who (Offer c place v (main_at c place main) k) old new
RegisterOfferAnswer who main k c v old new (registered.Partner place) = Looked who old new × AtStep old new (StandsReceiver c place)
RegisterOfferAnswer who main k c v old new (registered.Closed x) = ClosedWith who c x old new
RegisterOfferAnswer who main k c v old new registered.Spent = Looked who old new × AtStep old new (IsSpentForOffers old.shape c)
RegisterOfferAnswer who main k c v old new registered.Resolved = Looked who old new × IsMainResolved main new

-- a clause that receives
abbrev pub RegisterReceiveAnswer : ℕ → Option WaitId → ℕ → ℕ → Floor → Floor → Registered → Type 0
RegisterReceiveAnswer who main k c old new (registered.Stands place) = Made who (Await c place (main_at c place main) k) old new
RegisterReceiveAnswer who main k c old new (registered.Partner place) = Looked who old new × AtStep old new (StandsOffer c place)
RegisterReceiveAnswer who main k c old new (registered.Closed x) = ClosedWith who c x old new × AtStep old new (IsDrainedAndClosed c)
RegisterReceiveAnswer who main k c old new registered.Spent = Looked who old new × AtStep old new (IsSpentForReceives old.shape c)
RegisterReceiveAnswer who main k c old new registered.Resolved = Looked who old new × IsMainResolved main new
