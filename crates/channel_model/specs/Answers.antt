-- What each answer of a floor says, by cases on the answer.
use Rattle.std.specs.Prelude.{◌≡◌, ℕ, ◌<◌, ◌≤◌, ◌==◌, ◌&&◌, Bool, true, false, List, [], ◌∷◌, length, Option, Some, None, is_some, Result, Ok, Err}
use Rattle.std.specs.List.{list_any}
use Rattle.channel_model.specs.declared.acts.Act.{Act}
use Rattle.channel_model.specs.declared.acts.Act.TheVariants.{Hand, Put, Offer, Await, Take, Admit, Drop, Spurn, Close, Void, Drain, WakeClosed, Withdraw, Settle}
use Rattle.channel_model.specs.declared.acts.Settled.{Settled}
use Rattle.channel_model.specs.declared.acts.Why.{Why}
use Rattle.channel_model.specs.declared.standing.Party.{Party}
use Rattle.channel_model.specs.declared.standing.Standing.{Standing}
use Rattle.channel_model.specs.declared.standing.Receiver.{Receiver}
use Rattle.channel_model.specs.declared.standing.Resolution.{Resolution}
use Rattle.channel_model.specs.declared.floor.Offered.{Offered}
use Rattle.channel_model.specs.declared.floor.Offered.TheVariants as offered
use Rattle.channel_model.specs.declared.floor.TriedOffer.{TriedOffer}
use Rattle.channel_model.specs.declared.floor.TriedOffer.TheVariants as tried_offer
use Rattle.channel_model.specs.declared.floor.Got.{Got}
use Rattle.channel_model.specs.declared.floor.Got.TheVariants as got
use Rattle.channel_model.specs.declared.floor.TriedGot.{TriedGot}
use Rattle.channel_model.specs.declared.floor.TriedGot.TheVariants as tried_got
use Rattle.channel_model.specs.declared.floor.AlreadyClosed.{AlreadyClosed}
use Rattle.channel_model.specs.declared.floor.Withdrawn.{Withdrawn}
use Rattle.channel_model.specs.declared.floor.Withdrawn.TheVariants as withdrawn
use Rattle.channel_model.specs.declared.floor.WaitState.{WaitState}
use Rattle.channel_model.specs.declared.floor.WaitState.TheVariants as state
use Rattle.co_base.specs.declared.names.WaitId.{WaitId}
use Rattle.channel_model.specs.Channels.{Shape, State, Wait, kind_at, places_at, is_full, suspends, drops}
use Rattle.channel_model.specs.Outcomes.{outcome_of}
use Rattle.channel_model.specs.Effects.{holder_at}
use Rattle.channel_model.specs.Histories.{replay, acts_of}
use Rattle.channel_model.specs.Owing.{owes_admission_below, owes_spurn_at, offers_up_to}
use Rattle.channel_model.specs.Floors.{Floor, Looked, Made, AtStep, AtMoment}

-- ---- whose a wait is

abbrev pub owner_of : Option Wait → Option ℕ
owner_of None = None
owner_of (Some x) = Some x.owner

-- the coroutine of the first receiver
abbrev pub first_receiver : State → List Receiver → Option ℕ
first_receiver s [] = None
first_receiver s (r ∷ rs) = owner_of (s.waits r.party.wait)

abbrev pub owner_of_holder : State → Option Party → Option ℕ
owner_of_holder s None = None
owner_of_holder s (Some p) = owner_of (s.waits p.wait)

-- the coroutine that waits with the first offer, if one does
abbrev pub first_holder : State → List Standing → Option ℕ
first_holder s [] = None
first_holder s (o ∷ os) = owner_of_holder s o.holder

-- ---- offer

pub record HandedTo (who c v place t : ℕ) (old new : Floor) : Type 0 where
  pub made : Made who (Hand c place v) old new
  pub to : first_receiver (replay made.before) ((replay made.before).channels c).receivers ≡ Some t
  pub was_open : AtMoment who [] old new (λ s. (s.channels c).closed ≡ None)

-- the close was seen
pub record ClosedWith (who c v : ℕ) (old new : Floor) : Type 0 where
  pub looked : Looked who old new
  pub is_closed : ((replay new.seen).channels c).closed ≡ Some v

-- an open channel has no place left, and nobody to hand an element to
pub record IsSpentForOffers (shape : Shape) (c : ℕ) (s : State) : Type 0 where
  pub spent : (s.channels c).next ≡ places_at shape c
  pub not_closed : (s.channels c).closed ≡ None
  pub nobody : (s.channels c).receivers ≡ []

-- at least as many offers stand as the channel keeps
abbrev pub IsFullAt : Shape → ℕ → State → Type 0
IsFullAt shape c s = is_full (kind_at shape c) (length (s.channels c).queue) ≡ true

abbrev pub OfferAnswer : ℕ → ℕ → ℕ → Floor → Floor → Offered → Type 0
OfferAnswer who c v old new (offered.Handed place t) = HandedTo who c v place t old new
OfferAnswer who c v old new (offered.Put place) = Made who (Put c place v) old new
OfferAnswer who c v old new (offered.Held place) =
    Made who (Offer c place v (record { channel = c; place = place }) 0) old new × AtMoment who [] old new (IsFullAt old.shape c)
OfferAnswer who c v old new (offered.Closed x) = ClosedWith who c x old new
OfferAnswer who c v old new offered.Spent = Looked who old new × AtStep old new (IsSpentForOffers old.shape c)

-- a send would wait: the channel is open, nobody stands to hand to, and at least as many offers stand as it keeps
pub record IsFullToTry (shape : Shape) (c : ℕ) (s : State) : Type 0 where
  pub may_wait : suspends (kind_at shape c) ≡ true
  pub not_closed : (s.channels c).closed ≡ None
  pub nobody : (s.channels c).receivers ≡ []
  pub full : IsFullAt shape c s

-- an offer that never waits
abbrev pub TriedOfferAnswer : ℕ → ℕ → ℕ → Floor → Floor → TriedOffer → Type 0
TriedOfferAnswer who c v old new (tried_offer.Handed place t) = HandedTo who c v place t old new
TriedOfferAnswer who c v old new (tried_offer.Put place) = Made who (Put c place v) old new
TriedOfferAnswer who c v old new tried_offer.Full = Looked who old new × AtStep old new (IsFullToTry old.shape c)
TriedOfferAnswer who c v old new (tried_offer.Closed x) = ClosedWith who c x old new
TriedOfferAnswer who c v old new tried_offer.Spent = Looked who old new × AtStep old new (IsSpentForOffers old.shape c)

-- ---- receive

-- an open channel has no place left, and nothing to receive
pub record IsSpentForReceives (shape : Shape) (c : ℕ) (s : State) : Type 0 where
  pub spent : (s.channels c).next ≡ places_at shape c
  pub not_closed : (s.channels c).closed ≡ None
  pub nothing : (s.channels c).queue ≡ []

pub record TakenFrom (who c place v : ℕ) (t : Option ℕ) (old new : Floor) : Type 0 where
  pub made : Made who (Take c place v) old new
  pub from : first_holder (replay made.before) ((replay made.before).channels c).queue ≡ t

-- nothing is left of a closed channel
pub record IsDrainedAndClosed (c : ℕ) (s : State) : Type 0 where
  pub is_closed : is_some (s.channels c).closed ≡ true
  pub nothing : (s.channels c).queue ≡ []

abbrev pub GotAnswer : ℕ → ℕ → Floor → Floor → Got → Type 0
GotAnswer who c old new (got.Taken place v t) = TakenFrom who c place v t old new
GotAnswer who c old new (got.Waiting place) = Made who (Await c place (record { channel = c; place = place }) 0) old new
GotAnswer who c old new (got.Closed x) = ClosedWith who c x old new × AtStep old new (IsDrainedAndClosed c)
GotAnswer who c old new got.Spent = Looked who old new × AtStep old new (IsSpentForReceives old.shape c)

-- a receive would wait: the channel is open, and nothing stands in its queue
pub record IsEmptyToTry (c : ℕ) (s : State) : Type 0 where
  pub not_closed : (s.channels c).closed ≡ None
  pub nothing : (s.channels c).queue ≡ []

-- a receive that never waits
abbrev pub TriedGotAnswer : ℕ → ℕ → Floor → Floor → TriedGot → Type 0
TriedGotAnswer who c old new (tried_got.Taken place v t) = TakenFrom who c place v t old new
TriedGotAnswer who c old new tried_got.Empty = Looked who old new × AtStep old new (IsEmptyToTry c)
TriedGotAnswer who c old new (tried_got.Closed x) = ClosedWith who c x old new × AtStep old new (IsDrainedAndClosed c)

-- ---- close

abbrev pub CloseAnswer : ℕ → ℕ → ℕ → Floor → Floor → Result (Unit {0}) AlreadyClosed → Type 0
CloseAnswer who c v old new (Ok done) = Made who (Close c v) old new
CloseAnswer who c v old new (Err first) = ClosedWith who c first.v old new

-- the close was seen
abbrev pub IsSeenClosed : ℕ → Floor → Type 0
IsSeenClosed c floor = is_some ((replay floor.seen).channels c).closed ≡ true

-- no receiver stands
abbrev pub StandsNobody : ℕ → State → Type 0
StandsNobody c s = (s.channels c).receivers ≡ []

-- the first receiver, that of t, was told of the close
pub record WokenAt (who c place t : ℕ) (old new : Floor) : Type 0 where
  pub made : Made who (WakeClosed c place) old new
  pub to : first_receiver (replay made.before) ((replay made.before).channels c).receivers ≡ Some t

-- a place and a tag, or nothing if no receiver stands
abbrev pub WakeAnswer : ℕ → ℕ → Floor → Floor → Option (ℕ × ℕ) → Type 0
WakeAnswer who c old new (Some x) = WokenAt who c x.0 x.1 old new
WakeAnswer who c old new None = Looked who old new × AtStep old new (StandsNobody c)

-- ---- void and drain

-- the void was seen
abbrev pub IsSeenVoided : ℕ → Floor → Type 0
IsSeenVoided c floor = ((replay floor.seen).channels c).voided ≡ true

-- true if this call made the void
abbrev pub VoidAnswer : ℕ → ℕ → Floor → Floor → Bool → Type 0
VoidAnswer who c old new true = Made who (Void c) old new
VoidAnswer who c old new false = Looked who old new × IsSeenVoided c new

-- no offer stands
abbrev pub StandsNothing : ℕ → State → Type 0
StandsNothing c s = (s.channels c).queue ≡ []

-- the first offer was removed; t waited with it, if somebody did
pub record DrainedFrom (who c place v : ℕ) (t : Option ℕ) (old new : Floor) : Type 0 where
  pub made : Made who (Drain c place v) old new
  pub from : first_holder (replay made.before) ((replay made.before).channels c).queue ≡ t

-- a place, its element and the tag of its sender, or nothing if no offer stands
abbrev pub DrainAnswer : ℕ → ℕ → Floor → Floor → Option (ℕ × ℕ × Option ℕ) → Type 0
DrainAnswer who c old new (Some x) = DrainedFrom who c x.0 x.1 x.2 old new
DrainAnswer who c old new None = Looked who old new × AtStep old new (StandsNothing c)

-- ---- look and settle

abbrev pub IsOwnWait : ℕ → Option Wait → Type 0
IsOwnWait who None = ⊥
IsOwnWait who (Some x) = x.owner ≡ who

-- the wait is who's, and did not end
abbrev pub IsUnsettledOf : ℕ → Option Wait → Type 0
IsUnsettledOf who None = ⊥
IsUnsettledOf who (Some x) = (x.owner ≡ who) × (x.settled ≡ None)

-- somebody resolved the wait
abbrev pub IsResolvedWait : Option Wait → Type 0
IsResolvedWait None = ⊥
IsResolvedWait (Some x) = is_some x.resolved ≡ true

-- the wait ended
abbrev pub IsSettledWait : Option Wait → Type 0
IsSettledWait None = ⊥
IsSettledWait (Some x) = is_some x.settled ≡ true

-- the wait was seen, and is who's
abbrev pub IsOwn : ℕ → WaitId → Floor → Type 0
IsOwn who w floor = IsOwnWait who ((replay floor.seen).waits w)

abbrev pub IsReadyWait : ℕ → Option Wait → Type 0
IsReadyWait who None = ⊥
IsReadyWait who (Some x) = (x.owner ≡ who) × (is_some x.resolved ≡ true) × (x.settled ≡ None)

-- the wait was seen resolved, is who's, and is not settled
abbrev pub IsReady : ℕ → WaitId → Floor → Type 0
IsReady who w floor = IsReadyWait who ((replay floor.seen).waits w)

abbrev pub state_of_parts : Option Resolution → Option Settled → WaitState
state_of_parts how (Some outcome) = state.Settled
state_of_parts None None = state.Standing
state_of_parts (Some how) None = state.Resolved

abbrev pub state_of_wait : Option Wait → Option WaitState
state_of_wait None = None
state_of_wait (Some x) = Some (state_of_parts x.resolved x.settled)

abbrev pub LookAnswer : ℕ → WaitId → Floor → Floor → WaitState → Type 0
LookAnswer who w old new result = Looked who old new × AtStep old new (λ s. state_of_wait (s.waits w) ≡ Some result)

abbrev pub outcome_of_some : Bool → Option Resolution → Option Settled
outcome_of_some cancelled None = None
outcome_of_some cancelled (Some how) = Some (outcome_of how cancelled)

-- how the wait ends
abbrev pub outcome_at : Bool → Option Wait → Option Settled
outcome_at cancelled None = None
outcome_at cancelled (Some x) = outcome_of_some cancelled x.resolved

abbrev pub SettleAnswer : ℕ → WaitId → Bool → Floor → Floor → Settled → Type 0
SettleAnswer who w cancelled old new result =
    Made who (Settle w result) old new × (outcome_at cancelled ((replay old.seen).waits w) ≡ Some result)

-- ---- withdraw

abbrev pub WithdrawAnswer : ℕ → WaitId → Why → Floor → Floor → Withdrawn → Type 0
WithdrawAnswer who w why old new (withdrawn.Done t) = Made who (Withdraw w why) old new × (t ≡ who)
WithdrawAnswer who w why old new withdrawn.Late = Looked who old new × IsResolvedWait ((replay new.seen).waits w)

-- ---- mark

-- the place that the channel gives out next
abbrev pub MarkAnswer : ℕ → ℕ → Floor → Floor → ℕ → Type 0
MarkAnswer who c old new result = Looked who old new × AtStep old new (λ s. (s.channels c).next ≡ result)

-- ---- admit

-- the held offer of t at this place, below the mark, was admitted
pub record AdmittedAt (who c mark place t : ℕ) (old new : Floor) : Type 0 where
  pub made : Made who (Admit c place) old new
  pub below : place < mark
  pub of : owner_of_holder (replay made.before) (holder_at place ((replay made.before).channels c).queue) ≡ Some t

-- no offer below the mark is held with fewer offers before it than the kind keeps
abbrev pub IsAdmittedBelow : Shape → ℕ → ℕ → State → Type 0
IsAdmittedBelow shape c mark s = owes_admission_below (kind_at shape c) mark 0 (s.channels c).queue ≡ false

-- a place and a tag, or nothing if no offer below the mark may be admitted
abbrev pub AdmitAnswer : ℕ → ℕ → ℕ → Floor → Floor → Option (ℕ × ℕ) → Type 0
AdmitAnswer who c mark old new (Some x) = AdmittedAt who c mark x.0 x.1 old new
AdmitAnswer who c mark old new None = Looked who old new × AtStep old new (IsAdmittedBelow old.shape c mark)

-- ---- trim

-- the act put an element at this place
abbrev pub is_put_at : ℕ → ℕ → Act → Bool
is_put_at c place (Put d p v) = (d == c) && (p == place)
is_put_at c place other = false

-- an own Put took this place
abbrev pub HasPut : ℕ → ℕ → ℕ → Floor → Type 0
HasPut who c mine floor = list_any (is_put_at c mine) (acts_of who floor.seen) ≡ true

-- no more offers stand at places up to this one than the kind keeps, if it drops its oldest
abbrev pub IsTrimmed : Shape → ℕ → ℕ → State → Type 0
IsTrimmed shape c mine s = drops (kind_at shape c) (offers_up_to mine (s.channels c).queue) ≡ false

-- a place and its element, or nothing if nothing is to be dropped up to the own place
abbrev pub TrimAnswer : ℕ → ℕ → ℕ → Floor → Floor → Option (ℕ × ℕ) → Type 0
TrimAnswer who c mine old new (Some x) = Made who (Drop c x.0 x.1) old new × (x.0 ≤ mine)
TrimAnswer who c mine old new None = Looked who old new × AtStep old new (IsTrimmed old.shape c mine)

-- ---- spurn

-- no offer stands at this place, or fewer before it than a kind keeps that does not keep its latest
abbrev pub StandsWithRoom : Shape → ℕ → ℕ → State → Type 0
StandsWithRoom shape c p s = owes_spurn_at (kind_at shape c) p 0 (s.channels c).queue ≡ false

-- the element of the own place, or nothing if none is to be removed there
abbrev pub SpurnAnswer : ℕ → ℕ → ℕ → Floor → Floor → Option ℕ → Type 0
SpurnAnswer who c mine old new (Some v) = Made who (Spurn c mine v) old new
SpurnAnswer who c mine old new None = Looked who old new × AtStep old new (StandsWithRoom old.shape c mine)
