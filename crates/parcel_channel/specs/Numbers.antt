-- The channel that carries parcel numbers.
use Rattle.std.specs.Prelude.{◌≡◌, ◌⊎◌, ℕ, ◌^◌, ◌<◌, ◌≤◌, Bool, true, false, List, [], ◌∷◌, ◌++◌, length, Option, Some, None, if◌then◌else◌}
use Rattle.std.specs.Prelude.{nat_lt}
use Rattle.std.specs.Int.Bits.{bit_or}
use Rattle.std.specs.List.{list_all}
use mathlib.Core.List.{IsPrefix}
use Rattle.channel_model.specs.declared.acts.Act.{Act}
use Rattle.channel_model.specs.declared.acts.Act.TheVariants.{Hand, Put, Offer, Await, Take, Admit, Drop, Spurn, Close, Void, Drain}
use Rattle.channel_model.specs.declared.acts.Act.TheVariants.{WakeClosed, Withdraw, Settle}
use Rattle.channel_model.specs.Floors.{Floor, Looked, Added}
use Rattle.channel_model.specs.Channels.{Wait, kind_at, is_signal}
use Rattle.channel_model.specs.declared.floor.Got.TheVariants as got
use Rattle.channel_model.specs.declared.floor.TriedGot.TheVariants as tried_got
use Rattle.channel_model.specs.declared.acts.Settled.TheVariants as end
use Rattle.channel_model.specs.declared.acts.Kind.{Kind}
use Rattle.channel_model.specs.declared.acts.Kind.TheVariants.{Rendezvous, Buffered, Unlimited, Conflated, DropOldest, DropLatest, Signal}
use Rattle.channel_model.specs.declared.acts.Why.TheVariants as why
use Rattle.channel_model.specs.declared.standing.Resolution.{Resolution}
use Rattle.channel_model.specs.declared.standing.Resolution.TheVariants as resolved
use Rattle.channel_model.specs.Histories.{replay}
use Rattle.channel_model.specs.declared.floor.Offered.TheVariants as offered
use Rattle.parcel_channel.specs.declared.waits.Placed.{Placed}
use Rattle.parcel_channel.specs.declared.waits.Placed.TheVariants as placed
use Rattle.parcel_channel.specs.declared.waits.Received.{Received}
use Rattle.parcel_channel.specs.declared.waits.Received.TheVariants as received
use Rattle.parcel_channel.specs.declared.waits.TriedReceived.{TriedReceived}
use Rattle.parcel_channel.specs.declared.waits.TriedReceived.TheVariants as tried
use Rattle.parcel_channel.specs.declared.waits.Ended.{Ended}
use Rattle.parcel_channel.specs.declared.waits.Ended.TheVariants as ended
use Rattle.channel_model.specs.declared.acts.Entry.{Entry}
use Rattle.channel_model.specs.Answers.{IsUnsettledOf, IsFullAt, OfferAnswer, GotAnswer, TriedGotAnswer, SettleAnswer, MarkAnswer}
use Rattle.channel_model.specs.Answers.{AdmitAnswer, AdmittedAt}
use Rattle.channel_model.specs.Laws.{IsResolvedAs}
use Rattle.channel_model.specs.PlainOffers.{plain_offer}
use Rattle.co_base.specs.declared.names.WaitId.{WaitId}
use Rattle.word_rules.specs.declared.wait_word.ResolvedBy.{ResolvedBy}
use Rattle.word_rules.specs.declared.wait_word.ResolvedBy.TheVariants as by
use Rattle.word_rules.specs.declared.cell_word.CellState.{CellState}
use Rattle.word_rules.specs.declared.cell_word.CellState.TheVariants as state
use Rattle.word_rules.specs.Cells.{Cell, free, receiver, offer, buffered, emptied, closed_by, voided_by, cell_of}
use Rattle.cell_words.specs.declared.hub.Hub.{Hub}
use Rattle.cell_words.specs.Hubs.{shape_of}

-- a kind that neither drops elements nor carries none
abbrev pub KeepsAll : Kind → Type 0
KeepsAll Rendezvous = Unit {0}
KeepsAll (Buffered n) = 1 ≤ n
KeepsAll Unlimited = Unit {0}
KeepsAll Conflated = ⊥
KeepsAll (DropOldest n) = ⊥
KeepsAll (DropLatest n) = ⊥
KeepsAll Signal = ⊥

-- channel 0 of the hub carries elements
abbrev pub CarriesNumbers : Hub → Type 0
CarriesNumbers hub = (0 < length (shape_of hub)) × (is_signal (kind_at (shape_of hub) 0) ≡ false)

abbrev pub is_admit : Act → Bool
is_admit (Hand c p v) = false
is_admit (Put c p v) = false
is_admit (Offer c p v w k) = false
is_admit (Await c p w k) = false
is_admit (Take c p v) = false
is_admit (Admit c p) = true
is_admit (Drop c p v) = false
is_admit (Spurn c p v) = false
is_admit (Close c v) = false
is_admit (Void c) = false
is_admit (Drain c p v) = false
is_admit (WakeClosed c p) = false
is_admit (Withdraw w why) = false
is_admit (Settle w outcome) = false

-- who made admits alone
pub record Admits (who : ℕ) (old new : Floor) : Type 0 where
  pub acts : List Act
  pub added : Added who acts old new
  pub admits : list_all is_admit acts ≡ true

-- the bit of a tag in a set: each tag below 63 has one of its own, and all others have the last
abbrev pub bit_for : ℕ → ℕ
bit_for t = if nat_lt t 63 then t else 63

-- who made admits one after the other: the set has the bits of just the tags whose offers they were
pub data AdmitsThose (who mark : ℕ) : ℕ → Floor → Floor → Type 0 where
  nobody : (old : Floor) → AdmitsThose who mark 0 old old
  another : (set place t : ℕ) (old mid new : Floor)
      → AdmitsThose who mark set old mid → AdmittedAt who 0 mark place t mid new
      → AdmitsThose who mark (bit_or set (2 ^ bit_for t)) old new

-- who made admits alone, those of these tags, until nobody below the mark was left to admit
pub record AdmitsBelow (who mark set : ℕ) (old new : Floor) : Type 0 where
  pub before : Floor
  pub admits : Admits who old before
  pub those : AdmitsThose who mark set old before
  pub none : AdmitAnswer who 0 mark before new None

-- who admitted all for whom there was room, below the place that the channel gave out next: the offers of these tags
pub record AdmitsAll (who set : ℕ) (old new : Floor) : Type 0 where
  pub mark : ℕ
  pub marked : Floor
  pub next : MarkAnswer who 0 old marked mark
  pub below : AdmitsBelow who mark set marked new

-- the wait is who's, and did not end
abbrev pub HoldsWait : ℕ → WaitId → Floor → Type 0
HoldsWait who w floor = IsUnsettledOf who ((replay floor.seen).waits w)

-- the offer of a number stands, or its channel was voided
abbrev pub WaitsStill : ℕ → Option Wait → Type 0
WaitsStill who None = ⊥
WaitsStill who (Some x) = (x.owner ≡ who) × (x.settled ≡ None) × ((x.resolved ≡ None) ⊎ (x.resolved ≡ Some resolved.Voided))

-- the own offer was received or admitted by now, and was settled as sent
pub record EndsAtOnce (who : ℕ) (w : WaitId) (old new : Floor) : Type 0 where
  pub mid : Floor
  pub looked : Looked who old mid
  pub clause : ℕ
  pub settled : SettleAnswer who w false mid new (end.Sent clause)

-- whether it was
abbrev pub OwnOffer : ℕ → WaitId → Floor → Floor → Bool → Type 0
OwnOffer who w old new true = EndsAtOnce who w old new
OwnOffer who w old new false = Looked who old new × WaitsStill who ((replay new.seen).waits w)

-- a number was offered at a place where it had to wait; then admits were made, and the own offer was looked at
pub record HeldThen (who k place set : ℕ) (ended : Bool) (old new : Floor) : Type 0 where
  pub held : Floor
  pub admitted : Floor
  pub offered : OfferAnswer who 0 k old held (offered.Held place)
  pub admits : AdmitsAll who set held admitted
  pub own : OwnOffer who (record { channel = 0; place = place }) admitted new ended

-- a number was kept by the channel, at once or by an admit, or received before the call ended
pub data Kept (who k : ℕ) (old new : Floor) : ℕ → Type 0 where
  at_once : (place : ℕ) → OfferAnswer who 0 k old new (offered.Put place) → Kept who k old new 0
  by_now : (place set : ℕ) → HeldThen who k place set true old new → Kept who k old new set

-- when the call placed its offer of k, at least as many offers stood as the channel keeps
pub record PlacedInFull (who k place : ℕ) (old new : Floor) : Type 0 where
  pub before : List Entry
  pub begins : IsPrefix old.seen before
  pub placed : IsPrefix (before ++ plain_offer who 0 place k ∷ []) new.seen
  pub full : IsFullAt old.shape 0 (replay before)

-- so it was, or the offer was voided since
abbrev pub WaitsInFull : ℕ → ℕ → ℕ → Floor → Floor → Type 0
WaitsInFull who k place old new =
    PlacedInFull who k place old new
    ⊎ IsResolvedAs resolved.Voided ((replay new.seen).waits (record { channel = 0; place = place }))

-- what became of a number that was offered
abbrev pub Sends : ℕ → ℕ → Floor → Floor → Placed → Type 0
Sends who k old new (placed.Handed t) = (place : ℕ) × OfferAnswer who 0 k old new (offered.Handed place t)
Sends who k old new (placed.Kept set) = Kept who k old new set
Sends who k old new (placed.Waits place set) = HeldThen who k place set false old new × WaitsInFull who k place old new
Sends who k old new (placed.Closed c) = OfferAnswer who 0 k old new (offered.Closed c)
Sends who k old new placed.Spent = OfferAnswer who 0 k old new offered.Spent

-- an offer that had to wait, where it ended before the call did, and where not
abbrev pub placed_at : Bool → ℕ → ℕ → Placed
placed_at true place set = placed.Kept set
placed_at false place set = placed.Waits place set

-- the channel was closed, or has no place left
abbrev pub Refused : ℕ → ℕ → Floor → Floor → Type 0
Refused who k old new = ((c : ℕ) × Sends who k old new (placed.Closed c)) ⊎ Sends who k old new placed.Spent

-- a number was received, and then all admitted for whom there was room; or none was received
abbrev pub Gets : ℕ → Floor → Floor → Received → Type 0
Gets who old new (received.Taken k from set) =
    (place : ℕ) × (mid : Floor) × GotAnswer who 0 old mid (got.Taken place k from) × AdmitsAll who set mid new
Gets who old new (received.Waiting place) = GotAnswer who 0 old new (got.Waiting place)
Gets who old new (received.Closed c) = GotAnswer who 0 old new (got.Closed c)
Gets who old new received.Spent = GotAnswer who 0 old new got.Spent

-- the same, of a receive that never waits
abbrev pub TriesToGet : ℕ → Floor → Floor → TriedReceived → Type 0
TriesToGet who old new (tried.Taken k from set) =
    (place : ℕ) × (mid : Floor) × TriedGotAnswer who 0 old mid (tried_got.Taken place k from) × AdmitsAll who set mid new
TriesToGet who old new tried.Empty = TriedGotAnswer who 0 old new tried_got.Empty
TriesToGet who old new (tried.Closed c) = TriedGotAnswer who 0 old new (tried_got.Closed c)

-- a receive that waits has begun a wait of its own
abbrev pub OwnsItsWait : ℕ → Floor → Received → Type 0
OwnsItsWait who new (received.Taken k from set) = Unit {0}
OwnsItsWait who new (received.Waiting place) = HoldsWait who (record { channel = 0; place = place }) new
OwnsItsWait who new (received.Closed v) = Unit {0}
OwnsItsWait who new received.Spent = Unit {0}

-- a wait was settled as cancelled, and then looked at
pub record Cancels (who : ℕ) (w : WaitId) (cancelled : Bool) (old new : Floor) : Type 0 where
  pub mid : Floor
  pub settled : SettleAnswer who w cancelled old mid end.Cancelled
  pub looked : Looked who mid new

-- its coroutine withdrew the wait
abbrev pub is_withdrawn_how : Option Resolution → Bool
is_withdrawn_how None = false
is_withdrawn_how (Some (resolved.Handed k v)) = false
is_withdrawn_how (Some (resolved.Taken k)) = false
is_withdrawn_how (Some (resolved.Admitted k)) = false
is_withdrawn_how (Some (resolved.Closed k v)) = false
is_withdrawn_how (Some (resolved.Withdrawn why.Cancelled)) = true
is_withdrawn_how (Some (resolved.Withdrawn why.Revoked)) = false
is_withdrawn_how (Some resolved.Voided) = false

abbrev pub is_withdrawn : Option Wait → Bool
is_withdrawn None = false
is_withdrawn (Some x) = is_withdrawn_how x.resolved

-- the number that was offered in a cell
abbrev pub number_in : Cell → Option ℕ
number_in free = None
number_in (receiver who w k) = None
number_in (offer v who w k) = Some v
number_in (buffered v) = None
number_in (emptied v) = None
number_in (closed_by v) = None
number_in (voided_by v) = None

-- the number of an offer that its coroutine withdrew
abbrev pub withdrawn_at : WaitId → List Entry → Option ℕ
withdrawn_at w log = if is_withdrawn ((replay log).waits w) then number_in (cell_of log 0 w.place) else None

-- the same by words
abbrev pub is_cancel : ResolvedBy → Bool
is_cancel by.Nobody = false
is_cancel by.Hand = false
is_cancel by.Take = false
is_cancel by.Admit = false
is_cancel by.Close = false
is_cancel by.Cancel = true
is_cancel by.Revoke = false
is_cancel by.Void = false

abbrev pub number_of_state : CellState → ℕ → Option ℕ
number_of_state state.Offer v = Some v
number_of_state other v = None

-- who admitted or received an offer
abbrev pub is_sent : ResolvedBy → Bool
is_sent by.Nobody = false
is_sent by.Hand = false
is_sent by.Take = true
is_sent by.Admit = true
is_sent by.Close = false
is_sent by.Cancel = false
is_sent by.Revoke = false
is_sent by.Void = false

-- how the wait ended; of an own offer that was withdrawn, its number
abbrev pub EndAnswer : ℕ → WaitId → Bool → Floor → Floor → Ended → Type 0
EndAnswer who w cancelled old new (ended.Value k) = (clause : ℕ) × SettleAnswer who w cancelled old new (end.Value clause k)
EndAnswer who w cancelled old new ended.Sent = (clause : ℕ) × SettleAnswer who w cancelled old new (end.Sent clause)
EndAnswer who w cancelled old new (ended.Closed v) = (clause : ℕ) × SettleAnswer who w cancelled old new (end.Closed clause v)
EndAnswer who w cancelled old new (ended.Withdrew k) = Cancels who w cancelled old new × (withdrawn_at w new.seen ≡ Some k)
EndAnswer who w cancelled old new ended.Cancelled = Cancels who w cancelled old new × (withdrawn_at w new.seen ≡ None)
EndAnswer who w cancelled old new (ended.Undelivered k) = SettleAnswer who w cancelled old new (end.Undelivered k)
