-- A channel as a sink.
use Rattle.std.specs.Prelude.{◌≡◌, ℕ, ◌<◌, false, List, [], ◌∷◌, length, Option, Some, None, Result, Ok, Err}
use Rattle.futures.specs.declared.task.Poll.{Poll}
use Rattle.futures.specs.declared.task.Poll.TheVariants.{Ready, Pending}
use Rattle.channel_model.specs.declared.acts.Act.{Act}
use Rattle.channel_model.specs.declared.acts.Act.TheVariants.{Settle}
use Rattle.channel_model.specs.declared.acts.Settled.TheVariants as settled
use Rattle.channel_model.specs.Channels.{kind_at, is_signal}
use Rattle.channel_model.specs.Histories.{replay, acts_of}
use Rattle.channel_model.specs.Floors.{Floor, AtStep}
use Rattle.channel_model.specs.Answers.{IsSpentForOffers}
use Rattle.cell_words.specs.declared.hub.Hub.{Hub}
use Rattle.cell_words.specs.declared.pass.Pass.{Pass}
use Rattle.cell_words.specs.Hubs.{shape_of, IsOwn, SameGiving}
use Rattle.cell_calls.specs.HubFloors.{hub_floor}
use Rattle.future_bridge.specs.declared.sending.SendSink.{SendSink}
use Rattle.future_bridge.specs.declared.sending.SinkFault.{SinkFault}
use Rattle.future_bridge.specs.declared.sending.SinkFault.TheVariants as fault
use Rattle.future_bridge.specs.declared.sending.Flush.{Flush}
use Rattle.future_bridge.specs.declared.sending.Flush.TheVariants as flush
use Rattle.future_bridge.specs.Gains.{wait_at}
use Rattle.future_bridge.specs.Sends.{offer_acts, given, SendsOne, SendsNone, Acted, OffersAt, OfferWaits, Follows}

-- what its pass has seen of its hub
abbrev pub sink_floor : SendSink → Floor
sink_floor s = hub_floor s.hub.now s.pass

-- the offer at the place of a sink's wait is its own, and did not end
abbrev pub OfferStands : ℕ → ℕ → Floor → Option (ℕ × ℕ) → Type 0
OfferStands who c floor None = Unit {0}
OfferStands who c floor (Some x) = OffersAt who c x.0 floor

-- it calls as one of its pass's coroutines, on a channel of its hub that is no signal; its offer, if it has one, did not end
pub record SinkStands (s : SendSink) : Type 0 where
  pub own : IsOwn s.hub.now s.pass s.who
  pub channel : s.c < length (shape_of s.hub.now)
  pub kind : is_signal (kind_at (shape_of s.hub.now) s.c) ≡ false
  pub offer : OfferStands s.who s.c (sink_floor s) s.wait

-- a new one
pub record IsNewSink (hub : Hub) (pass : Pass) (who c : ℕ) (s : SendSink) : Type 0 where
  pub hub_is : s.hub.now ≡ hub
  pub pass_is : s.pass ≡ pass
  pub who_is : s.who ≡ who
  pub channel_is : s.c ≡ c
  pub no_wait : s.wait ≡ None

-- what no call changes
pub record SameSink (old new : SendSink) : Type 0 where
  pub hub : new.hub.now ≡ old.hub.now
  pub who : new.who ≡ old.who
  pub channel : new.c ≡ old.c
  pub giving : SameGiving old.pass new.pass

-- its coroutine added acts of this sort
abbrev pub ActedBy : SendSink → (List Act → Type 0) → SendSink → Type 0
ActedBy old P new = Acted old.who P (sink_floor old) (sink_floor new)

-- ---- a flush

-- the acts with which an offer ends that was received or kept; none if none waits
abbrev pub EndsSent : ℕ → Option (ℕ × ℕ) → List Act → Type 0
EndsSent c None acts = acts ≡ []
EndsSent c (Some x) acts = (k : ℕ) × (acts ≡ Settle (wait_at c x.0) (settled.Sent k) ∷ [])

-- or removed with its channel
abbrev pub EndsVoided : ℕ → ℕ → Option (ℕ × ℕ) → List Act → Type 0
EndsVoided c v None acts = ⊥
EndsVoided c v (Some x) acts = (x.1 ≡ v) × (acts ≡ Settle (wait_at c x.0) settled.Cancelled ∷ [])

-- its offer was seen standing at a moment of the call
abbrev pub StillWaits : ℕ → ℕ → Floor → Floor → Option (ℕ × ℕ) → Type 0
StillWaits who c old new None = ⊥
StillWaits who c old new (Some x) = OfferWaits who c x.0 old new

-- by what it came to
abbrev pub FlushedSo : SendSink → SendSink → Flush → Type 0
FlushedSo old new flush.Done = (new.wait ≡ None) × ActedBy old (EndsSent old.c old.wait) new
FlushedSo old new flush.Waits =
    (new.wait ≡ old.wait) × ActedBy old (λ acts. acts ≡ []) new × StillWaits old.who old.c (sink_floor old) (sink_floor new) old.wait
FlushedSo old new (flush.Cancelled v) = (new.wait ≡ None) × ActedBy old (EndsVoided old.c v old.wait) new

-- the same, of a poll; a poll makes no offer, so it meets no closed channel, and no lack of places
abbrev pub PolledSinkSo : SendSink → SendSink → Poll (Result (Unit {0}) SinkFault) → Type 0
PolledSinkSo old new Pending =
    (new.wait ≡ old.wait) × ActedBy old (λ acts. acts ≡ []) new × StillWaits old.who old.c (sink_floor old) (sink_floor new) old.wait
PolledSinkSo old new (Ready (Ok done)) = (new.wait ≡ None) × ActedBy old (EndsSent old.c old.wait) new
PolledSinkSo old new (Ready (Err (fault.Closed v x))) = ⊥
PolledSinkSo old new (Ready (Err (fault.Spent v))) = ⊥
PolledSinkSo old new (Ready (Err (fault.Cancelled v))) = (new.wait ≡ None) × ActedBy old (EndsVoided old.c v old.wait) new

-- ---- a send

-- the element was sent, or its offer waits
abbrev pub SentOrWaits : ℕ → ℕ → Option (ℕ × ℕ) → List Act → Type 0
SentOrWaits c v None acts = SendsOne c v acts
SentOrWaits c v (Some x) acts = (x.1 ≡ v) × ((admits : List ℕ) × (acts ≡ offer_acts c v x.0 admits))

-- by the answer
abbrev pub StartedSo : SendSink → SendSink → ℕ → Result (Unit {0}) SinkFault → Type 0
StartedSo old new v (Ok done) =
    ActedBy old (SentOrWaits old.c v new.wait) new × Follows old.who old.c v (sink_floor old) (sink_floor new)
StartedSo old new v (Err (fault.Closed u x)) =
    (u ≡ v) × (new.wait ≡ None) × ActedBy old (λ acts. acts ≡ []) new × (((replay (sink_floor new).seen).channels old.c).closed ≡ Some x)
StartedSo old new v (Err (fault.Spent u)) =
    (u ≡ v) × (new.wait ≡ None) × ActedBy old (λ acts. acts ≡ []) new
    × AtStep (sink_floor old) (sink_floor new) (IsSpentForOffers (sink_floor old).shape old.c)
StartedSo old new v (Err (fault.Cancelled u)) =
    (u ≡ v) × (new.wait ≡ None) × ActedBy old (SendsNone old.c v) new × Follows old.who old.c v (sink_floor old) (sink_floor new)

-- it takes each element
abbrev pub SinkTakes : SendSink → ℕ → Type 0
SinkTakes s x = Unit {0}

-- these are the elements that its coroutine gave to its channel up to now, in their order, those before the sink was made among them
abbrev pub SinkTook : SendSink → List ℕ → Type 0
SinkTook s xs = given s.c (acts_of s.who (sink_floor s).seen) ≡ xs
