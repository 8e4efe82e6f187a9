-- What the parts of calls come to.
use Rattle.std.specs.Prelude.{◌≡◌, ℕ, Bool, true, false, List, [], ◌∷◌, ◌++◌, map, Result, Ok, Err}
use Rattle.co_base.specs.declared.names.WaitId.{WaitId}
use Rattle.co_base.specs.declared.names.Memory.{Memory}
use Rattle.channel_model.specs.declared.acts.Act.TheVariants.{Admit, Close, Void, Withdraw, Settle}
use Rattle.channel_model.specs.declared.acts.ChannelNote.TheVariants.{AlreadyClosed, Late}
use Rattle.channel_model.specs.declared.acts.Settled.{Settled}
use Rattle.channel_model.specs.declared.acts.Settled.TheVariants as settled
use Rattle.channel_model.specs.declared.acts.Why.TheVariants as why
use Rattle.channel_model.specs.declared.floor.WaitState.TheVariants as state
use Rattle.channel_model.specs.declared.acts.Kind.{Kind}
use Rattle.channel_model.specs.Channels.{kind_at}
use Rattle.channel_model.specs.Answers.{LookAnswer, IsSeenClosed, IsSeenVoided}
use Rattle.channel_model.specs.Puts.{after_put}
use Rattle.note_book.specs.Items.{channel_acts_in}
use Rattle.call_meaning.specs.Telling.{Told, on_channels, TakenBack, NoneToAdmit, items_in, made, heard}
use Rattle.call_meaning.specs.Facts.{IsClosedWith}
use Rattle.call_meaning.specs.ChannelCalls.{Admits, Drops, Spurns, Wakes, Drains, is_given_up}
use Rattle.call_meaning.specs.Seen.{SeenOnChannels, state_in}
use Rattle.call_meaning.specs.Calls.{ToldOnChannels}
use Rattle.channel_calls.specs.declared.caller.SendAnswer.{SendAnswer}
use Rattle.channel_calls.specs.declared.caller.SendAnswer.TheVariants as send
use Rattle.channel_calls.specs.Calls.{Tells, ToldPart, IsUntouched, HoldsWait, IsSeenWaiting}

-- ---- to admit

-- each offer below the mark for which the channel has room was admitted
pub record AdmitsBelow (c mark : ℕ) (told : List Told) : Type 0 where
  pub places : List ℕ
  pub all : told ≡ map (λ q. made (Admit c q)) places ++ on_channels (NoneToAdmit c mark) ∷ []

abbrev pub AdmittedBelowAnswer : ℕ → ℕ → SeenOnChannels → SeenOnChannels → Result (Unit {0}) Memory → Type 0
AdmittedBelowAnswer c mark old new (Ok done) = Tells (AdmitsBelow c mark) old new
AdmittedBelowAnswer c mark old new (Err m) = ToldPart (AdmitsBelow c mark) old new

-- ---- what follows a put

-- the oldest elements were dropped that are too many
pub record DropsAfterPut (kind : Kind) (c place : ℕ) (told : List Told) : Type 0 where
  pub drops : Drops c place told
  pub acts : after_put kind c place (channel_acts_in (items_in told)) ≡ true

abbrev pub DroppedAnswer : ℕ → ℕ → SeenOnChannels → SeenOnChannels → Result (Unit {0}) Memory → Type 0
DroppedAnswer c place old new (Ok done) = Tells (DropsAfterPut (kind_at old.floor.shape c) c place) old new
DroppedAnswer c place old new (Err m) = ToldPart (DropsAfterPut (kind_at old.floor.shape c) c place) old new

-- the element itself was removed, or it was not one too many
pub record SpurnsAfterPut (kind : Kind) (c place : ℕ) (told : List Told) : Type 0 where
  pub spurns : Spurns c place told
  pub acts : after_put kind c place (channel_acts_in (items_in told)) ≡ true

abbrev pub SpurnedAnswer : ℕ → ℕ → SeenOnChannels → SeenOnChannels → Result (Unit {0}) Memory → Type 0
SpurnedAnswer c place old new (Ok done) = Tells (SpurnsAfterPut (kind_at old.floor.shape c) c place) old new
SpurnedAnswer c place old new (Err m) = IsUntouched old new

-- ---- to close

-- each receiver was told
abbrev pub WokenAnswer : ℕ → SeenOnChannels → SeenOnChannels → Result (Unit {0}) Memory → Type 0
WokenAnswer c old new (Ok done) = Tells (Wakes c) old new
WokenAnswer c old new (Err m) = ToldPart (Wakes c) old new

-- the channel was closed by this call, or had been
pub data ClosesOnce (c v : ℕ) : Bool → List Told → Type 0 where
  now : ClosesOnce c v true (made (Close c v) ∷ [])
  before : (u : ℕ) → ClosesOnce c v false (heard (AlreadyClosed c u) ∷ [])

abbrev pub ClosedOnceAnswer : ℕ → ℕ → SeenOnChannels → SeenOnChannels → Result Bool Memory → Type 0
ClosedOnceAnswer c v old new (Ok first) = Tells (ClosesOnce c v first) old new × IsSeenClosed c new.floor
ClosedOnceAnswer c v old new (Err m) = IsUntouched old new

-- ---- to cancel

-- the channel was voided by this call, or had been
abbrev pub void_told : ℕ → Bool → List Told
void_told c true = made (Void c) ∷ []
void_told c false = []

abbrev pub VoidedOnceAnswer : ℕ → SeenOnChannels → SeenOnChannels → Result Bool Memory → Type 0
VoidedOnceAnswer c old new (Ok first) = ToldOnChannels old new (void_told c first) × IsSeenVoided c new.floor
VoidedOnceAnswer c old new (Err m) = IsUntouched old new

-- each element was removed
abbrev pub DrainedAnswer : ℕ → SeenOnChannels → SeenOnChannels → Result (Unit {0}) Memory → Type 0
DrainedAnswer c old new (Ok done) = Tells (Drains c) old new
DrainedAnswer c old new (Err m) = ToldPart (Drains c) old new

-- ---- the own offer of a send, and the admits before

-- it was received or kept, it stands, or it was removed with the channel
abbrev pub OwnOfferAnswer : WaitId → SeenOnChannels → SeenOnChannels → Result SendAnswer Memory → Type 0
OwnOfferAnswer w old new (Ok send.Sent) = ToldOnChannels old new (made (Settle w (settled.Sent 0)) ∷ [])
OwnOfferAnswer w old new (Ok (send.Waits v)) =
    (v ≡ w) × (new.who ≡ old.who) × (new.items ≡ old.items) × LookAnswer old.who w old.floor new.floor state.Standing
    × HoldsWait w new
OwnOfferAnswer w old new (Ok (send.Closed x)) =
    ToldOnChannels old new (on_channels (TakenBack w) ∷ made (Settle w settled.Cancelled) ∷ [])
    × IsClosedWith w.channel x (state_in new)
OwnOfferAnswer w old new (Ok send.Spent) = ⊥
OwnOfferAnswer w old new (Err m) = IsUntouched old new

-- those were admitted for whom there is room, and then this came
pub record AdmitsThen (c : ℕ) (end told : List Told) : Type 0 where
  pub admits : List Told
  pub goes : Admits c admits
  pub all : told ≡ admits ++ end

-- both parts
abbrev pub HeldAnswer : WaitId → SeenOnChannels → SeenOnChannels → Result SendAnswer Memory → Type 0
HeldAnswer w old new (Ok send.Sent) =
    Tells (AdmitsThen w.channel (made (Settle w (settled.Sent 0)) ∷ [])) old new
HeldAnswer w old new (Ok (send.Waits v)) =
    (v ≡ w)
    × (t : Tells (Admits w.channel) old new)
    × IsSeenWaiting w t.told old new
HeldAnswer w old new (Ok (send.Closed x)) =
    Tells (AdmitsThen w.channel (on_channels (TakenBack w) ∷ made (Settle w settled.Cancelled) ∷ [])) old new
    × IsClosedWith w.channel x (state_in new)
HeldAnswer w old new (Ok send.Spent) = ⊥
HeldAnswer w old new (Err m) = ToldPart (Admits w.channel) old new

-- ---- the end of a wait that meets a cancellation

-- the wait was withdrawn, or that came too late, and it ended so
pub data EndsCancelled (w : WaitId) : Settled → List Told → Type 0 where
  withdrawn : EndsCancelled w settled.Cancelled (made (Withdraw w why.Cancelled) ∷ made (Settle w settled.Cancelled) ∷ [])
  late : (outcome : Settled) → is_given_up outcome ≡ true
      → EndsCancelled w outcome (heard (Late w) ∷ made (Settle w outcome) ∷ [])

abbrev pub EndedCancelledAnswer : WaitId → SeenOnChannels → SeenOnChannels → Result Settled Memory → Type 0
EndedCancelledAnswer w old new (Ok outcome) = Tells (EndsCancelled w outcome) old new
EndedCancelledAnswer w old new (Err m) = IsUntouched old new
