-- What each call comes to, by cases on its answer: what it tells is noted, its acts are the entries that it added, and all of it was so.
use Rattle.std.specs.Prelude.{◌≡◌, ℕ, Bool, true, false, List, [], ◌∷◌, ◌++◌, Some, Result, Ok, Err}
use mathlib.Core.List.{IsPrefix}
use Rattle.co_base.specs.declared.names.WaitId.{WaitId}
use Rattle.co_base.specs.declared.names.Memory.{Memory}
use Rattle.channel_model.specs.declared.acts.Act.{Act}
use Rattle.channel_model.specs.declared.acts.Act.TheVariants.{Withdraw, Settle}
use Rattle.channel_model.specs.declared.acts.ChannelNote.{ChannelNote}
use Rattle.channel_model.specs.declared.acts.ChannelNote.TheVariants.{SendClosed, TrySendClosed, ReceiveClosed, TryReceiveClosed, Late}
use Rattle.channel_model.specs.declared.acts.Entry.{Entry}
use Rattle.channel_model.specs.declared.acts.Kind.{Kind}
use Rattle.channel_model.specs.declared.acts.Settled.{Settled}
use Rattle.channel_model.specs.declared.acts.Settled.TheVariants as settled
use Rattle.channel_model.specs.declared.acts.Why.TheVariants as why
use Rattle.channel_model.specs.declared.floor.WaitState.TheVariants as state
use Rattle.channel_model.specs.Channels.{kind_at, is_signal}
use Rattle.channel_model.specs.Histories.{replay}
use Rattle.channel_model.specs.Floors.{Floor, AtMoment}
use Rattle.channel_model.specs.Answers.{IsFullAt, IsUnsettledOf, LookAnswer, IsSeenClosed, IsSeenVoided, outcome_at, state_of_wait}
use Rattle.channel_model.specs.PlainOffers.{plain_offer}
use Rattle.channel_model.specs.Puts.{after_put}
use Rattle.note_book.specs.declared.book.Item.{Item}
use Rattle.note_book.specs.Items.{channel_acts_in}
use Rattle.call_meaning.specs.Telling.{Told, on_channels, TakenBack, items_in, made, heard}
use Rattle.call_meaning.specs.Facts.{IsClosedWith}
use Rattle.call_meaning.specs.ChannelCalls.{Answer, Done, Got, Closed, Waits, NoPlace, Call, sends, receives, wait_at, offer_told, blocked, spent, Admits, Overflows, Closes, CancelsChannel, AtOnce, PlainCall, is_given_up}
use Rattle.call_meaning.specs.Prefixes.{PrefixOf}
use Rattle.call_meaning.specs.Seen.{SeenOnChannels, seen_channels, state_in}
use Rattle.call_meaning.specs.Calls.{ToldOnChannels}
use Rattle.channel_calls.specs.declared.caller.Caller.{Caller}
use Rattle.channel_calls.specs.declared.caller.SendAnswer.{SendAnswer}
use Rattle.channel_calls.specs.declared.caller.SendAnswer.TheVariants as send
use Rattle.channel_calls.specs.declared.caller.TriedAs.{TriedAs}
use Rattle.channel_calls.specs.declared.caller.TriedAs.TheVariants as tried_as
use Rattle.channel_calls.specs.declared.caller.TrySendAnswer.{TrySendAnswer}
use Rattle.channel_calls.specs.declared.caller.TrySendAnswer.TheVariants as try_send
use Rattle.channel_calls.specs.declared.caller.ReceiveAnswer.{ReceiveAnswer}
use Rattle.channel_calls.specs.declared.caller.ReceiveAnswer.TheVariants as receive
use Rattle.channel_calls.specs.declared.caller.TryReceiveAnswer.{TryReceiveAnswer}
use Rattle.channel_calls.specs.declared.caller.TryReceiveAnswer.TheVariants as try_receive

-- ---- what stays

-- the caller still holds the same floor, book and wakes, and is the same coroutine
pub record SameCaller {F B W A : Type 0} (anchor : F → A) (old new : Caller F B W) : Type 0 where
  pub floor : new.floor.ghost_name ≡ old.floor.ghost_name
  pub book : new.book.ghost_name ≡ old.book.ghost_name
  pub wakes : new.wakes.ghost_name ≡ old.wakes.ghost_name
  pub who : new.who ≡ old.who
  pub anchor_is : anchor new.floor.now ≡ anchor old.floor.now

-- what the caller sees of its floor and its book
abbrev pub seen : {F B W : Type 0} → (F → Floor) → (B → List Item) → Caller F B W → SeenOnChannels
seen view items caller = seen_channels view items caller.who caller.floor.now caller.book.now

-- the channel is none of those that carry no element
abbrev pub CarriesElements : ℕ → SeenOnChannels → Type 0
CarriesElements c seen = is_signal (kind_at seen.floor.shape c) ≡ false

-- no memory was found; nothing was made or noted
pub record IsUntouched (old new : SeenOnChannels) : Type 0 where
  pub who : new.who ≡ old.who
  pub floor : new.floor ≡ old.floor
  pub book : new.items ≡ old.items

-- ---- what is told

-- the call told this
pub record Tells (P : List Told → Type 0) (old new : SeenOnChannels) : Type 0 where
  pub told : List Told
  pub goes : P told
  pub left : ToldOnChannels old new told

-- no memory was found; what the call told by then begins a list that P accepts
abbrev pub ToldPart : (List Told → Type 0) → SeenOnChannels → SeenOnChannels → Type 0
ToldPart P old new = Tells (PrefixOf P) old new

-- a send or receive goes so
abbrev pub Goes : Call → Answer → List Told → Type 0
Goes call a told = PlainCall call told a

-- with some answer
abbrev pub GoesSomehow : Call → List Told → Type 0
GoesSomehow call told = (a : Answer) × PlainCall call told a

-- a call finds a partner, or room
abbrev pub GoesAtOnce : Call → Answer → List Told → Type 0
GoesAtOnce call a told = AtOnce call told a

-- with some answer
abbrev pub GoesAtOnceSomehow : Call → List Told → Type 0
GoesAtOnceSomehow call told = (a : Answer) × AtOnce call told a

abbrev pub Anything : List Told → Type 0
Anything told = Unit {0}

-- what the call told stands, whatever it is
abbrev pub ToldSome : SeenOnChannels → SeenOnChannels → Type 0
ToldSome old new = Tells Anything old new

-- ---- waits

-- the wait was seen, is the caller's, and did not end
abbrev pub HoldsWait : WaitId → SeenOnChannels → Type 0
HoldsWait w seen = IsUnsettledOf seen.who ((state_in seen).waits w)

-- when the call had made these acts its wait stood; it is the caller's, and did not end
pub record IsLeftWaiting (w : WaitId) (acts : List Act) (old new : SeenOnChannels) : Type 0 where
  pub stood : AtMoment old.who acts old.floor new.floor (λ s. state_of_wait (s.waits w) ≡ Some state.Standing)
  pub holds : HoldsWait w new

-- the call told this, and then a look found that the wait stood; it is the caller's, and did not end
pub record IsSeenWaiting (w : WaitId) (told : List Told) (old new : SeenOnChannels) : Type 0 where
  pub between : SeenOnChannels
  pub before : ToldOnChannels old between told
  pub look : LookAnswer between.who w between.floor new.floor state.Standing
  pub who : new.who ≡ between.who
  pub items : new.items ≡ between.items
  pub holds : HoldsWait w new

-- ---- closed channels

-- what a send or a receive that is tried notes of a channel closed with x
abbrev pub closed_note : TriedAs → Call → ℕ → ChannelNote
closed_note tried_as.Call (sends c v) x = TrySendClosed c v x
closed_note tried_as.Clause (sends c v) x = SendClosed c v x
closed_note tried_as.Call (receives c) x = TryReceiveClosed c x
closed_note tried_as.Clause (receives c) x = ReceiveClosed c x

-- ---- send

-- a send that was done: the element was handed or put, or its offer was received or kept before the call answered
pub data IsSent (c v : ℕ) : List Told → Type 0 where
  at_once : (group : List Told) → AtOnce (sends c v) group Done → IsSent c v group
  offered : (q : ℕ) (admits all : List Told) → Admits c admits
      → all ≡ offer_told c v q admits ++ made (Settle (wait_at c q) (settled.Sent 0)) ∷ [] → IsSent c v all

-- a send to a channel closed with x: it was refused, or its offer was removed with all others before the call answered
pub data IsUnsent (c v x : ℕ) : List Told → Type 0 where
  refused : IsUnsent c v x (heard (SendClosed c v x) ∷ [])
  voided : (q : ℕ) (admits all : List Told) → Admits c admits
      → all
      ≡ offer_told c v q admits
      ++ on_channels (TakenBack (wait_at c q)) ∷ made (Settle (wait_at c q) settled.Cancelled) ∷ []
      → IsUnsent c v x all

-- when the call placed its offer, at least as many offers stood as the channel keeps
pub record WasPlacedFull (c v place : ℕ) (old new : SeenOnChannels) : Type 0 where
  pub before : List Entry
  pub begins : IsPrefix old.floor.seen before
  pub placed : IsPrefix (before ++ plain_offer old.who c place v ∷ []) new.floor.seen
  pub full : IsFullAt old.floor.shape c (replay before)

abbrev pub SentAnswer : ℕ → ℕ → SeenOnChannels → SeenOnChannels → Result SendAnswer Memory → Type 0
SentAnswer c v old new (Ok send.Sent) = Tells (IsSent c v) old new
SentAnswer c v old new (Ok (send.Waits w)) =
    (t : Tells (Goes (sends c v) (Waits w)) old new)
    × IsSeenWaiting w t.told old new
    × WasPlacedFull c v w.place old new
SentAnswer c v old new (Ok (send.Closed x)) = Tells (IsUnsent c v x) old new × IsClosedWith c x (state_in new)
SentAnswer c v old new (Ok send.Spent) = Tells (Goes (sends c v) NoPlace) old new
SentAnswer c v old new (Err m) = ToldPart (GoesSomehow (sends c v)) old new

-- the same without waiting, as a call or as a clause
abbrev pub SendTriedAs : TriedAs → ℕ → ℕ → SeenOnChannels → SeenOnChannels → Result TrySendAnswer Memory → Type 0
SendTriedAs by c v old new (Ok try_send.Sent) = Tells (GoesAtOnce (sends c v) Done) old new
SendTriedAs by c v old new (Ok try_send.Full) = ToldOnChannels old new (blocked (sends c v) ∷ [])
SendTriedAs by c v old new (Ok (try_send.Closed x)) =
    ToldOnChannels old new (heard (closed_note by (sends c v) x) ∷ [])
SendTriedAs by c v old new (Ok try_send.Spent) = ToldOnChannels old new (spent (sends c v))
SendTriedAs by c v old new (Err m) = ToldPart (GoesAtOnceSomehow (sends c v)) old new

-- as a call
abbrev pub TrySentAnswer : ℕ → ℕ → SeenOnChannels → SeenOnChannels → Result TrySendAnswer Memory → Type 0
TrySentAnswer c v old new result = SendTriedAs tried_as.Call c v old new result

-- ---- receive

abbrev pub ReceivedAnswer : ℕ → SeenOnChannels → SeenOnChannels → Result ReceiveAnswer Memory → Type 0
ReceivedAnswer c old new (Ok (receive.Value v)) = Tells (Goes (receives c) (Got v)) old new
ReceivedAnswer c old new (Ok (receive.Waits w)) =
    (t : Tells (Goes (receives c) (Waits w)) old new)
    × IsLeftWaiting w (channel_acts_in (items_in t.told)) old new
ReceivedAnswer c old new (Ok (receive.Closed x)) = Tells (Goes (receives c) (Closed x)) old new
ReceivedAnswer c old new (Ok receive.Spent) = Tells (Goes (receives c) NoPlace) old new
ReceivedAnswer c old new (Err m) = ToldPart (GoesSomehow (receives c)) old new

-- the same without waiting, as a call or as a clause
abbrev pub ReceiveTriedAs : TriedAs → ℕ → SeenOnChannels → SeenOnChannels → Result TryReceiveAnswer Memory → Type 0
ReceiveTriedAs by c old new (Ok (try_receive.Value v)) = Tells (GoesAtOnce (receives c) (Got v)) old new
ReceiveTriedAs by c old new (Ok try_receive.Empty) = ToldOnChannels old new (blocked (receives c) ∷ [])
ReceiveTriedAs by c old new (Ok (try_receive.Closed x)) =
    ToldOnChannels old new (heard (closed_note by (receives c) x) ∷ [])
ReceiveTriedAs by c old new (Err m) = ToldPart (GoesAtOnceSomehow (receives c)) old new

-- as a call
abbrev pub TryReceivedAnswer : ℕ → SeenOnChannels → SeenOnChannels → Result TryReceiveAnswer Memory → Type 0
TryReceivedAnswer c old new result = ReceiveTriedAs tried_as.Call c old new result

-- ---- what follows an act

-- those were admitted for whom the channel has room
abbrev pub AdmittedAnswer : ℕ → SeenOnChannels → SeenOnChannels → Result (Unit {0}) Memory → Type 0
AdmittedAnswer c old new (Ok done) = Tells (Admits c) old new
AdmittedAnswer c old new (Err m) = ToldPart (Admits c) old new

-- what follows a Put at this place of a channel of this kind
pub record FollowsPut (kind : Kind) (c place : ℕ) (told : List Told) : Type 0 where
  pub overflows : Overflows c place told
  pub acts : after_put kind c place (channel_acts_in (items_in told)) ≡ true

abbrev pub AfterPutAnswer : ℕ → ℕ → SeenOnChannels → SeenOnChannels → Result (Unit {0}) Memory → Type 0
AfterPutAnswer c place old new (Ok done) = Tells (FollowsPut (kind_at old.floor.shape c) c place) old new
AfterPutAnswer c place old new (Err m) = ToldPart (FollowsPut (kind_at old.floor.shape c) c place) old new

-- ---- close and cancel

-- by this call, not before
abbrev pub closes_now : (c v : ℕ) (told : List Told) → Closes c v told → Bool
closes_now c v _ (Closes.now wakes h) = true
closes_now c v _ (Closes.before u wakes h) = false

-- the channel was closed by this call, or had been closed; then no receiver stands
pub record ClosesBy (c v : ℕ) (first : Bool) (told : List Told) : Type 0 where
  pub closes : Closes c v told
  pub by_this_call : closes_now c v told closes ≡ first

abbrev pub ClosedAnswer : ℕ → ℕ → SeenOnChannels → SeenOnChannels → Result Bool Memory → Type 0
ClosedAnswer c v old new (Ok first) = Tells (ClosesBy c v first) old new × IsSeenClosed c new.floor
ClosedAnswer c v old new (Err m) = ToldPart (Closes c v) old new

-- by this call, not before
abbrev pub cancels_now : (c : ℕ) (told : List Told) → CancelsChannel c told → Bool
cancels_now c told (CancelsChannel.now closes drains _ h m is) = true
cancels_now c told (CancelsChannel.before closes drains _ h m is) = false

-- the channel was closed with 0, or had been; then it was voided by this call, or had been, and no element is left
pub record CancelsBy (c : ℕ) (first : Bool) (told : List Told) : Type 0 where
  pub cancels : CancelsChannel c told
  pub by_this_call : cancels_now c told cancels ≡ first

abbrev pub CancelledChannelAnswer : ℕ → SeenOnChannels → SeenOnChannels → Result Bool Memory → Type 0
CancelledChannelAnswer c old new (Ok first) = Tells (CancelsBy c first) old new × IsSeenVoided c new.floor
CancelledChannelAnswer c old new (Err m) = ToldPart (CancelsChannel c) old new

-- ---- the end of a wait

-- a wait that was resolved ends so: where it ends as cancelled though its Job was not, it had been withdrawn or voided
abbrev pub end_told : WaitId → Bool → Settled → List Told
end_told w false settled.Cancelled = on_channels (TakenBack w) ∷ made (Settle w settled.Cancelled) ∷ []
end_told w false outcome = made (Settle w outcome) ∷ []
end_told w true outcome = made (Settle w outcome) ∷ []

abbrev pub DispatchedAnswer : WaitId → Bool → SeenOnChannels → SeenOnChannels → Result Settled Memory → Type 0
DispatchedAnswer w cancelled old new (Ok outcome) =
    ToldOnChannels old new (end_told w cancelled outcome) × (outcome_at cancelled ((state_in old).waits w) ≡ Some outcome)
DispatchedAnswer w cancelled old new (Err m) = IsUntouched old new

-- the wait was withdrawn, or that came too late; it ended so, for a Job that was cancelled, and then those were
-- admitted for whom its channel has room
pub data TakesBack (w : WaitId) : Settled → List Told → Type 0 where
  withdrawn : (admits : List Told) → Admits w.channel admits
      → TakesBack w settled.Cancelled (made (Withdraw w why.Cancelled) ∷ made (Settle w settled.Cancelled) ∷ admits)
  late : (outcome : Settled) (admits : List Told) → is_given_up outcome ≡ true → Admits w.channel admits
      → TakesBack w outcome (heard (Late w) ∷ made (Settle w outcome) ∷ admits)

-- with some outcome
abbrev pub TakesBackSomehow : WaitId → List Told → Type 0
TakesBackSomehow w told = (outcome : Settled) × TakesBack w outcome told

abbrev pub CancelledAnswer : WaitId → SeenOnChannels → SeenOnChannels → Result Settled Memory → Type 0
CancelledAnswer w old new (Ok outcome) = Tells (TakesBack w outcome) old new
CancelledAnswer w old new (Err m) = ToldPart (TakesBackSomehow w) old new
