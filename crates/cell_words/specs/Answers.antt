-- What each kind of step asks, and what it tells.
use Rattle.std.specs.Prelude.{◌≡◌, ◌≢◌, ◌⊎◌, ℕ, ◌+◌, ◌*◌, ◌<◌, ◌≤◌, Bool, true, false, List, [], ◌++◌, length, Option, Some, None, is_some}
use Rattle.co_base.specs.declared.names.WaitId.{WaitId}
use Rattle.channel_model.specs.declared.acts.Entry.{Entry}
use Rattle.channel_model.specs.declared.acts.Act.TheVariants.{Offer, Hand, Await, Put, Admit, Spurn, Close, Void, WakeClosed, Withdraw}
use Rattle.channel_model.specs.declared.acts.Why.{Why}
use Rattle.channel_model.specs.declared.standing.Resolution.TheVariants as resolved
use Rattle.channel_model.specs.declared.standing.Standing.{Standing}
use Rattle.channel_model.specs.Channels.{Shape, same_wait, kind_at, is_full, drops, spurns}
use Rattle.channel_model.specs.Effects.{holder_at}
use Rattle.channel_model.specs.Histories.{replay, Legal}
use Rattle.channel_model.specs.Laws.{NoneBelow, IsResolvedAs}
use Rattle.channel_model.specs.Answers.{first_receiver, first_holder, owner_of_holder, IsOwnWait, IsResolvedWait, IsSpentForOffers, IsSpentForReceives, IsFullToTry, IsEmptyToTry, IsAdmittedBelow}
use Rattle.worded.specs.Exchanges.{MayEnter}
use Rattle.joined_words.specs.Seen.{view_of}
use Rattle.word_rules.specs.declared.cell_word.CellState.TheVariants as cell
use Rattle.word_rules.specs.declared.cell_word.CellWord.{CellWord}
use Rattle.word_rules.specs.declared.wait_word.WaitWord.{WaitWord}
use Rattle.cell_words.specs.declared.found.Admission.{Admission}
use Rattle.cell_words.specs.declared.found.Admission.TheVariants as admission
use Rattle.cell_words.specs.declared.found.At.{At}
use Rattle.cell_words.specs.declared.found.At.TheVariants as at
use Rattle.cell_words.specs.declared.found.End.{End}
use Rattle.cell_words.specs.declared.found.End.TheVariants as end
use Rattle.cell_words.specs.declared.found.Tried.{Tried}
use Rattle.cell_words.specs.declared.found.Tried.TheVariants as tried
use Rattle.cell_words.specs.declared.found.Holder.{Holder}
use Rattle.cell_words.specs.declared.found.Holder.TheVariants as holder
use Rattle.cell_words.specs.declared.found.Here.{Here}
use Rattle.cell_words.specs.declared.found.Here.TheVariants as here
use Rattle.cell_words.specs.declared.found.Removal.{Removal}
use Rattle.cell_words.specs.declared.found.Removal.TheVariants as removal
use Rattle.cell_words.specs.declared.found.Search.{Search}
use Rattle.cell_words.specs.declared.found.Search.TheVariants as search
use Rattle.cell_words.specs.declared.found.Waiter.{Waiter}
use Rattle.word_rules.specs.Cells.{receiver, offer, buffered, emptied, spot, cell_of, standing, gather}
use Rattle.word_rules.specs.Codes.{packed_cell, packed_wait}
use Rattle.cell_words.specs.Removals.{removal_act}
use Rattle.word_rules.specs.Words.{number, IsCell, PartyFits, plain_word, party_word, word_of_cell, CellFits, word_of_wait, WaitFits, WereKept, Fits, maker}
use Rattle.cell_words.specs.Seen.{Seen, at_channel, Sees, Makes, Turns}

-- ---- words

-- the cell has this word
abbrev pub IsCellWord : Shape → ℕ → ℕ → List Entry → CellWord → Type 0
IsCellWord shape c p log word = (word ≡ word_of_cell shape c p (cell_of log c p)) × CellFits shape (cell_of log c p)

-- the wait has this word
abbrev pub IsWaitWord : WaitId → List Entry → WaitWord → Type 0
IsWaitWord w log word = (word ≡ word_of_wait ((replay log).waits w)) × WaitFits ((replay log).waits w)

-- the number is that of a cell
pub record IsNumber (shape : Shape) (n : ℕ) : Type 0 where
  pub wait : WaitId
  pub at : IsCell shape wait.channel wait.place
  pub is : number shape wait.channel wait.place ≡ n

-- the cell of this number has this word; the wait that began there has this word
abbrev pub IsNumberedCell : Shape → ℕ → List Entry → CellWord → Type 0
IsNumberedCell shape n log word =
    (w : WaitId) → IsCell shape w.channel w.place → number shape w.channel w.place ≡ n → IsCellWord shape w.channel w.place log word

abbrev pub IsNumberedWait : Shape → ℕ → List Entry → WaitWord → Type 0
IsNumberedWait shape n log word =
    (w : WaitId) → IsCell shape w.channel w.place → number shape w.channel w.place ≡ n → IsWaitWord w log word

-- whatever others do, this entry is legal while the word is old, and turns it into new
abbrev pub MayTurn : Shape → ℕ → ℕ → ℕ → Entry → Seen → Type 0
MayTurn shape word old new e v = MayEnter (Legal shape) (Fits shape) maker (view_of v) word old new e

-- the entry was made where the cell was old, or the cell found has another word
abbrev pub CellAnswer : Shape → ℕ → ℕ → CellWord → Entry → Seen → Seen → Option CellWord → Type 0
CellAnswer shape c p old e v w None = Turns shape (2 * number shape c p) (packed_cell old) e v w
CellAnswer shape c p old e v w (Some found) = Sees v w × IsCellWord shape c p w.seen found × (packed_cell found ≢ packed_cell old)

-- the entry was made where the wait was old, or the wait found has another word
abbrev pub WaitAnswer : Shape → ℕ → WaitWord → Entry → Seen → Seen → Option WaitWord → Type 0
WaitAnswer shape n old e v w None = Turns shape (2 * n + 1) (packed_wait old) e v w
WaitAnswer shape n old e v w (Some found) = Sees v w × IsNumberedWait shape n w.seen found × (packed_wait found ≢ packed_wait old)

-- ---- who waits at a cell

-- the holder in the cell of place p tells the coroutine of the wait w, or the cell where it began
abbrev pub IsHolder : Shape → ℕ → ℕ → Holder → ℕ → WaitId → Type 0
IsHolder shape c p (holder.Own t) who w = (w ≡ spot c p) × (who ≡ t)
IsHolder shape c p (holder.At n) who w = (number shape w.channel w.place ≡ n) × (same_wait w (spot c p) ≡ false)

-- a wait of a coroutine, as the cell of place p names it
pub record IsHeld (shape : Shape) (c p : ℕ) (x : Waiter) (log : List Entry) : Type 0 where
  pub who : ℕ
  pub wait : WaitId
  pub holder : IsHolder shape c p x.holder who wait
  pub fits : PartyFits shape who wait x.clause
  pub owner : IsOwnWait who ((replay log).waits wait)

-- it was placed here to receive
pub record Receives (shape : Shape) (c p : ℕ) (x : Waiter) (log : List Entry) : Type 0 where
  pub held : IsHeld shape c p x log
  pub cell : cell_of log c p ≡ receiver held.who held.wait x.clause

-- it was placed here with an element
pub record Offers (shape : Shape) (c p : ℕ) (x : Waiter) (log : List Entry) : Type 0 where
  pub held : IsHeld shape c p x log
  pub cell : cell_of log c p ≡ offer x.value held.who held.wait x.clause

-- the coroutine of a wait, or nothing if the wait was resolved
abbrev pub OwnerAnswer : ℕ → WaitId → List Entry → Option ℕ → Type 0
OwnerAnswer who w log (Some t) = t ≡ who
OwnerAnswer who w log None = IsResolvedWait ((replay log).waits w)

-- ---- one who offers

abbrev pub OfferAt : Shape → ℕ → ℕ → ℕ → ℕ → Seen → Seen → At → Type 0
OfferAt shape who c p v old new at.Spent = Sees old new × IsSpentForOffers shape c (replay new.seen)
OfferAt shape who c p v old new at.Open = ⊥
OfferAt shape who c p v old new at.Placed = Makes old (record { who = who; act = Offer c p v (spot c p) 0 }) new
OfferAt shape who c p v old new at.Put = Makes old (record { who = who; act = Put c p v }) new
OfferAt shape who c p v old new (at.Waiting x) = Sees old new × NoneBelow p 0 (at_channel new.seen c) × Receives shape c p x new.seen
OfferAt shape who c p v old new (at.Kept y) = ⊥
OfferAt shape who c p v old new (at.Closed y) = Sees old new × ((at_channel new.seen c).closed ≡ Some y)
OfferAt shape who c p v old new at.Gone = Sees old new × NoneBelow (p + 1) 0 (at_channel new.seen c)

-- the offer was placed, after a moment at which the channel was full
pub record PlacedFull (shape : Shape) (who c p v : ℕ) (old new : Seen) : Type 0 where
  pub then : Seen
  pub sees : Sees old then
  pub full : is_full (kind_at shape c) (length (at_channel then.seen c).queue) ≡ true
  pub made : Makes then (record { who = who; act = Offer c p v (spot c p) 0 }) new

-- one who never waits is not placed: the channel was full at a moment
pub record WouldWait (shape : Shape) (c : ℕ) (old new : Seen) : Type 0 where
  pub then : Seen
  pub sees : Sees old then
  pub later : Sees then new
  pub full : IsFullToTry shape c (replay then.seen)

-- what is at a place: only one who may wait is placed, and waits only if the channel was full
abbrev pub OfferHere : Bool → Shape → ℕ → ℕ → ℕ → ℕ → Seen → Seen → At → Type 0
OfferHere waits shape who c p v old new at.Spent = OfferAt shape who c p v old new at.Spent
OfferHere waits shape who c p v old new at.Open = (waits ≡ false) × WouldWait shape c old new
OfferHere waits shape who c p v old new at.Placed = (waits ≡ true) × PlacedFull shape who c p v old new
OfferHere waits shape who c p v old new at.Put = OfferAt shape who c p v old new at.Put
OfferHere waits shape who c p v old new (at.Waiting x) = OfferAt shape who c p v old new (at.Waiting x)
OfferHere waits shape who c p v old new (at.Kept y) = ⊥
OfferHere waits shape who c p v old new (at.Closed y) = OfferAt shape who c p v old new (at.Closed y)
OfferHere waits shape who c p v old new at.Gone = OfferAt shape who c p v old new at.Gone

-- the first receiver, that of t, was handed the element
pub record HandsTo (who c p v t : ℕ) (old new : Seen) : Type 0 where
  pub made : Makes old (record { who = who; act = Hand c p v }) new
  pub to : first_receiver (replay (old.seen ++ made.others)) (at_channel (old.seen ++ made.others) c).receivers ≡ Some t

-- or it does not stand, and nobody does up to here
abbrev pub HandAnswer : ℕ → ℕ → ℕ → ℕ → Seen → Seen → Option ℕ → Type 0
HandAnswer who c p v old new (Some t) = HandsTo who c p v t old new
HandAnswer who c p v old new None = Sees old new × NoneBelow (p + 1) 0 (at_channel new.seen c)

-- ---- one who receives

abbrev pub ReceiveAt : Shape → ℕ → ℕ → ℕ → Seen → Seen → At → Type 0
ReceiveAt shape who c p old new at.Spent = Sees old new × IsSpentForReceives shape c (replay new.seen)
ReceiveAt shape who c p old new at.Open = ⊥
ReceiveAt shape who c p old new at.Placed = Makes old (record { who = who; act = Await c p (spot c p) 0 }) new
ReceiveAt shape who c p old new at.Put = ⊥
ReceiveAt shape who c p old new (at.Waiting x) = Sees old new × NoneBelow 0 p (at_channel new.seen c) × Offers shape c p x new.seen
ReceiveAt shape who c p old new (at.Kept y) = Sees old new × NoneBelow 0 p (at_channel new.seen c) × (cell_of new.seen c p ≡ buffered y)
ReceiveAt shape who c p old new (at.Closed y) =
    Sees old new × ((at_channel new.seen c).closed ≡ Some y) × ((at_channel new.seen c).queue ≡ [])
ReceiveAt shape who c p old new at.Gone = Sees old new × NoneBelow 0 (p + 1) (at_channel new.seen c)

-- one who never waits is not placed: the open channel was empty
abbrev pub TriedReceiveAt : Shape → ℕ → ℕ → ℕ → Seen → Seen → At → Type 0
TriedReceiveAt shape who c p old new at.Open = Sees old new × IsEmptyToTry c (replay new.seen)
TriedReceiveAt shape who c p old new at.Placed = ⊥
TriedReceiveAt shape who c p old new at.Spent = ⊥
TriedReceiveAt shape who c p old new at.Put = ⊥
TriedReceiveAt shape who c p old new (at.Waiting x) = ReceiveAt shape who c p old new (at.Waiting x)
TriedReceiveAt shape who c p old new (at.Kept y) = ReceiveAt shape who c p old new (at.Kept y)
TriedReceiveAt shape who c p old new (at.Closed y) = ReceiveAt shape who c p old new (at.Closed y)
TriedReceiveAt shape who c p old new at.Gone = ReceiveAt shape who c p old new at.Gone

-- ---- the first offer is removed

-- t waited with it, if somebody did
pub record RemovesFrom (by : Removal) (who c p v : ℕ) (t : Option ℕ) (old new : Seen) : Type 0 where
  pub made : Makes old (record { who = who; act = removal_act by c p v }) new
  pub from : first_holder (replay (old.seen ++ made.others)) (at_channel (old.seen ++ made.others) c).queue ≡ t

-- an offer that was admitted, so that its element is kept until its cell is emptied
pub record IsAdmitted (shape : Shape) (c p : ℕ) (x : Waiter) (log : List Entry) : Type 0 where
  pub who : ℕ
  pub wait : WaitId
  pub holder : IsHolder shape c p x.holder who wait
  pub fits : PartyFits shape who wait x.clause
  pub admitted : IsResolvedAs (resolved.Admitted x.clause) ((replay log).waits wait)
  pub cell : (cell_of log c p ≡ offer x.value who wait x.clause) ⊎ (cell_of log c p ≡ emptied x.value)

abbrev pub RemoveAnswer : Removal → Shape → ℕ → ℕ → ℕ → Waiter → Seen → Seen → Tried → Type 0
RemoveAnswer by shape who c p x old new (tried.Taken t) = RemovesFrom by who c p x.value (Some t) old new
RemoveAnswer by shape who c p x old new tried.Gone = Sees old new × NoneBelow 0 (p + 1) (at_channel new.seen c)
RemoveAnswer by shape who c p x old new tried.Admitted =
    Sees old new × NoneBelow 0 p (at_channel new.seen c) × IsAdmitted shape c p x new.seen

-- an element was put at this place, and may have been removed
abbrev pub WasPut : ℕ → ℕ → ℕ → List Entry → Type 0
WasPut c p v log = (cell_of log c p ≡ buffered v) ⊎ (cell_of log c p ≡ emptied v)

-- an element was put here, or an offer was admitted: the word of its cell until it is emptied
pub data IsKept (shape : Shape) (c p v : ℕ) (log : List Entry) (word : CellWord) : Type 0 where
  put : word ≡ plain_word cell.Buffered v → WasPut c p v log → IsKept shape c p v log word
  held : (x : Waiter) (a : IsAdmitted shape c p x log) → x.value ≡ v
      → word ≡ party_word shape c p cell.Offer v a.who a.wait x.clause → IsKept shape c p v log word

-- the element was removed where it was kept; or it was so before
abbrev pub EmptyAnswer : Removal → ℕ → ℕ → ℕ → ℕ → Seen → Seen → Bool → Type 0
EmptyAnswer by who c p v old new true = RemovesFrom by who c p v None old new
EmptyAnswer by who c p v old new false = Sees old new × NoneBelow 0 (p + 1) (at_channel new.seen c)

-- ---- offers, by place

-- the offer that stands at a place
abbrev pub stands : List Entry → ℕ → ℕ → Option Standing
stands log c p = standing (replay log).waits p (cell_of log c p)

-- what a count that looks at some places, and knows of the others what is decided of them, has come to up to a place: no more stand there
-- now; and so many did at the first moment, if an offer stands at the first place later on
pub record CountedPast (shape : Shape) (c low place count : ℕ) (first v : Seen) : Type 0 where
  pub upper : length (gather (stands v.seen c) place) ≤ count
  pub lower : (w : Seen) → Sees v w → Legal shape w.seen → is_some (stands w.seen c low) ≡ true
      → count ≤ length (gather (stands first.seen c) place)

-- more stand than the channel keeps, if it drops its oldest; or none stands at this place any more
abbrev pub IsOver : Shape → ℕ → ℕ → List Entry → Type 0
IsOver shape c p log = (stands log c p ≡ None) ⊎ (drops (kind_at shape c) (length (at_channel log c).queue) ≡ true)

-- the offer at this place was one too many when it was placed, if the channel does not keep its latest; or none stands there any more
abbrev pub WasTooMany : Shape → ℕ → ℕ → List Entry → Type 0
WasTooMany shape c p log = (stands log c p ≡ None) ⊎ (spurns (kind_at shape c) ((replay log).stood c p) ≡ true)

-- what a removal asks besides an element that stands first
abbrev pub MayRemove : Removal → Shape → ℕ → ℕ → List Entry → Type 0
MayRemove removal.Take shape c p log = Unit {0}
MayRemove removal.Drop shape c p log = IsOver shape c p log
MayRemove removal.Spurn shape c p log = WasTooMany shape c p log
MayRemove removal.Drain shape c p log = (at_channel log c).voided ≡ true

-- and where one waits with it, which a channel that drops or spurns has none of
abbrev pub MayRemoveHeld : Removal → ℕ → List Entry → Type 0
MayRemoveHeld removal.Take c log = Unit {0}
MayRemoveHeld removal.Drop c log = ⊥
MayRemoveHeld removal.Spurn c log = ⊥
MayRemoveHeld removal.Drain c log = (at_channel log c).voided ≡ true

-- the element was removed, wherever it stood; or it was so before
abbrev pub SpurnAt : ℕ → ℕ → ℕ → ℕ → Seen → Seen → Bool → Type 0
SpurnAt who c p v old new true = Makes old (record { who = who; act = Spurn c p v }) new
SpurnAt who c p v old new false = Sees old new × (stands new.seen c p ≡ None)

-- what stands at a place, for one who looks for offers
abbrev pub SenderAt : Shape → ℕ → ℕ → Seen → Seen → At → Type 0
SenderAt shape c p old new at.Spent = ⊥
SenderAt shape c p old new at.Open = Sees old new × ((at_channel new.seen c).next ≡ p)
SenderAt shape c p old new at.Placed = ⊥
SenderAt shape c p old new at.Put = ⊥
SenderAt shape c p old new (at.Waiting x) = Sees old new × Offers shape c p x new.seen
SenderAt shape c p old new (at.Kept y) = Sees old new × (cell_of new.seen c p ≡ buffered y)
SenderAt shape c p old new (at.Closed y) = Sees old new × ((at_channel new.seen c).next ≡ p)
SenderAt shape c p old new at.Gone = Sees old new × (p + 1 ≤ (at_channel new.seen c).next) × (stands new.seen c p ≡ None)

-- the offer of t at this place was admitted
pub record Admits (who c p t : ℕ) (old new : Seen) : Type 0 where
  pub made : Makes old (record { who = who; act = Admit c p }) new
  pub of : owner_of_holder (replay (old.seen ++ made.others)) (holder_at p (at_channel (old.seen ++ made.others) c).queue) ≡ Some t

-- or nobody waits with it any more: it is kept, or it is gone
abbrev pub AdmitAt : Shape → ℕ → ℕ → ℕ → Waiter → Seen → Seen → Admission → Type 0
AdmitAt shape who c p x old new (admission.Done t) = Admits who c p t old new
AdmitAt shape who c p x old new admission.Kept = Sees old new × IsAdmitted shape c p x new.seen
AdmitAt shape who c p x old new admission.Gone = Sees old new × (stands new.seen c p ≡ None)

-- ---- a walk for an offer to admit

-- somebody waits with the offer
abbrev pub waits_with : Option Standing → Bool
waits_with None = false
waits_with (Some o) = is_some o.holder

-- an element is kept at this place, or one was and is gone like all before it
pub record KeptHere (c p : ℕ) (log : List Entry) : Type 0 where
  pub kept : WereKept log c p (p + 1)
  pub given : p + 1 ≤ (at_channel log c).next
  pub nobody : waits_with (stands log c p) ≡ false
  pub behind : (q : ℕ) → q ≤ p → is_some (stands log c q) ≡ true → is_some (stands log c p) ≡ true

abbrev pub HereAnswer : ℕ → ℕ → ℕ → Seen → Seen → Here → Type 0
HereAnswer who c p old new (here.Done t) = Admits who c p t old new
HereAnswer who c p old new here.Kept = Sees old new × KeptHere c p new.seen
HereAnswer who c p old new here.Gone = Sees old new × (p + 1 ≤ (at_channel new.seen c).next) × (stands new.seen c p ≡ None)
HereAnswer who c p old new here.End = Sees old new × ((at_channel new.seen c).next ≡ p)

-- at a moment no offer below the mark might be admitted
pub record NothingToAdmit (shape : Shape) (c mark : ℕ) (old new : Seen) : Type 0 where
  pub then : Seen
  pub sees : Sees old then
  pub later : Sees then new
  pub nothing : IsAdmittedBelow shape c mark (replay then.seen)

-- an offer below the mark was admitted; or none might be; or none stands up to the place where the walk began
abbrev pub SearchAnswer : Shape → ℕ → ℕ → ℕ → ℕ → Seen → Seen → Search → Type 0
SearchAnswer shape who c low mark old new (search.Done p t) = Admits who c p t old new × (p < mark)
SearchAnswer shape who c low mark old new search.Nothing = NothingToAdmit shape c mark old new
SearchAnswer shape who c low mark old new search.Passed = Sees old new × NoneBelow 0 (low + 1) (at_channel new.seen c)

-- its place, and the coroutine that waits with it
abbrev pub AdmitBelowAnswer : Shape → ℕ → ℕ → ℕ → Seen → Seen → Option (ℕ × ℕ) → Type 0
AdmitBelowAnswer shape who c mark old new (Some x) = Admits who c x.0 x.1 old new × (x.0 < mark)
AdmitBelowAnswer shape who c mark old new None = NothingToAdmit shape c mark old new

-- ---- the end of a channel

abbrev pub EndAt : ℕ → ℕ → End → List Entry → Type 0
EndAt c p end.Used seen = p + 1 ≤ (at_channel seen c).next
EndAt c p end.Open seen = ((at_channel seen c).next ≡ p) × ((at_channel seen c).closed ≡ None)
EndAt c p (end.Closed x) seen = ((at_channel seen c).next ≡ p) × ((at_channel seen c).closed ≡ Some x)

abbrev pub CloseAt : ℕ → ℕ → ℕ → ℕ → Seen → Seen → End → Type 0
CloseAt who c p v old new end.Used = Sees old new × (p + 1 ≤ (at_channel new.seen c).next)
CloseAt who c p v old new end.Open = Makes old (record { who = who; act = Close c v }) new
CloseAt who c p v old new (end.Closed x) = Sees old new × ((at_channel new.seen c).closed ≡ Some x)

-- who stands at a place, for one who looks for receivers
abbrev pub ReceiverAt : Shape → ℕ → ℕ → Seen → Seen → At → Type 0
ReceiverAt shape c p old new at.Spent = ⊥
ReceiverAt shape c p old new at.Open = Sees old new × ((at_channel new.seen c).next ≡ p) × ((at_channel new.seen c).closed ≡ None)
ReceiverAt shape c p old new at.Placed = ⊥
ReceiverAt shape c p old new at.Put = ⊥
ReceiverAt shape c p old new (at.Waiting x) = Sees old new × NoneBelow p 0 (at_channel new.seen c) × Receives shape c p x new.seen
ReceiverAt shape c p old new (at.Kept y) = ⊥
ReceiverAt shape c p old new (at.Closed y) =
    Sees old new × ((at_channel new.seen c).closed ≡ Some y) × ((at_channel new.seen c).receivers ≡ [])
ReceiverAt shape c p old new at.Gone = Sees old new × NoneBelow (p + 1) 0 (at_channel new.seen c)

-- the first receiver, that of t, was told of the close
pub record Wakes (who c p t : ℕ) (old new : Seen) : Type 0 where
  pub made : Makes old (record { who = who; act = WakeClosed c p }) new
  pub to : first_receiver (replay (old.seen ++ made.others)) (at_channel (old.seen ++ made.others) c).receivers ≡ Some t

-- or it does not stand, and nobody does up to here
abbrev pub WakeAt : ℕ → ℕ → ℕ → Seen → Seen → Option ℕ → Type 0
WakeAt who c p old new (Some t) = Wakes who c p t old new
WakeAt who c p old new None = Sees old new × NoneBelow (p + 1) 0 (at_channel new.seen c)

-- the channel was cancelled, now or before
abbrev pub VoidAt : ℕ → ℕ → Seen → Seen → Bool → Type 0
VoidAt who c old new true = Makes old (record { who = who; act = Void c }) new
VoidAt who c old new false = Sees old new × ((at_channel new.seen c).voided ≡ true)

-- ---- the own wait

-- it was taken back, or somebody had resolved it
abbrev pub WithdrawAt : ℕ → WaitId → Why → Seen → Seen → Bool → Type 0
WithdrawAt who w why old new true = Makes old (record { who = who; act = Withdraw w why }) new
WithdrawAt who w why old new false = Sees old new × IsResolvedWait ((replay new.seen).waits w)
