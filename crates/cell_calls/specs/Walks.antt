-- What walks along the cells come to, for one who may wait and for one who does not.
use Rattle.std.specs.Prelude.{◌≡◌, ℕ, ◌+◌, Bool, true, false, Some, None}
use Rattle.channel_model.specs.declared.floor.Offered.TheVariants as offered
use Rattle.channel_model.specs.declared.floor.TriedOffer.TheVariants as tried_offer
use Rattle.channel_model.specs.declared.floor.Got.TheVariants as got
use Rattle.channel_model.specs.declared.floor.TriedGot.TheVariants as tried_got
use Rattle.channel_model.specs.Channels.{Shape}
use Rattle.channel_model.specs.Laws.{NoneBelow}
use Rattle.channel_model.specs.Floors.{Floor}
use Rattle.channel_model.specs.Answers.{OfferAnswer, TriedOfferAnswer, GotAnswer, TriedGotAnswer}
use Rattle.cell_words.specs.declared.found.At.{At}
use Rattle.cell_words.specs.declared.found.At.TheVariants as at
use Rattle.cell_words.specs.Seen.{Seen, Sees, at_channel}
use Rattle.cell_words.specs.Answers.{HandsTo, ReceiveAt, TriedReceiveAt}
use Rattle.cell_calls.specs.declared.sending.Given.{Given}
use Rattle.cell_calls.specs.declared.sending.Given.TheVariants as given
use Rattle.cell_calls.specs.declared.sending.OfferWalk.{OfferWalk}
use Rattle.cell_calls.specs.declared.sending.OfferWalk.TheVariants as sent
use Rattle.cell_calls.specs.declared.receiving.ReceiveWalk.{ReceiveWalk}
use Rattle.cell_calls.specs.declared.receiving.ReceiveWalk.TheVariants as received

-- ---- one who offers

-- the first receiver was handed the element, after a moment at which the channel was open
pub record HandsWhileOpen (who c p v t : ℕ) (old new : Seen) : Type 0 where
  pub then : Seen
  pub sees : Sees old then
  pub was_open : (at_channel then.seen c).closed ≡ None
  pub hands : HandsTo who c p v t then new

-- or the channel was closed, or the receiver does not stand
abbrev pub GivenAt : ℕ → ℕ → ℕ → ℕ → Seen → Seen → Given → Type 0
GivenAt who c p v old new (given.Receiver t) = HandsWhileOpen who c p v t old new
GivenAt who c p v old new (given.Closed x) = Sees old new × ((at_channel new.seen c).closed ≡ Some x)
GivenAt who c p v old new given.Gone = Sees old new × NoneBelow (p + 1) 0 (at_channel new.seen c)

-- the walk in the words of the two calls
abbrev pub OfferWalked : Bool → ℕ → ℕ → ℕ → Floor → Floor → OfferWalk → Type 0
OfferWalked waits who c v old new (sent.Handed p t) = OfferAnswer who c v old new (offered.Handed p t)
OfferWalked waits who c v old new (sent.Put p) = OfferAnswer who c v old new (offered.Put p)
OfferWalked waits who c v old new (sent.Held p) = (waits ≡ true) × OfferAnswer who c v old new (offered.Held p)
OfferWalked waits who c v old new sent.Full = (waits ≡ false) × TriedOfferAnswer who c v old new tried_offer.Full
OfferWalked waits who c v old new (sent.Closed x) = OfferAnswer who c v old new (offered.Closed x)
OfferWalked waits who c v old new sent.Spent = OfferAnswer who c v old new offered.Spent

-- ---- one who receives

-- what is at a place: only one who may wait is placed
abbrev pub ReceiveHere : Bool → Shape → ℕ → ℕ → ℕ → Seen → Seen → At → Type 0
ReceiveHere waits shape who c p old new at.Spent = (waits ≡ true) × ReceiveAt shape who c p old new at.Spent
ReceiveHere waits shape who c p old new at.Open = (waits ≡ false) × TriedReceiveAt shape who c p old new at.Open
ReceiveHere waits shape who c p old new at.Placed = (waits ≡ true) × ReceiveAt shape who c p old new at.Placed
ReceiveHere waits shape who c p old new at.Put = ⊥
ReceiveHere waits shape who c p old new (at.Waiting x) = ReceiveAt shape who c p old new (at.Waiting x)
ReceiveHere waits shape who c p old new (at.Kept y) = ReceiveAt shape who c p old new (at.Kept y)
ReceiveHere waits shape who c p old new (at.Closed y) = ReceiveAt shape who c p old new (at.Closed y)
ReceiveHere waits shape who c p old new at.Gone = ReceiveAt shape who c p old new at.Gone

-- the walk in the words of the two calls
abbrev pub ReceiveWalked : Bool → ℕ → ℕ → Floor → Floor → ReceiveWalk → Type 0
ReceiveWalked waits who c old new (received.Taken p v t) = GotAnswer who c old new (got.Taken p v t)
ReceiveWalked waits who c old new (received.Waiting p) = (waits ≡ true) × GotAnswer who c old new (got.Waiting p)
ReceiveWalked waits who c old new received.Empty = (waits ≡ false) × TriedGotAnswer who c old new tried_got.Empty
ReceiveWalked waits who c old new (received.Closed x) = GotAnswer who c old new (got.Closed x)
ReceiveWalked waits who c old new received.Spent = (waits ≡ true) × GotAnswer who c old new got.Spent
