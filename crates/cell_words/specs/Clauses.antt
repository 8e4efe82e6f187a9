-- A select's clauses: who may place one, and what a place tells it.
use Rattle.std.specs.Prelude.{◌≡◌, ℕ, ◌+◌, ◌≤◌, Bool, true, false, List, Option, Some, None}
use Rattle.co_base.specs.declared.names.WaitId.{WaitId}
use Rattle.channel_model.specs.declared.acts.Entry.{Entry}
use Rattle.channel_model.specs.declared.acts.Act.TheVariants.{Offer, Await}
use Rattle.channel_model.specs.Channels.{Shape, same_wait}
use Rattle.channel_model.specs.Histories.{replay}
use Rattle.channel_model.specs.Laws.{NoneBelow}
use Rattle.channel_model.specs.Needs.{JoinsWait}
use Rattle.channel_model.specs.Registers.{main_at, StandsReceiver, StandsOffer}
use Rattle.word_rules.specs.declared.cell_word.CellState.{CellState}
use Rattle.word_rules.specs.declared.cell_word.CellWord.{CellWord}
use Rattle.cell_words.specs.declared.found.At.{At}
use Rattle.cell_words.specs.declared.found.At.TheVariants as at
use Rattle.word_rules.specs.Cells.{spot}
use Rattle.word_rules.specs.Words.{number, IsCell}
use Rattle.cell_words.specs.Seen.{Seen, at_channel, Sees, Makes}
use Rattle.cell_words.specs.Answers.{OfferAt, ReceiveAt}

-- ---- the select's wait

-- it began at a cell, if it began
abbrev pub IsMainCell : Shape → Option WaitId → Type 0
IsMainCell shape None = Unit {0}
IsMainCell shape (Some w) = IsCell shape w.channel w.place

-- it did not begin at this place
abbrev pub BeganElsewhere : ℕ → ℕ → Option WaitId → Type 0
BeganElsewhere c p None = Unit {0}
BeganElsewhere c p (Some w) = same_wait w (spot c p) ≡ false

-- clause k of who may be placed at channel c: as the first of its select, or as one more of a wait that began at a cell
abbrev pub MayPlace : Shape → ℕ → ℕ → ℕ → Option WaitId → List Entry → Type 0
MayPlace shape who k c None log = (1 ≤ k) × (k ≤ 7)
MayPlace shape who k c (Some w) log = IsCell shape w.channel w.place × JoinsWait who k c ((replay log).waits w)

-- the word of a cell at which a clause waits: the first has its coroutine, another the number of the cell where the wait began
abbrev pub clause_word : Shape → CellState → ℕ → ℕ → Option WaitId → ℕ → CellWord
clause_word shape state v who None k = record { state = state; clause = k; own_wait = true; holder = who; value = v }
clause_word shape state v who (Some w) k =
    record { state = state; clause = k; own_wait = false; holder = number shape w.channel w.place; value = v }

-- ---- at a place

-- a clause that sends: it is placed whether or not the channel would keep the element
abbrev pub ClauseOfferAt : Shape → ℕ → ℕ → ℕ → Option WaitId → ℕ → ℕ → Seen → Seen → At → Type 0
ClauseOfferAt shape who c p main k v old new at.Spent = OfferAt shape who c p v old new at.Spent
ClauseOfferAt shape who c p main k v old new at.Open = ⊥
ClauseOfferAt shape who c p main k v old new at.Placed =
    Makes old (record { who = who; act = Offer c p v (main_at c p main) k }) new
ClauseOfferAt shape who c p main k v old new at.Put = ⊥
ClauseOfferAt shape who c p main k v old new (at.Waiting x) = OfferAt shape who c p v old new (at.Waiting x)
ClauseOfferAt shape who c p main k v old new (at.Kept y) = ⊥
ClauseOfferAt shape who c p main k v old new (at.Closed y) = OfferAt shape who c p v old new (at.Closed y)
ClauseOfferAt shape who c p main k v old new at.Gone = OfferAt shape who c p v old new at.Gone

-- a clause that receives
abbrev pub ClauseReceiveAt : Shape → ℕ → ℕ → ℕ → Option WaitId → ℕ → Seen → Seen → At → Type 0
ClauseReceiveAt shape who c p main k old new at.Spent = ReceiveAt shape who c p old new at.Spent
ClauseReceiveAt shape who c p main k old new at.Open = ⊥
ClauseReceiveAt shape who c p main k old new at.Placed =
    Makes old (record { who = who; act = Await c p (main_at c p main) k }) new
ClauseReceiveAt shape who c p main k old new at.Put = ⊥
ClauseReceiveAt shape who c p main k old new (at.Waiting x) = ReceiveAt shape who c p old new (at.Waiting x)
ClauseReceiveAt shape who c p main k old new (at.Kept y) = ReceiveAt shape who c p old new (at.Kept y)
ClauseReceiveAt shape who c p main k old new (at.Closed y) = ReceiveAt shape who c p old new (at.Closed y)
ClauseReceiveAt shape who c p main k old new at.Gone = ReceiveAt shape who c p old new at.Gone

-- ---- whether the other side stands

-- the receiver stands; or none does up to here
abbrev pub ReceiverStandsAt : ℕ → ℕ → Seen → Seen → Bool → Type 0
ReceiverStandsAt c p old new true = Sees old new × StandsReceiver c p (replay new.seen)
ReceiverStandsAt c p old new false = Sees old new × NoneBelow (p + 1) 0 (at_channel new.seen c)

-- an offer stood here at the beginning; or none stands up to here
abbrev pub OfferStandsAt : ℕ → ℕ → Seen → Seen → Bool → Type 0
OfferStandsAt c p old new true = Sees old new × StandsOffer c p (replay old.seen)
OfferStandsAt c p old new false = Sees old new × NoneBelow 0 (p + 1) (at_channel new.seen c)
