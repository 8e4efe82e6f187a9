-- What a select comes to, by cases on its answer: what it tells is noted, its acts are the entries that it added, and all of it was so.
use Rattle.std.specs.Prelude.{◌≡◌, ℕ, ◌+◌, ◌⊎◌, Bool, true, false, List, [], ◌∷◌, ◌++◌, length, map, Option, Some, None, Result, Ok, Err}
use Rattle.std.specs.List.{list_any}
use Rattle.co_base.specs.declared.names.WaitId.{WaitId}
use Rattle.co_base.specs.declared.names.Memory.{Memory}
use Rattle.channel_model.specs.declared.acts.Act.TheVariants.{Offer, Await, Settle}
use Rattle.channel_model.specs.declared.acts.ChannelNote.TheVariants.{Made, SendClosed, ReceiveClosed}
use Rattle.channel_model.specs.declared.floor.WaitState.TheVariants.{Standing}
use Rattle.channel_model.specs.Answers.{state_of_wait}
use Rattle.channel_model.specs.Floors.{AtStep}
use Rattle.note_book.specs.declared.book.Item.TheVariants as item
use Rattle.call_meaning.specs.Telling.{Told, note, heard}
use Rattle.call_meaning.specs.Prefixes.{PrefixOf}
use Rattle.call_meaning.specs.Seen.{SeenOnChannels}
use Rattle.call_meaning.specs.ChannelCalls.{Call, Answer, sends, receives, Done, Got, Waits, LooksAgain, NoPlace, AtOnce, blocked, PlacesFirst, SelectCall}
use Rattle.channel_calls.specs.Calls.{Tells}
use Rattle.select_calls.specs.declared.clause.Outcome.{Outcome}
use Rattle.select_calls.specs.declared.clause.Outcome.TheVariants as outcome
use Rattle.select_calls.specs.declared.clause.SelectAnswer.{SelectAnswer}
use Rattle.select_calls.specs.declared.clause.SelectAnswer.TheVariants as answer

-- a clause that is chosen tells this, and comes to this
pub data Meets : Call → Outcome → List Told → Type 0 where
  sent : (c v : ℕ) (group : List Told) → AtOnce (sends c v) group Done → Meets (sends c v) outcome.Sent group
  received : (c v : ℕ) (group : List Told) → AtOnce (receives c) group (Got v) → Meets (receives c) (outcome.Value v) group
  send_closed : (c v u : ℕ) → Meets (sends c v) (outcome.Closed u) (heard (SendClosed c v u) ∷ [])
  receive_closed : (c u : ℕ) → Meets (receives c) (outcome.Closed u) (heard (ReceiveClosed c u) ∷ [])

-- clause k is chosen: each clause before it is blocked, and it came to this
pub record Chooses (calls : List Call) (k : ℕ) (outcome : Outcome) (told : List Told) : Type 0 where
  pub passed : List Call
  pub later : List Call
  pub call : Call
  pub group : List Told
  pub clauses : calls ≡ passed ++ call ∷ later
  pub number : k ≡ length passed + 1
  pub meets : Meets call outcome group
  pub all : told ≡ map blocked passed ++ group

-- the wait stood at a moment of the call
abbrev pub HasStood : WaitId → SeenOnChannels → SeenOnChannels → Type 0
HasStood w old new = AtStep old.floor new.floor (λ s. state_of_wait (s.waits w) ≡ Some Standing)

-- ---- without memory

-- a clause is placed
abbrev pub places : Told → Bool
places (note (item.Channel (Made (Offer c q v w k)))) = true
places (note (item.Channel (Made (Await c q w k)))) = true
places other = false

-- a wait is settled
abbrev pub settles : Told → Bool
settles (note (item.Channel (Made (Settle w outcome)))) = true
settles other = false

-- the first clauses were placed with this wait
pub record NamesPlaced (calls : List Call) (w : WaitId) (told : List Told) : Type 0 where
  pub before : List Call
  pub later : List Call
  pub group : List Told
  pub rest : List Told
  pub clauses : calls ≡ before ++ later
  pub first : PlacesFirst w before group
  pub all : told ≡ map blocked calls ++ (group ++ rest)

-- the wait that is left is named: if none is, no clause was placed, or the wait was settled; one that is named is not
abbrev pub NamesLeft : List Call → Option WaitId → List Told → Type 0
NamesLeft calls None told = (list_any places told ≡ false) ⊎ (list_any settles told ≡ true)
NamesLeft calls (Some w) told = NamesPlaced calls w told × (list_any settles told ≡ false)

-- a select goes so, with some answer
abbrev pub SelectsSomehow : List Call → List Told → Type 0
SelectsSomehow calls told = (a : Answer) × SelectCall calls told a

-- what was told begins what a select may tell, and what it leaves is named
pub record StopsSelect (calls : List Call) (held : Option WaitId) (told : List Told) : Type 0 where
  pub part : PrefixOf (SelectsSomehow calls) told
  pub left : NamesLeft calls held told

abbrev pub SelectedAnswer : List Call → SeenOnChannels → SeenOnChannels → Option WaitId → Result SelectAnswer Memory
    → Type 0
SelectedAnswer calls old new held (Ok (answer.Chosen k outcome)) =
    (held ≡ None) × Tells (Chooses calls k outcome) old new
SelectedAnswer calls old new held (Ok answer.Waiting) =
    (w : WaitId) × (held ≡ Some w) × HasStood w old new × Tells (λ told. SelectCall calls told (Waits w)) old new
-- it looks again only if others make entries too
SelectedAnswer calls old new held (Ok answer.Again) =
    (held ≡ None) × (old.floor.alone ≡ true → ⊥) × Tells (λ told. SelectCall calls told LooksAgain) old new
SelectedAnswer calls old new held (Ok answer.Spent) =
    (held ≡ None) × Tells (λ told. SelectCall calls told NoPlace) old new
-- the entries made so far stand and are noted
SelectedAnswer calls old new held (Err m) = Tells (StopsSelect calls held) old new
