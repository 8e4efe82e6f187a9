-- What the parts of a select come to.
use Rattle.std.specs.Prelude.{◌≡◌, ℕ, ◌+◌, ◌≤◌, ◌<◌, ◌⊎◌, Bool, true, false, List, [], ◌∷◌, ◌++◌, length, map, take, Option, Some, None, Result, Ok, Err, slice_get}
use Rattle.co_base.specs.declared.names.WaitId.{WaitId}
use Rattle.co_base.specs.declared.names.Memory.{Memory}
use Rattle.channel_model.specs.declared.acts.ChannelNote.TheVariants.{MainResolved, Late}
use Rattle.channel_model.specs.declared.floor.WaitState.TheVariants.{Standing}
use Rattle.channel_model.specs.Channels.{Shape, State, Wait, kind_at, suspends}
use Rattle.channel_model.specs.Answers.{IsFullToTry, IsEmptyToTry, state_of_wait}
use Rattle.channel_model.specs.Registers.{main_at}
use Rattle.note_book.specs.declared.book.Item.{Item}
use Rattle.note_book.specs.declared.book.Item.TheVariants as item
use Rattle.call_meaning.specs.Telling.{Told, heard}
use Rattle.call_meaning.specs.Prefixes.{PrefixOf}
use Rattle.call_meaning.specs.Calls.{ToldOnChannels}
use Rattle.call_meaning.specs.Seen.{SeenOnChannels, MayCallChannel, state_in}
use Rattle.call_meaning.specs.ChannelCalls.{Call, sends, receives, Answer, Waits, LooksAgain, NoPlace, Stops, blocked, spent, placed, revoked, PlacesFirst, AdmitsIn, SelectCall, channel_of}
use Rattle.channel_calls.specs.Calls.{Tells, ToldPart, GoesAtOnceSomehow, IsUntouched, HoldsWait}
use Rattle.select_calls.specs.declared.tries.Tried.{Tried}
use Rattle.select_calls.specs.declared.tries.Tried.TheVariants as tried
use Rattle.select_calls.specs.declared.tries.Tries.{Tries}
use Rattle.select_calls.specs.declared.tries.Tries.TheVariants as tries
use Rattle.select_calls.specs.declared.placing.Placed.{Placed}
use Rattle.select_calls.specs.declared.placing.Placed.TheVariants as placing
use Rattle.select_calls.specs.declared.placing.Placings.{Placings}
use Rattle.select_calls.specs.declared.placing.Placings.TheVariants as placings
use Rattle.select_calls.specs.Clauses.{MaySelect}
use Rattle.select_calls.specs.declared.clause.SelectAnswer.{SelectAnswer}
use Rattle.select_calls.specs.declared.clause.SelectAnswer.TheVariants as answer
use Rattle.select_calls.specs.Selects.{Meets, Chooses, HasStood, StopsSelect}

-- ---- the clauses are tried

-- a clause has to wait
abbrev pub BlockedAt : Shape → Call → State → Type 0
BlockedAt shape (sends c v) s = IsFullToTry shape c s
BlockedAt shape (receives c) s = IsEmptyToTry c s

-- it may wait on its channel
abbrev pub MayWait : Shape → Call → Type 0
MayWait shape (sends c v) = suspends (kind_at shape c) ≡ true
MayWait shape (receives c) = Unit {0}

-- each of them may
abbrev pub AllMayWait : Shape → List Call → Type 0
AllMayWait shape calls = (n : ℕ) (call : Call) → slice_get calls n ≡ Some call → MayWait shape call

-- if nobody else makes entries, no entry came, and the clause has to wait now
abbrev pub StillBlocked : Call → SeenOnChannels → SeenOnChannels → Type 0
StillBlocked call old new = old.floor.alone ≡ true → (new.floor.seen ≡ old.floor.seen) × BlockedAt old.floor.shape call (state_in new)

-- a send found no place
abbrev pub IsSpentSend : Call → List Told → Type 0
IsSpentSend (sends c v) told = told ≡ spent (sends c v)
IsSpentSend (receives c) told = ⊥

-- one clause was tried
abbrev pub TriedAnswer : Call → SeenOnChannels → SeenOnChannels → Result Tried Memory → Type 0
TriedAnswer call old new (Ok (tried.Ready o)) = Tells (Meets call o) old new
TriedAnswer call old new (Ok tried.Blocked) =
    ToldOnChannels old new (blocked call ∷ []) × MayWait old.floor.shape call × StillBlocked call old new
TriedAnswer call old new (Ok tried.Spent) = Tells (IsSpentSend call) old new
TriedAnswer call old new (Err m) = ToldPart (GoesAtOnceSomehow call) old new

-- clause n was tried
pub record TriedAt (calls : List Call) (n : ℕ) (old new : SeenOnChannels) (result : Result Tried Memory) : Type 0 where
  pub call : Call
  pub at : slice_get calls n ≡ Some call
  pub answer : TriedAnswer call old new result

-- the first n of these clauses are blocked
pub record AreBlocked (calls : List Call) (n : ℕ) (old new : SeenOnChannels) : Type 0 where
  pub told : ToldOnChannels old new (map blocked (take n calls))
  pub wait : (i : ℕ) (call : Call) → i < n → slice_get calls i ≡ Some call → MayWait old.floor.shape call
  pub same : old.floor.alone ≡ true → new.floor.seen ≡ old.floor.seen
  pub still : old.floor.alone ≡ true → (i : ℕ) (call : Call) → i < n → slice_get calls i ≡ Some call
      → BlockedAt old.floor.shape call (state_in new)

-- all clauses were tried, up to one that is chosen or finds no place
abbrev pub TriesAnswer : List Call → SeenOnChannels → SeenOnChannels → Result Tries Memory → Type 0
TriesAnswer calls old new (Ok (tries.Chosen k o)) = Tells (Chooses calls k o) old new
TriesAnswer calls old new (Ok tries.NoneReady) = AreBlocked calls (length calls) old new
TriesAnswer calls old new (Ok tries.Spent) = Tells (λ told. SelectCall calls told NoPlace) old new
TriesAnswer calls old new (Err m) = Tells (StopsSelect calls None) old new

pub record TriesAll (calls : List Call) (old new : SeenOnChannels) (result : Result Tries Memory) : Type 0 where
  pub answer : TriesAnswer calls old new result

-- ---- the clauses are placed

-- the wait is who's, not settled, and has these clauses
abbrev pub HasClauses : ℕ → List (ℕ × ℕ) → Option Wait → Type 0
HasClauses who clauses None = ⊥
HasClauses who clauses (Some x) = (x.owner ≡ who) × (x.clauses ≡ clauses) × (x.settled ≡ None)

-- clauses numbered from n, each with its channel
abbrev pub numbered : ℕ → List Call → List (ℕ × ℕ)
numbered n [] = []
numbered n (call ∷ calls) = (n, channel_of call) ∷ numbered (n + 1) calls

-- the select's wait, if it has begun, has these clauses
abbrev pub HasPlaced : Option WaitId → List (ℕ × ℕ) → SeenOnChannels → Type 0
HasPlaced None clauses seen = clauses ≡ []
HasPlaced (Some w) clauses seen = HasClauses seen.who clauses ((state_in seen).waits w)

-- clause k was placed, and its select has this wait
pub record PlacedAt (call : Call) (main : Option WaitId) (k : ℕ) (w : WaitId) (old new : SeenOnChannels) : Type 0 where
  pub place : ℕ
  pub wait : w ≡ main_at (channel_of call) place main
  pub told : ToldOnChannels old new (placed w k place call ∷ [])
  pub clauses : (before : List (ℕ × ℕ)) → HasPlaced main before old
      → HasPlaced (Some w) (before ++ (k, channel_of call) ∷ []) new
  -- a wait that begins here stands
  pub begins : main ≡ None → state_of_wait ((state_in new).waits w) ≡ Some Standing
  -- if nobody else makes entries, the other channels stay as they were
  pub others : old.floor.alone ≡ true → (c : ℕ) → (c ≡ channel_of call → ⊥) → (state_in new).channels c ≡ (state_in old).channels c

-- the clause that was to be placed has changed
abbrev pub Stopped : Call → Answer → Option WaitId → SeenOnChannels → SeenOnChannels → Type 0
Stopped call a main old new =
    Tells (λ told. Stops call told a) old new
    × ((clauses : List (ℕ × ℕ)) → HasPlaced main clauses old → HasPlaced main clauses new)

-- the select's wait was seen resolved
abbrev pub ResolvedAfter : Option WaitId → List Told → Type 0
ResolvedAfter None told = ⊥
ResolvedAfter (Some w) told = told ≡ heard (MainResolved w) ∷ []

abbrev pub NotesResolved : Option WaitId → List Item → List Item → Type 0
NotesResolved None i i' = i' ≡ i
NotesResolved (Some w) i i' = i' ≡ i ++ item.Channel (MainResolved w) ∷ []

-- one clause was placed
abbrev pub PlacedAnswer : Call → Option WaitId → ℕ → SeenOnChannels → SeenOnChannels → Result Placed Memory → Type 0
PlacedAnswer call main k old new (Ok (placing.Stands w)) = PlacedAt call main k w old new
PlacedAnswer call main k old new (Ok placing.Resolved) =
    Tells (ResolvedAfter main) old new
    × ((clauses : List (ℕ × ℕ)) → HasPlaced main clauses old → HasPlaced main clauses new)
PlacedAnswer call main k old new (Ok placing.Changed) =
    Stopped call LooksAgain main old new × (old.floor.alone ≡ true → BlockedAt old.floor.shape call (state_in old) → ⊥)
PlacedAnswer call main k old new (Ok placing.Spent) = Stopped call NoPlace main old new
PlacedAnswer call main k old new (Err m) = IsUntouched old new

-- clause n was placed, if it could be; its number is one more
pub record PlacesAt (calls : List Call) (n : ℕ) (main : Option WaitId) (old new : SeenOnChannels) (result : Result Placed Memory) : Type 0
  where
    pub call : Call
    pub at : slice_get calls n ≡ Some call
    pub answer : PlacedAnswer call main (n + 1) old new result

-- clause n may be placed after those before it
pub record MayPlaceAt (calls : List Call) (n : ℕ) (main : Option WaitId) (seen : SeenOnChannels) : Type 0 where
  pub may : MaySelect calls seen
  pub there : n < length calls
  pub waits : (call : Call) → slice_get calls n ≡ Some call → MayWait seen.floor.shape call
  pub placed : HasPlaced main (numbered 1 (take n calls)) seen
  pub begun : (w : WaitId) → main ≡ Some w → 0 < n

-- the first n clauses were placed with this wait
pub record IsPlacing (calls : List Call) (n : ℕ) (w : WaitId) (group : List Told) (old new : SeenOnChannels) : Type 0 where
  pub first : PlacesFirst w (take n calls) group
  pub clauses : HasClauses new.who (numbered 1 (take n calls)) ((state_in new).waits w)
  pub stood : HasStood w old new

abbrev pub ArePlaced : List Call → ℕ → Option WaitId → List Told → SeenOnChannels → SeenOnChannels → Type 0
ArePlaced calls n None group old new = (n ≡ 0) × (group ≡ [])
ArePlaced calls n (Some w) group old new = IsPlacing calls n w group old new

-- so far
pub record PlacedSoFar (calls : List Call) (n : ℕ) (main : Option WaitId) (old new : SeenOnChannels) : Type 0 where
  pub group : List Told
  pub placed : ArePlaced calls n main group old new
  pub told : ToldOnChannels old new group

-- and then this was told
pub record PlacedAndThen (calls : List Call) (n : ℕ) (main : Option WaitId) (P : List Told
    → Type 0) (old new : SeenOnChannels) : Type 0 where
  pub group : List Told
  pub then_told : List Told
  pub placed : ArePlaced calls n main group old new
  pub goes : P then_told
  pub told : ToldOnChannels old new (group ++ then_told)

-- the clause after those that were placed stops the select
abbrev pub StopsAt : List Call → ℕ → Answer → List Told → Type 0
StopsAt calls n a told = (call : Call) × (slice_get calls n ≡ Some call) × Stops call told a

-- all clauses were placed, up to one that stops it
abbrev pub PlacingsAnswer : List Call → SeenOnChannels → SeenOnChannels → Option WaitId → Result Placings Memory → Type 0
PlacingsAnswer calls old new main (Ok placings.All) = PlacedSoFar calls (length calls) main old new
PlacingsAnswer calls old new main (Ok (placings.Resolved n)) =
    (n < length calls) × PlacedAndThen calls n main (ResolvedAfter main) old new
PlacingsAnswer calls old new main (Ok (placings.Changed n)) =
    PlacedAndThen calls n main (StopsAt calls n LooksAgain) old new
    × (old.floor.alone ≡ true
    → ((i : ℕ) (call : Call) → slice_get calls i ≡ Some call → BlockedAt old.floor.shape call (state_in old)) → ⊥)
PlacingsAnswer calls old new main (Ok (placings.Spent n)) =
    PlacedAndThen calls n main (StopsAt calls n NoPlace) old new
PlacingsAnswer calls old new main (Err m) =
    (n : ℕ) × PlacedSoFar calls n main old new

pub record PlacesAll (calls : List Call) (old new : SeenOnChannels) (main : Option WaitId) (result : Result Placings Memory) : Type 0 where
  pub answer : PlacingsAnswer calls old new main result

-- ---- what was placed is withdrawn

abbrev pub RevokedAnswer : WaitId → SeenOnChannels → SeenOnChannels → Result Bool Memory → Type 0
RevokedAnswer w old new (Ok true) = ToldOnChannels old new (revoked w)
RevokedAnswer w old new (Ok false) = ToldOnChannels old new (heard (Late w) ∷ [])
RevokedAnswer w old new (Err m) = IsUntouched old new

abbrev pub AdmittedAnswer : Call → SeenOnChannels → SeenOnChannels → Result (Unit {0}) Memory → Type 0
AdmittedAnswer call old new (Ok done) = Tells (AdmitsIn (call ∷ [])) old new
AdmittedAnswer call old new (Err m) = ToldPart (AdmitsIn (call ∷ [])) old new

-- those were admitted for whom the channel has room in which clause n offered
pub record AdmitsAt (calls : List Call) (n : ℕ) (old new : SeenOnChannels) (result : Result (Unit {0}) Memory) : Type 0 where
  pub call : Call
  pub at : slice_get calls n ≡ Some call
  pub answer : AdmittedAnswer call old new result

-- those were admitted for whom the channels have room in which the first n clauses offered
abbrev pub AdmittedInAnswer : List Call → SeenOnChannels → SeenOnChannels → Result (Unit {0}) Memory → Type 0
AdmittedInAnswer calls old new (Ok done) = Tells (AdmitsIn calls) old new
AdmittedInAnswer calls old new (Err m) = ToldPart (AdmitsIn calls) old new

-- the wait of the clauses that were placed may be withdrawn
pub record MayStop (calls : List Call) (n : ℕ) (held : Option WaitId) (seen : SeenOnChannels) : Type 0 where
  pub may : MaySelect calls seen
  pub within : n ≤ length calls
  pub wait : (w : WaitId) → held ≡ Some w → MayCallChannel w.channel seen × HoldsWait w seen

-- the wait was withdrawn, and then those were admitted who could be
pub record Revokes (calls : List Call) (n : ℕ) (w : WaitId) (told : List Told) : Type 0 where
  pub admits : List Told
  pub admits_are : AdmitsIn (take n calls) admits
  pub all : told ≡ revoked w ++ admits

-- that came too late
pub record ComesLate (calls : List Call) (n : ℕ) (w : WaitId) (told : List Told) : Type 0 where
  pub admits : List Told
  pub admits_are : AdmitsIn (take n calls) admits
  pub all : told ≡ heard (Late w) ∷ admits

-- what was placed was withdrawn, if something was, and this is answered; else the select waits
abbrev pub StopsSo : List Call → ℕ → SelectAnswer → SeenOnChannels → SeenOnChannels → Option WaitId → Option WaitId
    → SelectAnswer → Type 0
StopsSo calls n asked old new None held' a = (a ≡ asked) × (held' ≡ None) × (new ≡ old)
StopsSo calls n asked old new (Some w) held' a =
    ((a ≡ asked) × (held' ≡ None) × Tells (Revokes calls n w) old new)
    ⊎ ((a ≡ answer.Waiting) × (held' ≡ Some w) × Tells (ComesLate calls n w) old new)

-- the wait was withdrawn, and then some of those were admitted
pub record RevokesPart (calls : List Call) (n : ℕ) (w : WaitId) (told : List Told) : Type 0 where
  pub admits : List Told
  pub part : PrefixOf (AdmitsIn (take n calls)) admits
  pub all : told ≡ revoked w ++ admits

-- without memory: the wait was withdrawn; or that came too late, or was not tried, and the wait is left
abbrev pub StopsPart : List Call → ℕ → SeenOnChannels → SeenOnChannels → Option WaitId → Option WaitId → Type 0
StopsPart calls n old new None held' = ⊥
StopsPart calls n old new (Some w) held' =
    ((held' ≡ None) × Tells (RevokesPart calls n w) old new)
    ⊎ ((held' ≡ Some w) × ToldPart (ComesLate calls n w) old new)

abbrev pub StoppedAnswer : List Call → ℕ → SelectAnswer → SeenOnChannels → SeenOnChannels → Option WaitId → Option WaitId
    → Result SelectAnswer Memory → Type 0
StoppedAnswer calls n asked old new held held' (Ok a) = StopsSo calls n asked old new held held' a
StoppedAnswer calls n asked old new held held' (Err m) = StopsPart calls n old new held held'

pub record WasStopped (calls : List Call) (n : ℕ) (asked : SelectAnswer) (old new : SeenOnChannels)
    (held held' : Option WaitId) (result : Result SelectAnswer Memory) : Type 0 where
  pub answer : StoppedAnswer calls n asked old new held held' result

-- ---- after the tries, all of which were blocked

-- without memory: what was told by then, and the wait that is left
abbrev pub StopsBehind : List Call → Option WaitId → List Told → Type 0
StopsBehind calls held told = StopsSelect calls held (map blocked calls ++ told)

-- after blocked clauses this is told
abbrev pub SelectsBehind : List Call → Answer → List Told → Type 0
SelectsBehind calls a told = SelectCall calls (map blocked calls ++ told) a

abbrev pub WaitedAnswer : List Call → SeenOnChannels → SeenOnChannels → Option WaitId → Result SelectAnswer Memory → Type 0
WaitedAnswer calls old new held (Ok (answer.Chosen k o)) = ⊥
WaitedAnswer calls old new held (Ok answer.Waiting) =
    (w : WaitId) × (held ≡ Some w) × HasStood w old new × Tells (SelectsBehind calls (Waits w)) old new
WaitedAnswer calls old new held (Ok answer.Again) =
    (held ≡ None) × Tells (SelectsBehind calls LooksAgain) old new
    × (old.floor.alone ≡ true
    → ((n : ℕ) (call : Call) → slice_get calls n ≡ Some call → BlockedAt old.floor.shape call (state_in old)) → ⊥)
WaitedAnswer calls old new held (Ok answer.Spent) = (held ≡ None) × Tells (SelectsBehind calls NoPlace) old new
WaitedAnswer calls old new held (Err m) = Tells (StopsBehind calls held) old new

pub record Waited (calls : List Call) (old new : SeenOnChannels) (held : Option WaitId) (result : Result SelectAnswer Memory) : Type 0 where
  pub answer : WaitedAnswer calls old new held result
