-- What one call on a channel tells, and how it is answered.
use Rattle.std.specs.Prelude.{◌≡◌, ℕ, ◌+◌, Bool, true, false, List, [], ◌∷◌, ◌++◌, map}
use Rattle.co_base.specs.declared.names.WaitId.{WaitId}
use Rattle.channel_model.specs.declared.acts.Act.TheVariants.{Hand, Put, Offer, Await, Take, Admit, Drop, Spurn, Close, Void, Drain, WakeClosed, Withdraw, Settle}
use Rattle.channel_model.specs.declared.acts.Why.TheVariants as why
use Rattle.channel_model.specs.declared.acts.Settled.{Settled}
use Rattle.channel_model.specs.declared.acts.Settled.TheVariants as settled
use Rattle.channel_model.specs.declared.acts.ChannelNote.TheVariants.{SendClosed, TrySendClosed, ReceiveClosed, TryReceiveClosed, AlreadyClosed, Full, Empty, Spent, Partner, MainResolved, Late}
use Rattle.call_meaning.specs.Telling.{Told, on_channels, WasFull, SpentForOffers, SpentForReceives, ReceiverAt, OfferAt, NextIs, NoneToAdmit, FitsUpTo, StandsWithRoom, NoReceiver, IsVoided, NothingQueued, TakenBack, made, heard}

-- what is asked of a channel: to send it an element, or to receive from it
pub data Call : Type 0 where
  sends : (c v : ℕ) → Call
  receives : (c : ℕ) → Call

abbrev pub channel_of : Call → ℕ
channel_of (sends c v) = c
channel_of (receives c) = c

-- it is done, and nothing was received; an element was received; a receive met a channel closed with v; it waits; the
-- channel has no place left; a select has to look again
pub data Answer : Type 0 where
  Done : Answer
  Got : (v : ℕ) → Answer
  Closed : (v : ℕ) → Answer
  Waits : (w : WaitId) → Answer
  NoPlace : Answer
  LooksAgain : Answer

abbrev pub wait_at : ℕ → ℕ → WaitId
wait_at c place = record { channel = c; place = place }

-- ---- what follows an act: repeated until nothing is owed

-- Admit*: after a take, an offer or a withdrawal, each offer below a mark that has room is kept
pub record Admits (c : ℕ) (group : List Told) : Type 0 where
  pub mark : ℕ
  pub places : List ℕ
  pub all : group
      ≡ on_channels (NextIs c mark) ∷ (map (λ q. made (Admit c q)) places ++ on_channels (NoneToAdmit c mark) ∷ [])

-- Drop*: after a put at place q, until the elements up to it fit
pub record Drops (c q : ℕ) (group : List Told) : Type 0 where
  pub dropped : List (ℕ × ℕ)
  pub all : group ≡ map (λ d. made (Drop c d.0 d.1)) dropped ++ on_channels (FitsUpTo c q) ∷ []

-- after a put at place q: Spurn, and the element itself is gone; or it does not stand, or not behind too many
pub data Spurns (c q : ℕ) : List Told → Type 0 where
  gone : (v : ℕ) → Spurns c q (made (Spurn c q v) ∷ [])
  stays : Spurns c q (on_channels (StandsWithRoom c q) ∷ [])

-- Drop*, then Spurn or nothing: what follows a put at place q
pub record Overflows (c q : ℕ) (group : List Told) : Type 0 where
  pub drops : List Told
  pub spurns : List Told
  pub dropped : Drops c q drops
  pub spurned : Spurns c q spurns
  pub all : group ≡ drops ++ spurns

-- WakeClosed*: after a close, until no receiver stands
pub record Wakes (c : ℕ) (group : List Told) : Type 0 where
  pub places : List ℕ
  pub all : group ≡ map (λ q. made (WakeClosed c q)) places ++ on_channels (NoReceiver c) ∷ []

-- Drain*: after a void, until nothing is queued
pub record Drains (c : ℕ) (group : List Told) : Type 0 where
  pub drained : List (ℕ × ℕ)
  pub all : group
      ≡ map (λ d. made (Drain c d.0 d.1)) drained ++ on_channels (NothingQueued c) ∷ on_channels (IsVoided c) ∷ []

-- ---- close

-- the channel is closed with v, or had been closed, and its receivers are told
pub data Closes (c v : ℕ) : List Told → Type 0 where
  now : (wakes : List Told) → Wakes c wakes → Closes c v (made (Close c v) ∷ wakes)
  before : (u : ℕ) (wakes : List Told) → Wakes c wakes → Closes c v (heard (AlreadyClosed c u) ∷ wakes)

-- the channel is closed with 0, then voided, or had been, and what it holds is removed
pub data CancelsChannel (c : ℕ) : List Told → Type 0 where
  now : (closes drains all : List Told) → Closes c 0 closes → Drains c drains → all ≡ closes ++ made (Void c) ∷ drains
      → CancelsChannel c all
  before : (closes drains all : List Told) → Closes c 0 closes → Drains c drains → all ≡ closes ++ drains
      → CancelsChannel c all

-- ---- what each of these calls may meet

-- a partner, or room
pub data AtOnce : Call → List Told → Answer → Type 0 where
  hands : (c v q : ℕ) → AtOnce (sends c v) (made (Hand c q v) ∷ []) Done
  puts : (c v q : ℕ) (more : List Told) → Overflows c q more → AtOnce (sends c v) (made (Put c q v) ∷ more) Done
  takes : (c v q : ℕ) (admits : List Told) → Admits c admits
      → AtOnce (receives c) (made (Take c q v) ∷ admits) (Got v)

-- a closed channel
pub data Refused : Call → Told → Answer → Type 0 where
  send : (c v u : ℕ) → Refused (sends c v) (heard (SendClosed c v u)) Done
  receive : (c u : ℕ) → Refused (receives c) (heard (ReceiveClosed c u)) (Closed u)

pub data TryRefused : Call → Told → Type 0 where
  send : (c v u : ℕ) → TryRefused (sends c v) (heard (TrySendClosed c v u))
  receive : (c u : ℕ) → TryRefused (receives c) (heard (TryReceiveClosed c u))

-- neither
abbrev pub blocked : Call → Told
blocked (sends c v) = heard (Full c v)
blocked (receives c) = heard (Empty c)

-- no place left
abbrev pub spent : Call → List Told
spent (sends c v) = on_channels (SpentForOffers c) ∷ heard (Spent c) ∷ []
spent (receives c) = on_channels (SpentForReceives c) ∷ heard (Spent c) ∷ []

-- ---- the calls

-- how a send ends whose own offer was taken or kept, or removed with its channel, before it answered
pub data EndsAtOnce (w : WaitId) : List Told → Type 0 where
  sent : EndsAtOnce w (made (Settle w (settled.Sent 0)) ∷ [])
  voided : EndsAtOnce w (on_channels (TakenBack w) ∷ made (Settle w settled.Cancelled) ∷ [])

-- an offer at place q of a channel that keeps no more, with a wait of its own
abbrev pub offer_told : ℕ → ℕ → ℕ → List Told → List Told
offer_told c v q admits = on_channels (WasFull c) ∷ made (Offer c q v (wait_at c q) 0) ∷ admits

-- `send` and `receive`
pub data PlainCall : Call → List Told → Answer → Type 0 where
  at_once : (call : Call) (group : List Told) (a : Answer) → AtOnce call group a → PlainCall call group a
  refused : (call : Call) (told : Told) (a : Answer) → Refused call told a → PlainCall call (told ∷ []) a
  no_place : (call : Call) (all : List Told) → all ≡ spent call → PlainCall call all NoPlace
  offers : (c v q : ℕ) (admits : List Told) → Admits c admits
      → PlainCall (sends c v) (offer_told c v q admits) (Waits (wait_at c q))
  offer_ends : (c v q : ℕ) (admits settles all : List Told) → Admits c admits
      → EndsAtOnce (wait_at c q) settles → all ≡ offer_told c v q admits ++ settles
      → PlainCall (sends c v) all Done
  awaits : (c q : ℕ) → PlainCall (receives c) (made (Await c q (wait_at c q) 0) ∷ []) (Waits (wait_at c q))

-- `trysend` and `tryreceive`
pub data TryCall : Call → List Told → Answer → Type 0 where
  at_once : (call : Call) (group : List Told) (a : Answer) → AtOnce call group a → TryCall call group a
  refused : (call : Call) (told : Told) → TryRefused call told → TryCall call (told ∷ []) Done
  blocks : (call : Call) → TryCall call (blocked call ∷ []) Done
  no_place : (c v : ℕ) → TryCall (sends c v) (spent (sends c v)) NoPlace

-- ---- select

-- the clause stands at place q, as clause n of the wait
abbrev pub placed : WaitId → ℕ → ℕ → Call → Told
placed w n q (sends c v) = made (Offer c q v w n)
placed w n q (receives c) = made (Await c q w n)

-- clauses that are placed one after the other, numbered from n on
pub data Places (w : WaitId) : ℕ → List Call → List Told → Type 0 where
  none : (n : ℕ) → Places w n [] []
  one : (n q : ℕ) (call : Call) (calls : List Call) (more : List Told) → Places w (n + 1) calls more
      → Places w n (call ∷ calls) (placed w n q call ∷ more)

-- the wait has the name of the place at which its first clause stands
pub data Begins : WaitId → List Told → Type 0 where
  send : (c v q : ℕ) (more : List Told) → Begins (wait_at c q) (placed (wait_at c q) 1 q (sends c v) ∷ more)
  receive : (c q : ℕ) (more : List Told) → Begins (wait_at c q) (placed (wait_at c q) 1 q (receives c) ∷ more)

-- these clauses, the first ones of a select, were placed with one wait
pub record PlacesFirst (w : WaitId) (calls : List Call) (group : List Told) : Type 0 where
  pub begins : Begins w group
  pub places : Places w 1 calls group

-- Admit* in the channel of each of these clauses that offers
pub data AdmitsIn : List Call → List Told → Type 0 where
  none : AdmitsIn [] []
  offered : (c v : ℕ) (calls : List Call) (admits more all : List Told) → Admits c admits → AdmitsIn calls more
      → all ≡ admits ++ more → AdmitsIn (sends c v ∷ calls) all
  awaited : (c : ℕ) (calls : List Call) (all : List Told) → AdmitsIn calls all → AdmitsIn (receives c ∷ calls) all

-- a clause that was blocked has changed: its partner came, its channel was closed, or has no place left
pub data Stops : Call → List Told → Answer → Type 0 where
  receiver : (c v q : ℕ) → Stops (sends c v) (on_channels (ReceiverAt c q) ∷ heard (Partner c q) ∷ []) LooksAgain
  offer : (c q : ℕ) → Stops (receives c) (on_channels (OfferAt c q) ∷ heard (Partner c q) ∷ []) LooksAgain
  closed : (call : Call) (told : Told) (a : Answer) → Refused call told a → Stops call (told ∷ []) LooksAgain
  no_place : (call : Call) (all : List Told) → all ≡ spent call → Stops call all NoPlace

-- what was placed is withdrawn
abbrev pub revoked : WaitId → List Told
revoked w = made (Withdraw w why.Revoked) ∷ made (Settle w settled.Cancelled) ∷ []

-- a select with these clauses, numbered from 1
pub data SelectCall (clauses : List Call) : List Told → Answer → Type 0 where
  -- all before this one are blocked, and it is ready, or closed
  chooses : (passed later : List Call) (call : Call) (group all : List Told) (a : Answer)
      → clauses ≡ passed ++ call ∷ later → AtOnce call group a → all ≡ map blocked passed ++ group
      → SelectCall clauses all a
  meets_close : (passed later : List Call) (call : Call) (told : Told) (all : List Told) (a : Answer)
      → clauses ≡ passed ++ call ∷ later → Refused call told a → all ≡ map blocked passed ++ told ∷ []
      → SelectCall clauses all a
  -- the try of a send finds no place
  no_place : (passed later : List Call) (c v : ℕ) (all : List Told) → clauses ≡ passed ++ sends c v ∷ later
      → all ≡ map blocked passed ++ spent (sends c v) → SelectCall clauses all NoPlace
  -- all are blocked, and each is placed
  waits : (w : WaitId) (group admits all : List Told) → PlacesFirst w clauses group → AdmitsIn clauses admits
      → all ≡ map blocked clauses ++ (group ++ admits) → SelectCall clauses all (Waits w)
  -- or some are, and at the next one the wait is resolved
  resolved : (w : WaitId) (before later : List Call) (call : Call) (group admits all : List Told)
      → clauses ≡ before ++ call ∷ later → PlacesFirst w before group → AdmitsIn before admits
      → all ≡ map blocked clauses ++ (group ++ heard (MainResolved w) ∷ admits) → SelectCall clauses all (Waits w)
  -- or the first one is not blocked any more
  stops_at_first : (later : List Call) (call : Call) (stop all : List Told) (a : Answer) → clauses ≡ call ∷ later
      → Stops call stop a → all ≡ map blocked clauses ++ stop → SelectCall clauses all a
  -- or a later one is not, and what was placed is withdrawn
  stops : (w : WaitId) (before later : List Call) (call : Call) (group stop admits all : List Told) (a : Answer)
      → clauses ≡ before ++ call ∷ later → PlacesFirst w before group → Stops call stop a → AdmitsIn before admits
      → all ≡ map blocked clauses ++ (group ++ stop ++ revoked w ++ admits) → SelectCall clauses all a
  -- or that comes too late, as the wait is resolved
  stops_late : (w : WaitId) (before later : List Call) (call : Call) (group stop admits all : List Told) (a : Answer)
      → clauses ≡ before ++ call ∷ later → PlacesFirst w before group → Stops call stop a → AdmitsIn before admits
      → all ≡ map blocked clauses ++ (group ++ stop ++ heard (Late w) ∷ admits) → SelectCall clauses all (Waits w)

-- ---- the end of a wait

-- a wait that ends so has no answer for its line: it ends as cancelled, or with an element that is given up
abbrev pub is_given_up : Settled → Bool
is_given_up (settled.Value k v) = false
is_given_up (settled.Sent k) = false
is_given_up (settled.Closed k v) = false
is_given_up settled.Cancelled = true
is_given_up (settled.Undelivered v) = true

-- how a wait is ended that meets a cancellation
pub data GivesUp (w : WaitId) : List Told → Type 0 where
  -- it was resolved before: as cancelled, or with an element that is given up
  dispatched : GivesUp w (made (Settle w settled.Cancelled) ∷ [])
  undelivered : (v : ℕ) → GivesUp w (made (Settle w (settled.Undelivered v)) ∷ [])
  -- it is withdrawn
  withdrawn : (admits : List Told) → Admits w.channel admits
      → GivesUp w (made (Withdraw w why.Cancelled) ∷ made (Settle w settled.Cancelled) ∷ admits)
  -- that came too late
  late : (admits : List Told) → Admits w.channel admits
      → GivesUp w (heard (Late w) ∷ made (Settle w settled.Cancelled) ∷ admits)
  late_undelivered : (v : ℕ) (admits : List Told) → Admits w.channel admits
      → GivesUp w (heard (Late w) ∷ made (Settle w (settled.Undelivered v)) ∷ admits)
