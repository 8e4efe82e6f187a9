-- The state of the channels.
use Rattle.std.specs.Prelude.{ℕ, ◌<◌, ◌≤◌, length, ◌==◌, nat_le, nat_lt, Bool, true, false, ◌&&◌, List, [], Option, None, slice_index_or}
use Rattle.channel_model.specs.declared.acts.Kind.{Kind}
use Rattle.channel_model.specs.declared.acts.Kind.TheVariants.{Rendezvous, Buffered, Unlimited, Conflated, DropOldest, DropLatest, Signal}
use Rattle.channel_model.specs.declared.acts.Settled.{Settled}
use Rattle.channel_model.specs.declared.standing.Standing.{Standing}
use Rattle.channel_model.specs.declared.standing.Receiver.{Receiver}
use Rattle.channel_model.specs.declared.standing.Resolution.{Resolution}
use Rattle.co_base.specs.declared.names.WaitId.{WaitId}

-- the kind and the number of places of each channel, which no act changes
abbrev pub Shape : Type 0
Shape = List (Kind × ℕ)

abbrev pub kind_at : Shape → ℕ → Kind
kind_at shape c = (slice_index_or shape c (Signal, 0)).0

abbrev pub places_at : Shape → ℕ → ℕ
places_at shape c = (slice_index_or shape c (Signal, 0)).1

-- a channel has one place at least, and at most 1,048,576
pub record HasPlaces (places : ℕ) : Type 0 where
  pub some : 1 ≤ places
  pub few : places ≤ 1048576

-- each channel has its places
abbrev pub IsShape : Shape → Type 0
IsShape shape = (c : ℕ) → c < length shape → HasPlaces (places_at shape c)

-- if so many offers stand, at least as many stand as the kind keeps without a wait
abbrev pub is_full : Kind → ℕ → Bool
is_full Rendezvous n = true
is_full (Buffered k) n = nat_le k n
is_full Unlimited n = false
is_full Conflated n = false
is_full (DropOldest k) n = false
is_full (DropLatest k) n = false
is_full Signal n = true

-- a send may wait
abbrev pub suspends : Kind → Bool
suspends Rendezvous = true
suspends (Buffered k) = true
suspends Unlimited = false
suspends Conflated = false
suspends (DropOldest k) = false
suspends (DropLatest k) = false
suspends Signal = false

abbrev pub is_signal : Kind → Bool
is_signal Rendezvous = false
is_signal (Buffered k) = false
is_signal Unlimited = false
is_signal Conflated = false
is_signal (DropOldest k) = false
is_signal (DropLatest k) = false
is_signal Signal = true

-- a queue of this length is too long for the kind, which drops its oldest element
abbrev pub drops : Kind → ℕ → Bool
drops Rendezvous n = false
drops (Buffered k) n = false
drops Unlimited n = false
drops Conflated n = nat_lt 1 n
drops (DropOldest k) n = nat_lt k n
drops (DropLatest k) n = false
drops Signal n = false

-- an offer before which so many stand is one too many for the kind, which does not keep its latest
abbrev pub spurns : Kind → ℕ → Bool
spurns Rendezvous n = false
spurns (Buffered k) n = false
spurns Unlimited n = false
spurns Conflated n = false
spurns (DropOldest k) n = false
spurns (DropLatest k) n = nat_le k n
spurns Signal n = false

pub record Channel : Type 0 where
  -- how many places were given out
  pub next : ℕ
  -- the offers that stand, the oldest first
  pub queue : List Standing
  -- the receivers that stand, the one that came first in front
  pub receivers : List Receiver
  -- the value with which it was closed
  pub closed : Option ℕ
  pub voided : Bool

pub record Wait : Type 0 where
  pub owner : ℕ
  -- the number and the channel of each clause, that at which it began first
  pub clauses : List (ℕ × ℕ)
  -- by which act it was resolved
  pub resolved : Option Resolution
  -- how it ended
  pub settled : Option Settled

-- a channel at each number, and the waits that began
pub record State : Type 0 where
  pub channels : ℕ → Channel
  pub waits : WaitId → Option Wait
  -- how many offers stood at a channel when the offer at this place was placed there
  pub stood : ℕ → ℕ → ℕ

abbrev pub empty : Channel
empty = record { next = 0; queue = []; receivers = []; closed = None; voided = false }

abbrev pub start : State
start = record { channels = λ c. empty; waits = λ w. None; stood = λ c p. 0 }

abbrev pub same_wait : WaitId → WaitId → Bool
same_wait v w = (v.channel == w.channel) && (v.place == w.place)
