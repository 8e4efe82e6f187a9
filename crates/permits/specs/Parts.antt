-- Which acts get and give permits of a channel, and what a coroutine that uses them made of its history.
use Rattle.std.specs.Prelude.{◌≡◌, ℕ, ◌-◌, ◌≤◌, ◌==◌, Bool, true, false, not, ◌&&◌, ◌||◌, List, [], ◌∷◌, if◌then◌else◌}
use Rattle.std.specs.List.{list_all}
use mathlib.Core.List.{IsPrefix}
use Rattle.channel_model.specs.declared.acts.Act.{Act}
use Rattle.channel_model.specs.declared.acts.Act.TheVariants.{Hand, Put, Offer, Await, Take, Admit, Drop, Spurn, Close, Void, Drain, WakeClosed, Withdraw, Settle}
use Rattle.channel_model.specs.declared.acts.Kind.TheVariants.{Unlimited}
use Rattle.channel_model.specs.declared.acts.Settled.{Settled}
use Rattle.channel_model.specs.declared.acts.Settled.TheVariants as settled
use Rattle.channel_model.specs.Channels.{kind_at}
use Rattle.channel_model.specs.Histories.{acts_of}
use Rattle.channel_model.specs.Floors.{Floor, MayCall}
use Rattle.channel_model.specs.Laws.{how_many}

-- ---- one act

-- the act names the channel
abbrev pub is_on : ℕ → Act → Bool
is_on c (Hand d p v) = d == c
is_on c (Put d p v) = d == c
is_on c (Offer d p v w k) = d == c
is_on c (Await d p w k) = d == c
is_on c (Take d p v) = d == c
is_on c (Admit d p) = d == c
is_on c (Drop d p v) = d == c
is_on c (Spurn d p v) = d == c
is_on c (Close d v) = d == c
is_on c (Void d) = d == c
is_on c (Drain d p v) = d == c
is_on c (WakeClosed d p) = d == c
is_on c (Withdraw w why) = w.channel == c
is_on c (Settle w outcome) = w.channel == c

-- a wait that ended so had been given an element
abbrev pub brings_element : Settled → Bool
brings_element (settled.Value k v) = true
brings_element (settled.Sent k) = false
brings_element (settled.Closed k v) = false
brings_element settled.Cancelled = false
brings_element (settled.Undelivered v) = true

-- the act gets a permit: it takes one, or ends a wait to which one was handed
abbrev pub gets_permit : ℕ → Act → Bool
gets_permit c (Take d p v) = d == c
gets_permit c (Settle w outcome) = (w.channel == c) && brings_element outcome
gets_permit c other = false

-- the act gives one
abbrev pub gives_permit : ℕ → Act → Bool
gives_permit c (Hand d p v) = d == c
gives_permit c (Put d p v) = d == c
gives_permit c other = false

-- what one who uses permits may do: on this channel it puts, hands, takes, waits by a plain receive, and ends such waits
abbrev pub is_permit_act : ℕ → Act → Bool
is_permit_act c (Hand d p v) = true
is_permit_act c (Put d p v) = true
is_permit_act c (Offer d p v w k) = not (d == c)
is_permit_act c (Await d p w k) = not (d == c) || (k == 0)
is_permit_act c (Take d p v) = true
is_permit_act c (Admit d p) = not (d == c)
is_permit_act c (Drop d p v) = not (d == c)
is_permit_act c (Spurn d p v) = not (d == c)
is_permit_act c (Close d v) = not (d == c)
is_permit_act c (Void d) = not (d == c)
is_permit_act c (Drain d p v) = not (d == c)
is_permit_act c (WakeClosed d p) = not (d == c)
is_permit_act c (Withdraw w why) = true
is_permit_act c (Settle w outcome) = true

-- ---- the acts of one coroutine

-- how many permits it got
abbrev pub got : ℕ → List Act → ℕ
got c acts = how_many (gets_permit c) acts

-- how many it put or handed
abbrev pub given : ℕ → List Act → ℕ
given c acts = how_many (gives_permit c) acts

-- it filled the channel, or began to: the first of its acts there puts or hands
unfoldable pub is_filler : ℕ → List Act → Bool
is_filler c [] = false
is_filler c (act ∷ acts) = if is_on c act then gives_permit c act else is_filler c acts

-- how many it gave back: for a filler of n permits all but its first n
abbrev pub gave : ℕ → ℕ → List Act → ℕ
gave c n acts = if is_filler c acts then given c acts - n else given c acts

-- how many it holds
abbrev pub held : ℕ → ℕ → List Act → ℕ
held c n acts = got c acts - gave c n acts

-- it did on the channel what one does who uses permits, and never gave back what it did not hold
pub record IsPermitPart (c n : ℕ) (acts : List Act) : Type 0 where
  pub fits : list_all (is_permit_act c) acts ≡ true
  pub covered : (before : List Act) → IsPrefix before acts → gave c n before ≤ got c before

-- ---- who may call

-- who may call on the channel, which keeps all; who's acts there are those of one who uses its n permits and holds so many of them
pub record HoldsPermits (c n who count : ℕ) (floor : Floor) : Type 0 where
  pub can : MayCall who c floor
  pub kind : kind_at floor.shape c ≡ Unlimited
  pub some : 1 ≤ n
  pub few : n ≤ 65535
  pub part : IsPermitPart c n (acts_of who floor.seen)
  pub count_is : count ≡ held c n (acts_of who floor.seen)

-- and if it is the filler, it filled the channel
pub record UsesPermits (c n who count : ℕ) (floor : Floor) : Type 0 where
  pub holds : HoldsPermits c n who count floor
  pub filled : is_filler c (acts_of who floor.seen) ≡ true → n ≤ given c (acts_of who floor.seen)

-- who may call on the channel, which keeps all, and has not called there yet
pub record MayFill (c n who : ℕ) (floor : Floor) : Type 0 where
  pub can : MayCall who c floor
  pub kind : kind_at floor.shape c ≡ Unlimited
  pub some : 1 ≤ n
  pub few : n ≤ 65535
  pub none : how_many (is_on c) (acts_of who floor.seen) ≡ 0
