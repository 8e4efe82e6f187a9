-- The permits of a channel add up.
use Rattle.std.specs.Prelude.{◌≡◌, ℕ, ◌+◌, ◌≤◌, nat_lt, Bool, true, false, ◌&&◌, List, length, Option, Some, None, is_none}
use Rattle.std.specs.List.{list_all}
use mathlib.Core.List.{IsPrefix}
use Rattle.channel_model.specs.declared.acts.Entry.{Entry}
use Rattle.channel_model.specs.declared.acts.Kind.TheVariants.{Unlimited}
use Rattle.channel_model.specs.declared.standing.Resolution.{Resolution}
use Rattle.channel_model.specs.declared.standing.Resolution.TheVariants as resolved
use Rattle.channel_model.specs.Channels.{Shape, State, Wait, kind_at}
use Rattle.channel_model.specs.Histories.{replay, Legal, acts_of}
use Rattle.permits.specs.Parts.{IsPermitPart, is_filler, given, gave, got, held}
use Rattle.permits.specs.Sums.{sum_of, count_of}

-- ---- what is on its way

-- an element was handed to the wait
abbrev pub was_handed : Option Resolution → Bool
was_handed None = false
was_handed (Some (resolved.Handed k v)) = true
was_handed (Some other) = false

-- and the wait did not end
abbrev pub is_under_way : Option Wait → Bool
is_under_way None = false
is_under_way (Some x) = was_handed x.resolved && is_none x.settled

-- how many elements were handed to waits of the channel that did not end
abbrev pub under_way : ℕ → State → ℕ
under_way c s = count_of (s.channels c).next (λ p. is_under_way (s.waits (record { channel = c; place = p })))

-- ---- the law

-- each coroutine uses the n permits of channel c, which f alone filled
pub record IsPermitHistory (c n f : ℕ) (history : List Entry) : Type 0 where
  pub some : 1 ≤ n
  pub parts : (k : ℕ) → IsPermitPart c n (acts_of k history)
  pub filler : is_filler c (acts_of f history) ≡ true
  pub only : (k : ℕ) → is_filler c (acts_of k history) ≡ true → k ≡ f

-- all entries are of the first m coroutines
abbrev pub are_below : ℕ → List Entry → Bool
are_below m history = list_all (λ e. nat_lt e.who m) history

-- permits that the first m coroutines hold
abbrev pub permits_held : ℕ → ℕ → ℕ → List Entry → ℕ
permits_held c n m history = sum_of m (λ k. held c n (acts_of k history))

-- free permits, permits on their way, and permits that the first m coroutines hold
abbrev pub permits_of : ℕ → ℕ → ℕ → List Entry → ℕ
permits_of c n m history =
    length ((replay history).channels c).queue + under_way c (replay history) + permits_held c n m history

-- all permits are n, so that at most n are held, and nobody gave back more than it got
pub record AddUp (c n m : ℕ) (history : List Entry) : Type 0 where
  pub all : permits_of c n m history ≡ n
  pub few : permits_held c n m history ≤ n
  pub covered : (k : ℕ) → gave c n (acts_of k history) ≤ got c (acts_of k history)

-- so it is after each beginning that has the fill
abbrev pub PermitsAddUp : Shape → ℕ → ℕ → ℕ → ℕ → List Entry → List Entry → Type 0
PermitsAddUp shape c n f m before history =
    kind_at shape c ≡ Unlimited → Legal shape history → IsPermitHistory c n f history
    → IsPrefix before history → n ≤ given c (acts_of f before) → are_below m before ≡ true → AddUp c n m before
