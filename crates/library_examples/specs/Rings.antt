-- What the examples over rings come to.
use Rattle.std.specs.Prelude.{◌≡◌, ℕ, ◌<◌, List}
use mathlib.Core.List.{IsPrefix}
use Rattle.ring_channel.specs.declared.act.RingEntry.{RingEntry}
use Rattle.ring_channel.specs.declared.ring.Ring.{Ring}
use Rattle.ring_channel.specs.declared.ring.RingPass.{RingPass}
use Rattle.ring_channel.specs.Rings.{state_of}
use Rattle.ring_channel.specs.Seen.{Seen}
use Rattle.ring_channel.specs.Passes.{IsOf, left_in, tag_of}

-- these are the values that were put and not received, in a history that goes on from what each of two passes had seen
pub record IsLeft {T : Type 0} (n : ℕ) (a b : Seen T) (rest : List T) : Type 0 where
  pub log : List (RingEntry T)
  pub from_a : IsPrefix a.seen log
  pub from_b : IsPrefix b.seen log
  pub left : rest ≡ left_in (state_of n log)

-- it is the pass of this tag of the ring, which may wait
abbrev pub MayWait : {T : Type 0} → Ring T → ℕ → RingPass T → Type 0
MayWait ring tag pass = IsOf ring pass × (tag ≡ tag_of pass) × (tag < 64)
