-- A ring and its passes: whose pass it is, how a ring is made, and what is left of it.
use Rattle.std.specs.Prelude.{◌≡◌, ℕ, zero, suc, ◌+◌, ◌%◌, ◌<◌, ◌≤◌, true, List, [], ◌∷◌, ◌++◌, Option, Result, Ok, Err, drop, option_to_list}
use mathlib.Core.Option as maybe
use lib.ListN.{get_elem?}
use Rattle.ring_channel.specs.declared.answers.RingFault.{RingFault}
use Rattle.ring_channel.specs.declared.answers.RingFault.TheVariants as fault
use Rattle.ring_channel.specs.declared.ring.Ring.{Ring}
use Rattle.ring_channel.specs.declared.ring.RingPass.{RingPass}
use Rattle.ring_channel.specs.Rings.{State}
use Rattle.ring_channel.specs.Seen.{Seen, SameTags, own_tag}

module _ {T : Type 0} where
  -- the pass is one of this ring
  abbrev pub IsOf : Ring T → RingPass T → Type 0
  IsOf ring pass = (pass.seat.table_id ≡ ring.table.shared.table_id) × (pass.seat.me.0.key ≡ ring.slots)

  -- what it has seen
  abbrev pub seen_by : RingPass T → Seen T
  seen_by pass = pass.seat.me.0

  -- the tag under which it calls
  abbrev pub tag_of : RingPass T → ℕ
  tag_of pass = own_tag pass.seat.me.0

  -- it gives out tags
  abbrev pub IsFirst : RingPass T → Type 0
  IsFirst pass = pass.seat.me.0.chief ≡ true

  -- it has the same tags, and gives out others as before
  abbrev pub SamePass : RingPass T → RingPass T → Type 0
  SamePass old new = (tag_of new ≡ tag_of old) × SameTags (seen_by old) (seen_by new)

  -- an empty ring of so many slots and places, and its first pass
  abbrev pub IsEmpty : ℕ → ℕ → Ring T → RingPass T → Type 0
  IsEmpty slots places ring pass =
      IsOf ring pass × (ring.slots ≡ slots) × (ring.places ≡ places) × IsFirst pass
      × ((seen_by pass).given ≡ 0 ∷ []) × ((seen_by pass).tags ≡ 0 ∷ []) × ((seen_by pass).seen ≡ [])

  -- such a ring; or why there is none
  abbrev pub NewAnswer : ℕ → ℕ → Result (Ring T × RingPass T) RingFault → Type 0
  NewAnswer slots places (Ok r) = IsEmpty slots places r.0 r.1 × (1 ≤ slots) × (slots ≤ 1048576)
  NewAnswer slots places (Err fault.NoSlots) = slots ≡ 0
  NewAnswer slots places (Err fault.TooManySlots) = 1048576 < slots
  NewAnswer slots places (Err fault.Memory) = (1 ≤ slots) × (slots ≤ 1048576)

  -- the values that were put and not received, in the order of their places
  abbrev pub left_in : State T → List T
  left_in s = drop s.takes s.sent

  -- the value in a slot, if there is such a slot and it has one
  abbrev pub values_of : maybe.Option (Option T) → List T
  values_of maybe.none = []
  values_of (maybe.some x) = option_to_list x

  -- the values in the first k slots, from that of the place p on, in a ring of n slots
  abbrev pub values_until : ℕ → List (Option T) → ℕ → ℕ → List T
  values_until n slots p zero = []
  values_until n slots p (suc k) = values_until n slots p k ++ values_of (get_elem? slots ((p + k) % n))
