use Rattle.std.proofs.Common.{◌≡◌, ℕ, ◌+◌, ◌-◌, ◌%◌, ◌<◌, ◌≤◌, true, false, get_or}
use Rattle.std.specs.Prelude.{vec_len, vec_capacity}
use Rattle.std.specs.Mem.Slots.{slots_filled, slots_len, slots_items}
use Rattle.ring_channel.specs.Passes.{values_until}
use Rattle.ring_channel.proofs.rest.move_rest.Given as goal

abbrev pub invariant-loop-i : goal.invariant-loop-i
invariant-loop-i g l = ((k : ℕ) → l.i ≤ k → k < l.slots → get_or (slots_filled l.closed.slots) ((l.first + k) % l.slots) false ≡ true)
    × ((k : ℕ) → k < l.i → get_or (slots_filled l.closed.slots) ((l.first + k) % l.slots) false ≡ false)
    × (slots_len l.closed.slots ≡ l.slots)
    × (slots_items l.closed.slots ≡ slots_items l.initial.closed.slots)
    × (l.i ≤ l.slots)
    × (vec_len l.room ≤ l.i)
    × (l.slots ≤ vec_capacity l.room)
    × (l.room.items ≡ values_until l.slots (slots_items l.initial.closed.slots) l.first l.i)

abbrev pub decreases-loop-i : goal.decreases-loop-i
decreases-loop-i g l = l.slots - l.i
