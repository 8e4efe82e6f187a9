use Rattle.std.proofs.Common.{◌≡◌, ℕ, ◌-◌, ◌<◌, ◌≤◌, false, get_or}
use Rattle.std.specs.Prelude.{vec_len, vec_capacity}
use Rattle.std.specs.Mem.Slots.{slots_filled, slots_len, slots_items}
use Rattle.std.specs.Mem.Slots.Ownership.{Filled}
use Rattle.task_berths.specs.Answers.{HaveTags}
use Rattle.task_berths.proofs.closing.move_out.Given as goal

abbrev pub invariant-loop-i : goal.invariant-loop-i
invariant-loop-i g l = (Filled (slots_filled l.closed.slots) l.i (slots_len l.closed.slots)
    × ((k : ℕ) → k < l.i → get_or (slots_filled l.closed.slots) k false ≡ false))
    × (((slots_len l.closed.slots ≡ l.count) × (slots_items l.closed.slots ≡ slots_items l.initial.closed.slots))
    × ((l.i ≤ l.count) × ((vec_len l.room ≡ l.i) × ((l.count ≤ vec_capacity l.room) × HaveTags g.T.Tagged.tag_of l.room.items))))

abbrev pub decreases-loop-i : goal.decreases-loop-i
decreases-loop-i g l = l.count - l.i
