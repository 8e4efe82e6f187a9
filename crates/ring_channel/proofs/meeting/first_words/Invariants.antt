use Rattle.std.proofs.Common.{◌≡◌, ℕ, ◌-◌, ◌<◌, ◌≤◌, get_or}
use Rattle.std.specs.Prelude.{vec_len, vec_capacity}
use Rattle.ring_channel.specs.Tables.{first_word}
use Rattle.ring_channel.proofs.meeting.first_words.Given as goal

abbrev pub invariant-loop-i : goal.invariant-loop-i
invariant-loop-i l = (l.i ≤ l.count)
    × (vec_len l.words ≡ l.i)
    × (l.count ≤ vec_capacity l.words)
    × ((k : ℕ) → k < l.i → get_or l.words.items k 0 ≡ first_word k)

abbrev pub decreases-loop-i : goal.decreases-loop-i
decreases-loop-i l = l.count - l.i
