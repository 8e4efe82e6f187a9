use Rattle.std.proofs.Common.{◌+◌, ◌-◌, length}
use Rattle.history_text.proofs.input.cut_at_history.Given as goal

abbrev pub decreases-loop-at : goal.decreases-loop-at
decreases-loop-at l = length l.bytes + 1 - l.at
