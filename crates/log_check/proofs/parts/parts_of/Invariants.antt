use Rattle.std.proofs.Common.{◌+◌, ◌-◌, length}
use Rattle.log_check.proofs.parts.parts_of.Given as goal

abbrev pub decreases-loop-at : goal.decreases-loop-at
decreases-loop-at l = length l.bytes + 1 - l.at
