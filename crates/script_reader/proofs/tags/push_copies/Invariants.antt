use Rattle.std.proofs.Common.{◌≡◌, ◌≤◌, ◌-◌, ◌++◌, replicate, reverse}
use Rattle.script_reader.proofs.tags.push_copies.Given as goal

abbrev pub invariant-loop-pushed : goal.invariant-loop-pushed
invariant-loop-pushed l = record {
  within : l.pushed ≤ l.count;
  stands : reverse l.stack.items ≡ replicate l.pushed l.block ++ reverse l.initial.stack.items;
}

abbrev pub decreases-loop-pushed : goal.decreases-loop-pushed
decreases-loop-pushed l = l.count - l.pushed
