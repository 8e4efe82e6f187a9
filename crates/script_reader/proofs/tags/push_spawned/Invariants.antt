use Rattle.std.proofs.Common.{◌≡◌, ◌≤◌, ◌++◌, length, drop, map, reverse}
use Rattle.script_grammar.specs.Tags.{spawned_by}
use Rattle.script_reader.specs.Programs.{spawn_of}
use Rattle.script_reader.proofs.tags.push_spawned.Given as goal

abbrev pub invariant-loop-left : goal.invariant-loop-left
invariant-loop-left l = record {
  within : l.left ≤ length l.spawns;
  stands : reverse l.stack.items ≡ spawned_by (map spawn_of (drop l.left l.spawns)) ++ reverse l.initial.stack.items;
}

abbrev pub decreases-loop-left : goal.decreases-loop-left
decreases-loop-left l = l.left
