use Rattle.std.proofs.Common.{◌-◌, Some, length, map, reverse}
use Rattle.script_grammar.specs.Tags.{spawned_by, tags_for}
use Rattle.script_reader.specs.Programs.{block_of, spawn_of}
use Rattle.script_reader.specs.TagTables.{AreLists}
use Rattle.script_reader.proofs.Stacks.{Stands}
use Rattle.script_reader.proofs.tags.tags_in.Given as goal

abbrev pub invariant-loop-block : goal.invariant-loop-block
invariant-loop-block l = record {
  lists : AreLists l.lists.items (map block_of l.coroutines);
  stands : Stands (map block_of l.coroutines) (tags_for (map block_of l.coroutines) (spawned_by (map spawn_of l.spawns)) (Some l.main))
      l.tags.items (reverse l.stack.items);
}

abbrev pub decreases-loop-block : goal.decreases-loop-block
decreases-loop-block l = 16000 - length l.tags.items
