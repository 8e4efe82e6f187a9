use Rattle.std.proofs.Common.{◌≡◌, ℕ, List, length, map}
use Rattle.script_grammar.specs.Tags.{layouts_from, layouts}
use Rattle.script_reader.specs.Programs.{block_of}
use Rattle.script_reader.proofs.sizes.all_sizes.Given as goal

abbrev pub invariant-loop-rest : goal.invariant-loop-rest
invariant-loop-rest l =
    (before : List (List ℕ)) × (l.sizes.items ≡ map length before)
    × (layouts_from before (map block_of l.rest) ≡ layouts (map block_of l.coroutines))

abbrev pub decreases-loop-rest : goal.decreases-loop-rest
decreases-loop-rest l = length l.rest
