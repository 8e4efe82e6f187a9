use Rattle.std.proofs.Common.{◌≡◌, ◌++◌, length, string_bytes}
use Rattle.std.specs.List.{flat_map}
use Rattle.end_search.specs.Blocks.{tag_part}
use Rattle.end_search.proofs.blocks.push_further.Given as goal

abbrev pub invariant-loop-rest : goal.invariant-loop-rest
invariant-loop-rest l = string_bytes l.out ++ flat_map tag_part l.rest ≡ string_bytes l.fn.out ++ flat_map tag_part l.order

abbrev pub decreases-loop-rest : goal.decreases-loop-rest
decreases-loop-rest l = length l.rest
