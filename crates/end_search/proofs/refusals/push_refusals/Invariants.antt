use Rattle.std.proofs.Common.{◌≡◌, ◌++◌, length, string_bytes}
use Rattle.std.specs.List.{flat_map}
use Rattle.script_reader.specs.Scripts.{program_of}
use Rattle.end_search.specs.Blocks.{refused_line}
use Rattle.end_search.proofs.refusals.push_refusals.Given as goal

abbrev pub invariant-loop-rest : goal.invariant-loop-rest
invariant-loop-rest l = string_bytes l.out ++ flat_map (refused_line (program_of l.script)) l.rest
    ≡ string_bytes l.fn.out ++ flat_map (refused_line (program_of l.script)) l.items

abbrev pub decreases-loop-rest : goal.decreases-loop-rest
decreases-loop-rest l = length l.rest
