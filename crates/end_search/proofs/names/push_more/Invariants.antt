use Rattle.std.proofs.Common.{◌≡◌, ◌++◌, length}
use Rattle.std.specs.List.{flat_map}
use Rattle.report_reader.specs.Words.{texts}
use Rattle.end_search.specs.Blocks.{behind_blank}
use Rattle.end_search.proofs.names.push_more.Given as goal

abbrev pub invariant-loop-rest : goal.invariant-loop-rest
invariant-loop-rest l = l.out.items ++ flat_map behind_blank (texts l.rest) ≡ l.fn.out.items ++ flat_map behind_blank (texts l.words)

abbrev pub decreases-loop-rest : goal.decreases-loop-rest
decreases-loop-rest l = length l.rest
