use Rattle.std.proofs.Common.{◌≡◌, ◌++◌, length}
use Rattle.script_reader.specs.Scripts.{program_of}
use Rattle.end_search.specs.Blocks.{named_text}
use Rattle.end_search.proofs.names.named_text.Given as goal

abbrev pub invariant-lines : goal.invariant-lines
invariant-lines l = l.out.items ++ named_text (program_of l.script) l.rest ≡ named_text (program_of l.script) l.ends

abbrev pub decreases-lines : goal.decreases-lines
decreases-lines l = length l.rest
