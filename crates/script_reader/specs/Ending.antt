-- The end of a script.
use Rattle.std.specs.Prelude.{◌≡◌, ℕ, Some, None, Result, Ok, Err}
use lib.Chars.{codes}
use Rattle.script_grammar.specs.declared.fault.FaultKind.{FaultKind}
use Rattle.script_grammar.specs.Reads.{Read}
use Rattle.script_grammar.specs.Tags.{block_named}
use Rattle.script_grammar.specs.Texts.{finish}

-- no block is open, and this is the number of main; or the script may not end here
abbrev pub MayEnd : Result ℕ FaultKind → Read → Type 0
MayEnd (Ok main) s = (s.current ≡ None) × (block_named (codes "main") 0 s.blocks ≡ Some main)
MayEnd (Err kind) s = finish s ≡ Err kind
