-- The lines of a block by their places.
use Rattle.std.specs.Prelude.{ℕ, Bool, false, List, Option, Some, None, slice_get}
use Rattle.script_grammar.specs.declared.instructions.Instruction.{Instruction}
use Rattle.script_grammar.specs.Programs.{Program}
use Rattle.script_grammar.specs.Blocks.{opens_lines}
use Rattle.script_grammar.specs.Tags.{code_of_block}

-- the lines of the block of this number
abbrev pub block_code : Program → ℕ → List Instruction
block_code p block = code_of_block (slice_get p.blocks block)

-- the line is there and opens others
abbrev pub does_open : Option Instruction → Bool
does_open None = false
does_open (Some x) = opens_lines x
