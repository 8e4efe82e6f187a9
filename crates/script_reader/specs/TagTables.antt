-- What is found of blocks while the table of tags is made.
use Rattle.std.specs.Prelude.{◌≡◌, ℕ, List, length, Option, Some, None, Vec, slice_get, slice_index_or}
use Rattle.std.specs.Global.{Global}
use Rattle.script_grammar.specs.Programs.{Block}
use Rattle.script_grammar.specs.Tags.{launched, code_of_block}

-- what the lines of this block launch
abbrev pub launched_in : List Block → ℕ → List ℕ
launched_in blocks block = launched (code_of_block (slice_get blocks block))

-- a list that was found is this one
abbrev pub IsListOf : Option (Vec ℕ Global) → List ℕ → Type 0
IsListOf None launches = Unit {0}
IsListOf (Some list) launches = list.items ≡ launches

-- of each block, what its lines launch, if that was found
pub record AreLists (lists : List (Option (Vec ℕ Global))) (blocks : List Block) : Type 0 where
  pub long : length lists ≡ length blocks
  pub each : (block : ℕ) → IsListOf (slice_index_or lists block None) (launched_in blocks block)
