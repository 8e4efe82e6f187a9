-- The script so far, and what each line adds to it.
use Rattle.std.specs.Prelude.{ℕ, ◌+◌, ◌*◌, List, [], ◌∷◌, ◌++◌, Option, Some, None, option_map, get_or, if◌then◌else◌}
use Rattle.script_grammar.specs.declared.instructions.Instruction.{Instruction}
use Rattle.script_grammar.specs.Programs.{Declared, Block, Program, channel_names, block_names}
use Rattle.script_grammar.specs.Lines.{Names}
use Rattle.script_grammar.specs.Blocks.{Open, opened, with_line, listed, is_main}

-- the script so far: its version, what it declares, and the block that is open
pub record Read : Type 0 where
  pub version : ℕ
  pub channels : List Declared
  pub blocks : List Block
  pub spawns : List (ℕ × ℕ)
  -- of each block that is closed
  pub weights : List ℕ
  pub current : Option Open

abbrev pub start : Read
start = record { version = 1; channels = []; blocks = []; spawns = []; weights = []; current = None }

-- what a line says
pub data Form : Type 0 where
  -- the script is of version 2
  version_is : Form
  channel_is : Declared → Form
  -- the first line of a coroutine of this name
  coroutine_is : List ℕ → Form
  -- the block, and how many instances of it
  spawn_is : ℕ → ℕ → Form
  -- a line of the open block, and the new name of the Job that it launches
  line_is : Instruction → Option (List ℕ) → Form
  -- the end of the open block
  end_is : Form

abbrev pub closed_block : Option Open → List Block
closed_block None = []
closed_block (Some b) = record { name = b.name; jobs = b.jobs; code = b.code } ∷ []

abbrev pub closed_weight : Option Open → List ℕ
closed_weight None = []
closed_weight (Some b) = b.weight ∷ []

-- the script with what a line says
abbrev pub after : Form → Read → Read
after version_is s = record s { version = 2 }
after (channel_is c) s = record s { channels = s.channels ++ c ∷ [] }
after (coroutine_is p) s = record s { current = Some (opened p) }
after (spawn_is i n) s = record s { spawns = s.spawns ++ (i, n) ∷ [] }
after (line_is x job) s = record s { current = option_map (with_line s.weights x job) s.current }
after end_is s = record s {
  blocks = s.blocks ++ closed_block s.current;
  weights = s.weights ++ closed_weight s.current;
  current = None;
}

-- the names for a line of the open block that gives its Job this name
abbrev pub names_for : Read → Open → Option (List ℕ) → Names
names_for s b job = record { channels = channel_names s.channels; blocks = block_names s.blocks; jobs = b.jobs ++ listed job }

-- what a script says whose lines are all read
abbrev pub program_so_far : Read → Program
program_so_far s = record { version = s.version; channels = s.channels; blocks = s.blocks; spawns = s.spawns }

-- ---- the load

-- a weight, if it is that of main
abbrev pub main_weight : List ℕ → ℕ → ℕ
main_weight name weight = if is_main name then weight else 0

-- the weight of main, if it is one of these blocks, whose weights these are
abbrev pub closed_main : List Block → List ℕ → ℕ
closed_main [] weights = 0
closed_main (b ∷ bs) [] = 0
closed_main (b ∷ bs) (w ∷ weights) = main_weight b.name w + closed_main bs weights

-- the weight of main, if it is the open block
abbrev pub open_main : Option Open → ℕ
open_main None = 0
open_main (Some b) = main_weight b.name b.weight

-- the weight of all instances of these spawns, of blocks of these weights
abbrev pub spawned_weight : List ℕ → List (ℕ × ℕ) → ℕ
spawned_weight weights [] = 0
spawned_weight weights (s ∷ spawns) = s.1 * get_or weights s.0 0 + spawned_weight weights spawns

-- the weight of main so far, and of the instances of each spawn so far
abbrev pub load : Read → ℕ
load s = closed_main s.blocks s.weights + open_main s.current + spawned_weight s.weights s.spawns
