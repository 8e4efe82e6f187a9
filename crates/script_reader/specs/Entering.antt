-- What a line may be added to.
use Rattle.std.specs.Prelude.{◌≡◌, ℕ, ◌+◌, ◌*◌, ◌<◌, List, Option, Some, None}
use Rattle.script_grammar.specs.declared.instructions.Instruction.{Instruction}
use Rattle.script_grammar.specs.Programs.{channel_names}
use Rattle.script_grammar.specs.Blocks.{Open, product, own_weight}
use Rattle.script_grammar.specs.Reads.{Read, Form, version_is, channel_is, coroutine_is, spawn_is, line_is, end_is}
use Rattle.script_grammar.specs.Places.{place_from}
use Rattle.script_reader.specs.Holding.{IsNewBlock}

-- the weight of a block with one more line, if the blocks before it have these weights
abbrev pub weight_with : List ℕ → Instruction → Open → ℕ
weight_with weights x b = b.weight + product b.nest * own_weight weights x

-- none of these names is this one, if there is one
abbrev pub IsNewName : List (List ℕ) → Option (List ℕ) → Type 0
IsNewName names None = Unit {0}
IsNewName names (Some name) = place_from 0 name names ≡ None

-- no Job of the block that is open has this name
abbrev pub IsNewJob : Option Open → Option (List ℕ) → Type 0
IsNewJob None name = Unit {0}
IsNewJob (Some b) name = IsNewName b.jobs name

-- where a block is open, there is a number for it
abbrev pub HasRoom : ℕ → Option Open → Type 0
HasRoom blocks None = Unit {0}
HasRoom blocks (Some b) = blocks < 65536

-- new names are new
abbrev pub CanEnter : Read → Form → Type 0
CanEnter s version_is = Unit {0}
CanEnter s (channel_is c) = place_from 0 c.name (channel_names s.channels) ≡ None
CanEnter s (coroutine_is p) = Unit {0}
CanEnter s (spawn_is i n) = Unit {0}
CanEnter s (line_is x job) = IsNewJob s.current job
CanEnter s end_is = IsNewBlock s.blocks s.current
