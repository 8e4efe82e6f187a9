-- What lines launch, while they are gone through.
use Rattle.std.specs.Prelude.{ℕ, ◌≤◌, List, [], ◌∷◌, take, drop, Option, Some, None}
use Rattle.script_grammar.specs.declared.instructions.Instruction.{Instruction}
use Rattle.script_grammar.specs.declared.instructions.Instruction.TheVariants.{Repeat, Each, Scope, Select}
use Rattle.script_grammar.specs.Blocks.{without_end}
use Rattle.script_grammar.specs.Tags.{launched_from}
use Rattle.script_reader.specs.declared.launches.Opened.{Opened}

-- how often the lines run that a line opens
abbrev pub turns_opened : Instruction → Option ℕ
turns_opened (Repeat n) = Some n
turns_opened (Each c) = Some without_end
turns_opened (Scope supervisor) = Some 1
turns_opened Select = Some 1
turns_opened other = None

-- of all blocks, those that were launched since the innermost line was opened
abbrev pub launched_since : List Opened → List ℕ → List ℕ
launched_since [] blocks = blocks
launched_since (o ∷ outer) blocks = drop o.from blocks

-- of each line that is open, how often its lines run, and what was launched before them
abbrev pub launched_before : List Opened → List ℕ → List (ℕ × List ℕ)
launched_before [] blocks = []
launched_before (o ∷ outer) blocks = (o.turns, launched_since outer (take o.from blocks)) ∷ launched_before outer (take o.from blocks)

-- what stands before an inner line reaches no further than what stands before it
abbrev pub AreNested : List Opened → ℕ → Type 0
AreNested [] n = Unit {0}
AreNested (o ∷ outer) n = (o.from ≤ n) × AreNested outer o.from

-- what is launched in all, if these blocks were, and these lines follow
abbrev pub launched_with : List Opened → List ℕ → List Instruction → List ℕ
launched_with outer blocks code = launched_from (launched_before outer blocks) (launched_since outer blocks) code
