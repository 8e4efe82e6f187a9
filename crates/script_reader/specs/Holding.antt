-- What each line keeps of the script so far in memory.
use Rattle.std.specs.Prelude.{◌≡◌, ℕ, ◌+◌, ◌*◌, ◌<◌, nat_le, nat_lt, List, [], ◌∷◌, length, true, Option, Some, None}
use Rattle.std.specs.List.{list_all}
use Rattle.script_grammar.specs.Programs.{Block, block_names, places_in}
use Rattle.script_grammar.specs.Blocks.{Open}
use Rattle.script_grammar.specs.Reads.{Read, Form, load}
use Rattle.script_grammar.specs.Grammar.{Says, Within}
use Rattle.script_grammar.specs.Places.{place_from}
use Rattle.script_reader.specs.declared.reading.Reading.{Reading}
use Rattle.script_reader.specs.Reading.{view}

-- some words say this
abbrev pub IsSaid : Read → Form → Type 0
IsSaid s form = (words : List (List ℕ)) × Says s words form

-- no block has the name of the block that is open
abbrev pub IsNewBlock : List Block → Option Open → Type 0
IsNewBlock blocks None = Unit {0}
IsNewBlock blocks (Some b) = place_from 0 b.name (block_names blocks) ≡ None

-- each Job that is named is launched, and each line that is open runs
abbrev pub WeighsJobs : Option Open → Type 0
WeighsJobs None = Unit {0}
WeighsJobs (Some b) = (length b.jobs < b.weight) × (list_all (nat_le 1) b.nest ≡ true)

-- the script so far is within the limits, each block has a weight, and spawns are of blocks
pub record IsKept (s : Read) : Type 0 where
  pub within : Within s
  pub weights : length s.weights ≡ length s.blocks
  pub some : list_all (nat_le 1) s.weights ≡ true
  pub spawns : list_all (λ t. nat_lt t.0 (length s.weights)) s.spawns ≡ true
  pub jobs : WeighsJobs s.current
  pub new : IsNewBlock s.blocks s.current

-- the same in memory, with the number of places and the load
pub record Holds (r : Reading) : Type 0 where
  pub kept : IsKept (view r)
  pub places : r.places ≡ places_in (view r).channels
  pub load : r.load ≡ load (view r)

-- ---- how many blocks and lines there may be

-- how many lines these blocks have
abbrev pub line_count : List Block → ℕ
line_count [] = 0
line_count (b ∷ bs) = length b.code + line_count bs

abbrev pub open_cost : Option Open → ℕ
open_cost None = 0
open_cost (Some b) = 12 + length b.code

-- how many bytes blocks take at least: 16 where one is closed, and 12 while it is open, and one for each line
abbrev pub cost : Read → ℕ
cost s = 16 * length s.blocks + line_count s.blocks + open_cost s.current
