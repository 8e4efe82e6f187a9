-- Numbers that are kept of the script so far, and what they are of.
use Rattle.std.specs.Prelude.{◌≡◌, ℕ, ◌<◌, ◌≤◌, Option, Some, None, Result, Ok, Err}
use Rattle.script_grammar.specs.declared.fault.FaultKind.{FaultKind}
use Rattle.script_grammar.specs.Programs.{places_in}
use Rattle.script_grammar.specs.Blocks.{Open}
use Rattle.script_grammar.specs.Reads.{Read, load}
use Rattle.script_grammar.specs.Grammar.{Within}
use Rattle.script_grammar.specs.Forms.{limited}
use Rattle.script_reader.specs.declared.limits.Totals.{Totals}

-- n is the number that is meant, or both are above the limit
pub record IsUpTo (limit n exact : ℕ) : Type 0 where
  pub same : n ≤ limit → n ≡ exact
  pub above : limit < n → limit < exact

-- the weight of the block that is open
abbrev pub open_weight : Option Open → ℕ
open_weight None = 0
open_weight (Some b) = b.weight

-- these are the totals of this script
pub record AreTotals (totals : Totals) (s : Read) : Type 0 where
  pub within : Within s
  pub places : totals.places ≡ places_in s.channels
  pub weight : totals.weight ≡ open_weight s.current
  pub load : totals.load ≡ load s

-- the totals of a script, or its fault where it is not within the limits
abbrev pub GivesTotals : Result Totals FaultKind → Read → Type 0
GivesTotals (Ok totals) s = AreTotals totals s
GivesTotals (Err kind) s = limited s ≡ Err kind
