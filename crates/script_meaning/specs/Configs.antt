-- Where a coroutine is.
use Rattle.std.specs.Prelude.{◌≡◌, ℕ, zero, suc, ◌+◌, ◌%◌, List, [], ◌∷◌, Option, Some, None, slice_get}
use Rattle.script_grammar.specs.declared.instructions.Operand.{Operand}
use Rattle.script_grammar.specs.declared.instructions.Operand.TheVariants.{Number, It, Sum}
use Rattle.script_grammar.specs.declared.instructions.Instruction.{Instruction}
use Rattle.script_grammar.specs.Programs.{Program}
use Rattle.script_grammar.specs.Tags.{code_of, size_of}
use Rattle.script_meaning.specs.declared.stage.Stage.{Stage}
use Rattle.script_meaning.specs.declared.stage.Stage.TheVariants.{Fresh, Running}

-- what a coroutine has entered and not left; each names the line at which it begins
pub data Entered : Type 0 where
  -- a repeat, with the number of turns to come after this one
  in_repeat : (head left : ℕ) → Entered
  -- an each, in one of its turns
  in_each : (head : ℕ) → Entered
  -- a scope, with its row
  in_scope : (head row : ℕ) → Entered

-- where a coroutine is, and what it knows
pub record Config : Type 0 where
  -- the line, numbered from 0, and how the coroutine goes on there
  pub line : ℕ
  pub stage : Stage
  -- what it has entered and not left, the innermost first
  pub entered : List Entered
  -- what its Job will have as its result
  pub result : ℕ
  -- the row that each Job name of its block means, by the number of the name
  pub rows : List ℕ
  -- the tag of what it launches next
  pub free : ℕ
  -- the element that it received last, and all that it received added up modulo 2^32; 0 before the first
  pub it : ℕ
  pub sum : ℕ

-- before its first line; what it launches has the tags after its own
abbrev pub fresh : ℕ → Config
fresh k = record { line = 0; stage = Fresh; entered = []; result = 0; rows = []; free = k + 1; it = 0; sum = 0 }

-- ---- where it goes

-- at the same line
abbrev pub at_stage : Stage → Config → Config
at_stage stage x = record x { stage = stage }

-- to run this line
abbrev pub at_line : ℕ → Config → Config
at_line i x = record x { line = i; stage = Running }

-- to run the line after it
abbrev pub next : Config → Config
next x = at_line (x.line + 1) x

-- with this entered and not left
abbrev pub with_entered : List Entered → Config → Config
with_entered entered x = record x { entered = entered }

-- to the first line of what it enters
abbrev pub into : Entered → Config → Config
into e x = next (with_entered (e ∷ x.entered) x)

-- ---- what it knows

-- with this as its result so far
abbrev pub with_result : ℕ → Config → Config
with_result v x = record x { result = v }

-- with an element that it received
abbrev pub received : ℕ → Config → Config
received v x = record x { it = v; sum = (x.sum + v) % 4294967296 }

-- the number that an operand stands for
abbrev pub operand : Config → Operand → ℕ
operand x (Number v) = v
operand x It = x.it
operand x Sum = x.sum

-- the row at this number, which is one of the list or the next
unfoldable pub set_row : ℕ → ℕ → List ℕ → List ℕ
set_row zero row [] = row ∷ []
set_row zero row (r ∷ rows) = row ∷ rows
set_row (suc i) row [] = row ∷ []
set_row (suc i) row (r ∷ rows) = r ∷ set_row i row rows

-- a name means the Job that was launched with it last
abbrev pub named : Option ℕ → ℕ → List ℕ → List ℕ
named None row rows = rows
named (Some job) row rows = set_row job row rows

-- after the launch of this block: the next tag is that past all that the child may launch
abbrev pub past_launch : Program → ℕ → Option ℕ → Config → Config
past_launch p block job x = record x { rows = named job x.free x.rows; free = x.free + size_of p block }

-- ---- scopes

-- a scope that was entered: the line at which it begins, its row, and what was entered round it
pub record InScope : Type 0 where
  pub head : ℕ
  pub row : ℕ
  pub around : List Entered

-- the innermost scope
abbrev pub scope_in : List Entered → Option InScope
scope_in [] = None
scope_in (in_repeat head left ∷ es) = scope_in es
scope_in (in_each head ∷ es) = scope_in es
scope_in (in_scope head row ∷ es) = Some (record { head = head; row = row; around = es })

-- the row of this scope, or else of k
abbrev pub row_or : ℕ → Option InScope → ℕ
row_or k None = k
row_or k (Some s) = s.row

-- the row of its innermost Job: that of the innermost scope, else its own
abbrev pub innermost : ℕ → Config → ℕ
innermost k x = row_or k (scope_in x.entered)

-- out of the scope, with all that was entered inside
abbrev pub outside : InScope → Config → Config
outside s x = with_entered s.around x

-- ---- the line

-- this is its line
abbrev pub LineIs : Program → ℕ → Config → Instruction → Type 0
LineIs p k x line = slice_get (code_of p k) x.line ≡ Some line

-- it runs this line
pub record IsAt (p : Program) (k : ℕ) (x : Config) (line : Instruction) : Type 0 where
  pub stage : x.stage ≡ Running
  pub line_is : LineIs p k x line

-- the name means this row
abbrev pub Names : Config → ℕ → ℕ → Type 0
Names x job row = slice_get x.rows job ≡ Some row
