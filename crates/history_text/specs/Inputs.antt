-- The parts of a text, and what a reader leaves of its lines.
use Rattle.std.specs.Prelude.{◌≡◌, ℕ, Bool, true, false, List, [], ◌∷◌, ◌++◌, Vec, Option, Some, None, Result, Ok, Err}
use Rattle.std.specs.Global.{Global}
use lib.Chars.{codes}
use Rattle.job_model.specs.Trees.{Shape}
use Rattle.report_reader.specs.Words.{words_of}
use Rattle.history_text.specs.declared.line.Line.{Line}
use Rattle.history_text.specs.declared.lines.NoLines.{NoLines}
use Rattle.history_text.specs.declared.lines.NoLines.TheVariants as no_lines
use Rattle.history_text.specs.Numbers.{shape_by}

-- the lines that make a script of channels alone: a main that does nothing
abbrev pub no_coroutine : List ℕ
no_coroutine = codes "coroutine main\nend\n"

-- a text in two parts, with the line between them, which has these numbers
pub record IsCut (jobs : Shape) (header text bytes : List ℕ) : Type 0 where
  pub line : List ℕ
  pub mark : shape_by (words_of line) ≡ Some jobs
  pub bytes_are : bytes ≡ header ++ (line ++ 10 ∷ text)

-- this is the number of the line at fault, unless memory ran out
abbrev pub FaultIs : NoLines → Result (List Line) ℕ → Type 0
FaultIs (no_lines.AtLine n) read = read ≡ Err n
FaultIs no_lines.Memory read = Unit {0}

-- the lines that are to be read, or the fault
abbrev pub GivesLines : Result (Vec Line Global) NoLines → Result (List Line) ℕ → Type 0
GivesLines (Ok lines) read = read ≡ Ok lines.items
GivesLines (Err fault) read = FaultIs fault read

-- one line was read: it is the last now, or else it is none
abbrev pub LeavesLine : Bool → List Line → List Line → Option Line → Type 0
LeavesLine true old new (Some line) = new ≡ old ++ line ∷ []
LeavesLine true old new None = ⊥
LeavesLine false old new read = read ≡ None

-- the same; else the line of this number is at fault, unless memory ran out
abbrev pub LeavesAt : ℕ → Result (Unit {0}) NoLines → List Line → List Line → Option Line → Type 0
LeavesAt number (Ok x) old new read = LeavesLine true old new read
LeavesAt number (Err (no_lines.AtLine n)) old new read = (read ≡ None) × (n ≡ number)
LeavesAt number (Err no_lines.Memory) old new read = Unit {0}
