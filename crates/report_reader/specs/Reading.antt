-- A report as it lies in memory.
use Rattle.std.specs.Prelude.{◌≡◌, ℕ, List, map, Bool, true, false, Option, Some, None, Result, Ok, Err, Vec}
use Rattle.std.specs.Global.{Global}
use Rattle.report_reader.specs.declared.line.Line.{Line}
use Rattle.report_reader.specs.declared.line.NoReport.{NoReport}
use Rattle.report_reader.specs.declared.line.NoReport.TheVariants.{AtLine, Memory}
use Rattle.report_reader.specs.declared.reader.Reading.{Reading}
use Rattle.report_reader.specs.Reports.{Line as Told, Read}

-- a line
abbrev pub told : Line → Told
told l = (l.said, l.text.now)

-- the lines
abbrev pub told_lines : List Line → List Told
told_lines lines = map told lines

-- what was read so far
abbrev pub view : Reading → Read
view r = record { section = r.section; lines = told_lines r.lines.items }

-- the lines that are to be read, or the number of the line at fault, unless memory ran out
abbrev pub Gives : Result (Vec Line Global) NoReport → Result (List Told) ℕ → Type 0
Gives (Ok lines) report = report ≡ Ok (told_lines lines.items)
Gives (Err (AtLine n)) report = report ≡ Err n
Gives (Err Memory) report = Unit {0}

-- what a line left is what is to be read, if it may stand there
abbrev pub Leaves : Bool → Read → Option Read → Type 0
Leaves true new read = read ≡ Some new
Leaves false new read = read ≡ None

-- the same; else the line of this number is at fault, unless memory ran out
abbrev pub LeavesAt : ℕ → Result (Unit {0}) NoReport → Read → Option Read → Type 0
LeavesAt number (Ok x) new read = read ≡ Some new
LeavesAt number (Err (AtLine n)) new read = (read ≡ None) × (n ≡ number)
LeavesAt number (Err Memory) new read = Unit {0}
