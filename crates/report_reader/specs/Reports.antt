-- Which texts are reports: the lines of the books, then those of the Jobs, then those of the elements that nobody received.
use Rattle.std.specs.Prelude.{ℕ, ◌+◌, List, [], ◌∷◌, ◌++◌, Bool, true, false, ◌==◌, nat_le, nat_lt, Option, Some, None, Result, Ok, Err, if◌then◌else◌}
use Rattle.report_reader.specs.declared.line.Said.{Said}
use Rattle.report_reader.specs.declared.line.Said.TheVariants.{Note, Job, Element}
use Rattle.report_reader.specs.declared.line.Section.{Section}
use Rattle.report_reader.specs.declared.line.Section.TheVariants.{Books, Jobs, Elements}
use Rattle.report_reader.specs.Words.{lines_of}
use Rattle.report_reader.specs.Forms.{said_of}

-- a line with what it is
abbrev pub Line : Type 0
Line = Said × List ℕ

-- what may follow: books in the order of tags; the Jobs, of which the root's is the first, in the order of rows; elements
abbrev pub section_after : Section → Said → Option Section
section_after (Books t) (Note tag) = if nat_le t tag then Some (Books tag) else None
section_after (Books t) (Job row) = if row == 0 then Some (Jobs row) else None
section_after (Books t) Element = None
section_after (Jobs r) (Note tag) = None
section_after (Jobs r) (Job row) = if nat_lt r row then Some (Jobs row) else None
section_after (Jobs r) Element = Some Elements
section_after Elements (Note tag) = None
section_after Elements (Job row) = None
section_after Elements Element = Some Elements

-- the lines of the Jobs have begun
abbrev pub has_jobs : Section → Bool
has_jobs (Books t) = false
has_jobs (Jobs r) = true
has_jobs Elements = true

-- the lines so far, and what may follow them
pub record Read : Type 0 where
  pub section : Section
  pub lines : List Line

-- no line so far
abbrev pub nothing_read : Read
nothing_read = record { section = Books 0; lines = [] }

-- the same with one line more
abbrev pub read_more : List Line → List ℕ → Said → Option Section → Option Read
read_more lines line said None = None
read_more lines line said (Some section) = Some (record { section = section; lines = lines ++ (said, line) ∷ [] })

abbrev pub read_said : Read → List ℕ → Option Said → Option Read
read_said read line None = None
read_said read line (Some said) = read_more read.lines line said (section_after read.section said)

-- the same with this line, if it may stand there
abbrev pub read_line : Read → List ℕ → Option Read
read_line read line = read_said read line (said_of line)

abbrev pub or_none : {A B : Type 0} → Option A → Result B ℕ → (A → Result B ℕ) → Result B ℕ
or_none None other more = other
or_none (Some x) other more = more x

-- the lines of the text, of which these are left, the first with the number n; or the number of the first that is no line of a report
unfoldable pub lines_from : ℕ → Read → List (List ℕ) → Result (List Line) ℕ
lines_from n read [] = if has_jobs read.section then Ok read.lines else Err n
lines_from n read (line ∷ more) = or_none (read_line read line) (Err n) (λ next. lines_from (n + 1) next more)

-- the lines of a report; or the number of the first line of the text that is none. A text that ends before the line of the root's Job
-- lacks the line behind its last
abbrev pub report_of : List ℕ → Result (List Line) ℕ
report_of bytes = lines_from 1 nothing_read (lines_of bytes)
