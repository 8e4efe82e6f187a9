-- What an explanation says.
use Rattle.std.specs.Prelude.{◌≡◌, ℕ, List, [], ◌∷◌, ◌++◌, map, Bool, true, false, ◌==◌, nat_lt, Option, Some, None, Result, Ok, Err, Vec, String, string_bytes, slice_get, if◌then◌else◌}
use Rattle.std.specs.Global.{Global}
use Rattle.std.specs.List.{flat_map, list_any}
use Rattle.std.specs.Str.{bytes_eq}
use Rattle.std.specs.Fmt.{decimal}
use lib.Chars.{codes}
use Rattle.script_grammar.specs.declared.fault.FaultKind.{FaultKind}
use Rattle.script_grammar.specs.declared.fault.FaultKind.TheVariants.{Memory as NoMemory}
use Rattle.script_grammar.specs.declared.fault.ScriptFault.{ScriptFault}
use Rattle.script_grammar.specs.Programs.{Block, Program}
use Rattle.script_grammar.specs.Tags.{block_of_tag, coroutine_count}
use Rattle.script_grammar.specs.Grammar.{Spells}
use Rattle.script_grammar.specs.Faulty.{FirstFault}
use Rattle.report_reader.specs.Words.{words_of}
use Rattle.report_reader.specs.Reports.{Line}
use Rattle.report_reader.specs.declared.line.Said.{Said}
use Rattle.report_reader.specs.declared.line.Said.TheVariants.{Note, Job, Element}
use Rattle.run_explanation.specs.Parts.{script_in, report_in}
use Rattle.run_explanation.specs.Fitting.{lines_for}
use Rattle.run_explanation.specs.Waiting.{waiting, word_at}
use Rattle.run_explanation.specs.declared.classes.Class.{Class}
use Rattle.run_explanation.specs.declared.classes.Class.TheVariants.{Unfinished, Lost, Failed, Quiet}
use Rattle.run_explanation.specs.declared.entries.Entry.{Entry}
use Rattle.run_explanation.specs.declared.answer.Unexplained.{Unexplained}
use Rattle.run_explanation.specs.declared.answer.Unexplained.TheVariants as faults

-- ---- coroutines

abbrev pub name_of_block : Option Block → List ℕ
name_of_block None = codes "coroutine"
name_of_block (Some block) = block.name

abbrev pub name_by : Program → Option ℕ → List ℕ
name_by p None = codes "coroutine"
name_by p (Some block) = name_of_block (slice_get p.blocks block)

-- the name of the block of a coroutine
abbrev pub name_of_tag : Program → ℕ → List ℕ
name_of_tag p tag = if nat_lt tag (coroutine_count p) then name_by p (block_of_tag p tag) else codes "coroutine"

-- that a coroutine waits: `worker 3 waits`
abbrev pub waits_text : Program → ℕ → List ℕ
waits_text p tag = name_of_tag p tag ++ (codes " " ++ decimal tag ++ codes " waits")

-- ---- Jobs and elements

-- of a Job by what its line says of it: it failed; or it has not ended, and is that of a coroutine that does not wait
abbrev pub job_class : Program → List ℕ → ℕ → List ℕ → Class
job_class p waits row state =
    if bytes_eq state (codes "failed") then Failed
    else if bytes_eq state (codes "completed") then Quiet
    else if bytes_eq state (codes "cancelled") then Quiet
    else if list_any (λ tag. tag == row) waits then Quiet
    else if nat_lt row (coroutine_count p) then Unfinished
    else Quiet

abbrev pub class_by : Program → List ℕ → Said → List ℕ → Class
class_by p waits (Note tag) text = Quiet
class_by p waits (Job row) text = job_class p waits row (word_at (words_of text) 2)
class_by p waits Element text = Lost

abbrev pub class_of : Program → List ℕ → Line → Class
class_of p waits line = class_by p waits line.0 line.1

abbrev pub is_of : Class → Class → Bool
is_of Unfinished Unfinished = true
is_of Lost Lost = true
is_of Failed Failed = true
is_of class other = false

abbrev pub texts_from : Program → List ℕ → Class → List Line → List (List ℕ)
texts_from p waits class [] = []
texts_from p waits class (line ∷ lines) =
    if is_of class (class_of p waits line) then line.1 ∷ texts_from p waits class lines else texts_from p waits class lines

-- the lines of this class
abbrev pub texts_of : Program → Class → List Line → List (List ℕ)
texts_of p class lines = texts_from p (waiting lines) class lines

-- ---- the answer

-- what did not come to its end: coroutines that wait, Jobs of others that have not ended, elements that were not received
abbrev pub left_open : Program → List Line → List (List ℕ)
left_open p lines = map (waits_text p) (waiting lines) ++ (texts_of p Unfinished lines ++ texts_of p Lost lines)

-- the same, and Jobs that failed
abbrev pub headings : Program → List Line → List (List ℕ)
headings p lines = left_open p lines ++ texts_of p Failed lines

abbrev pub plain_byte : ℕ → ℕ
plain_byte b = if b == 10 then 32 else b

-- a hint, without line feeds
abbrev pub plain : List ℕ → List ℕ
plain hint = map plain_byte hint

-- a hint on a line of its own, which begins with two blanks
abbrev pub hint_line : String Global → List ℕ
hint_line hint = codes "  " ++ (plain (string_bytes hint) ++ codes "\n")

-- an entry: its heading with a hint behind it, and further hints
abbrev pub entry_text : Entry → List ℕ
entry_text e = e.heading.items ++ (plain (string_bytes e.hint) ++ (codes "\n" ++ flat_map hint_line e.more.items))

-- the line of a run of which nothing is left open
abbrev pub calm_text : List (List ℕ) → List ℕ
calm_text [] = codes "all coroutines ended, and every element was received\n"
calm_text (heading ∷ more) = []

-- the headings of entries
abbrev pub headed : List Entry → List (List ℕ)
headed entries = map (λ e. e.heading.items) entries

-- the text has an entry for each heading, in their order, whatever their hints say
pub record Explains (p : Program) (lines : List Line) (text : List ℕ) : Type 0 where
  pub entries : List Entry
  pub all : headed entries ≡ headings p lines
  pub is_text : text ≡ calm_text (left_open p lines) ++ flat_map entry_text entries

-- the input is a script and a report of it, and the text explains that
pub record IsExplained (input text : List ℕ) : Type 0 where
  pub program : Program
  pub lines : List Line
  pub spelled : Spells (script_in input) program
  pub is_report : lines_for program (report_in input) ≡ Ok lines
  pub explains : Explains program lines text

-- the first line of the script that is none, or of a report that cannot be one of this script
abbrev pub Refuses : List ℕ → Unexplained → Type 0
Refuses input (faults.NoScript fault) = FirstFault (script_in input) fault
Refuses input (faults.NoReport line) = (p : Program) × Spells (script_in input) p × (lines_for p (report_in input) ≡ Err line)
Refuses input faults.Memory = Unit {0}

-- what comes of an input: an explanation, or why there is none
abbrev pub Gives : List ℕ → Result (Vec ℕ Global) Unexplained → Type 0
Gives input (Ok text) = IsExplained input text.items
Gives input (Err fault) = Refuses input fault

-- that no memory was found is no fault of a text
abbrev pub IsOfText : FaultKind → Type 0
IsOfText NoMemory = ⊥
IsOfText other = Unit {0}

-- what a fault of the script is told as
abbrev pub Blames : ScriptFault → Unexplained → Type 0
Blames fault (faults.NoScript other) = IsOfText fault.kind × (other ≡ fault)
Blames fault (faults.NoReport line) = ⊥
Blames fault faults.Memory = Unit {0}

-- the same of a report of this script
abbrev pub GivesFor : Program → List ℕ → Result (Vec ℕ Global) Unexplained → Type 0
GivesFor p report (Ok text) = (lines : List Line) × (lines_for p report ≡ Ok lines) × Explains p lines text.items
GivesFor p report (Err (faults.NoScript fault)) = ⊥
GivesFor p report (Err (faults.NoReport line)) = lines_for p report ≡ Err line
GivesFor p report (Err faults.Memory) = Unit {0}

-- ---- who waits, alone

-- an entry on one line, which begins with two blanks, without its further hints
abbrev pub wait_line : Entry → List ℕ
wait_line e = codes "  " ++ (e.heading.items ++ (plain (string_bytes e.hint) ++ codes "\n"))

-- the text has a line for each coroutine that waits, in their order, whatever their hints say
pub record TellsWaits (p : Program) (lines : List Line) (text : List ℕ) : Type 0 where
  pub entries : List Entry
  pub all : headed entries ≡ map (waits_text p) (waiting lines)
  pub is_text : text ≡ flat_map wait_line entries

-- the same of a report, if it is one of this script, or of nothing
abbrev pub WaitsOf : Program → Result (List Line) ℕ → List ℕ → Type 0
WaitsOf p (Ok lines) text = TellsWaits p lines text
WaitsOf p (Err line) text = text ≡ []
