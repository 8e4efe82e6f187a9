-- What each status says of the words, of what was read and of what was written.
use Rattle.std.specs.Prelude.{◌≡◌, ℕ, ◌≤◌, ◌==◌, Bool, true, ◌||◌, List, length, Option, Some, None}
use Rattle.co_base.specs.Streams.{Rose, Gave, IsDrained, Took, TookPart}
use Rattle.job_model.specs.declared.acts.End.{End}
use Rattle.job_model.specs.declared.acts.End.TheVariants as ends
use Rattle.script_grammar.specs.declared.fault.ScriptFault.{ScriptFault}
use Rattle.script_grammar.specs.Programs.{Program}
use Rattle.script_grammar.specs.Grammar.{Spells}
use Rattle.script_grammar.specs.Faulty.{FirstFault}
use Rattle.script_grammar.specs.Canonical.{canonical_text}
use Rattle.script_grammar.specs.Generated.{generated}
use Rattle.run_report.specs.Faults.{fault_text}
use Rattle.run_report.specs.Summaries.{summary_text}
use Rattle.run_claims.specs.Runs.{RunsTo}
use Rattle.run_claims.specs.Reports.{Reports}
use Rattle.command_line.specs.declared.words.Command.{Command}
use Rattle.command_line.specs.declared.words.Command.TheVariants.{Run, Check, Sum}
use Rattle.command_line.specs.declared.status.Ending.{Ending}
use Rattle.command_line.specs.declared.status.Ending.TheVariants as ending
use Rattle.command_line.specs.declared.status.Status.{Status}
use Rattle.command_line.specs.declared.status.Status.TheVariants as status
use Rattle.command_line.specs.Commands.{reads}

-- the number with which the process ends
abbrev pub number_of : Status → ℕ
number_of status.Completed = 0
number_of status.Cancelled = 1
number_of status.Refused = 2
number_of status.NoScript = 3
number_of status.Unfinished = 4
number_of status.ReadFault = 5
number_of status.WriteFault = 6
number_of status.NoMemory = 7

-- the status of a call whose whole text was written
abbrev pub status_of : Ending → Status
status_of ending.Completed = status.Completed
status_of ending.Cancelled = status.Cancelled
status_of ending.Unfinished = status.Unfinished
status_of ending.NoScript = status.NoScript

-- ---- what a text says of the input

-- how a run ends whose root has ended so, if it has
abbrev pub ending_of : Option End → Ending
ending_of None = ending.Unfinished
ending_of (Some (ends.Completed v)) = ending.Completed
ending_of (Some (ends.Cancelled cause)) = ending.Cancelled

-- the input is a script, and the text the report of a run of it, which ended so
pub record ReportsRun (how : Ending) (input text : List ℕ) : Type 0 where
  pub root : Option End
  pub ending : ending_of root ≡ how
  pub reports : Reports root input text

-- the text is the summary of a run of the generated script of this size, which ended so
pub record SumsUp (size : ℕ) (how : Ending) (text : List ℕ) : Type 0 where
  pub root : Option End
  pub ending : ending_of root ≡ how
  pub run : RunsTo root (generated size)
  pub is_summary : text ≡ summary_text (generated size) run.books

-- the input is a script, and the text its canonical form
pub record Prints (input text : List ℕ) : Type 0 where
  pub program : Program
  pub spelled : Spells input program
  pub is_canonical : text ≡ canonical_text program

-- the input is no script, and the text names its first faulty line and the fault
pub record Refuses (input text : List ℕ) : Type 0 where
  pub fault : ScriptFault
  pub refused : FirstFault input fault
  pub no_script : (p : Program) → Spells input p → ⊥
  pub is_line : text ≡ fault_text fault

-- what a text says that answers an input by a run of it
abbrev pub Ran : Ending → List ℕ → List ℕ → Type 0
Ran ending.NoScript input text = Refuses input text
Ran how input text = ReportsRun how input text

-- what a text says that answers an input by its canonical form
abbrev pub Checked : Ending → List ℕ → List ℕ → Type 0
Checked ending.Completed input text = Prints input text
Checked ending.Cancelled input text = ⊥
Checked ending.Unfinished input text = ⊥
Checked ending.NoScript input text = Refuses input text

-- what a text says of a sum
abbrev pub Added : ℕ → Ending → List ℕ → Type 0
Added size ending.NoScript text = ⊥
Added size how text = SumsUp size how text

-- ---- what a status says of the call

-- what contracts see of a source or of a sink: the bytes that are left or held, where they are told, and the faults
pub record Stream : Type 0 where
  pub bytes : Option (List ℕ)
  pub faults : ℕ

abbrev pub stream : Option (List ℕ) → ℕ → Stream
stream bytes faults = record { bytes = bytes; faults = faults }

-- so much of the text was taken that this holds; the text answers the bytes that the source gave, which are all that it
-- had, unless they are too many for a script
pub record ServesInput (Answers : List ℕ → List ℕ → Type 0) (source source' : Stream) (IsTaken : List ℕ → Type 0) : Type 0 where
  pub input : List ℕ
  pub given : Gave source.bytes source'.bytes input
  pub all : length input ≤ 1048576 → IsDrained source'.bytes
  pub text : List ℕ
  pub answers : Answers input text
  pub taken : IsTaken text

-- the same where nothing is read
pub record ServesAlone (Answers : List ℕ → Type 0) (source source' : Stream) (IsTaken : List ℕ → Type 0) : Type 0 where
  pub unread : source' ≡ source
  pub text : List ℕ
  pub answers : Answers text
  pub taken : IsTaken text

-- the text that a command makes, where it ends so; what it says is the same for every number of workers
abbrev pub Serves : Command → Ending → Stream → Stream → (List ℕ → Type 0) → Type 0
Serves (Run workers) how source source' IsTaken = ServesInput (Ran how) source source' IsTaken
Serves Check how source source' IsTaken = ServesInput (Checked how) source source' IsTaken
Serves (Sum size workers) how source source' IsTaken = ServesAlone (Added size how) source source' IsTaken

-- the text was written, whole
abbrev pub Writes : Option Command → Ending → Stream → Stream → Stream → Stream → Type 0
Writes None how source source' sink sink' = ⊥
Writes (Some command) how source source' sink sink' = Serves command how source source' (λ text. Took sink.bytes sink'.bytes text)

-- the source failed
abbrev pub FailsToRead : Option Command → Stream → Stream → Type 0
FailsToRead None source source' = ⊥
FailsToRead (Some command) source source' = (reads command ≡ true) × Rose source.faults source'.faults

-- the sink failed after a part of the text
pub record BreaksOff (command : Command) (source source' sink sink' : Stream) : Type 0 where
  pub rose : Rose sink.faults sink'.faults
  pub how : Ending
  pub serves : Serves command how source source' (λ text. TookPart text sink.bytes sink'.bytes)

abbrev pub FailsToWrite : Option Command → Stream → Stream → Stream → Stream → Type 0
FailsToWrite None source source' sink sink' = ⊥
FailsToWrite (Some command) source source' sink sink' = BreaksOff command source source' sink sink'

-- a call that was asked this, if its words are a command, that found its source and its sink so, and left them so
abbrev pub Means : Status → Option Command → Stream → Stream → Stream → Stream → Type 0
Means status.Completed asked source source' sink sink' = Writes asked ending.Completed source source' sink sink'
Means status.Cancelled asked source source' sink sink' = Writes asked ending.Cancelled source source' sink sink'
Means status.Refused asked source source' sink sink' = asked ≡ None
Means status.NoScript asked source source' sink sink' = Writes asked ending.NoScript source source' sink sink'
Means status.Unfinished asked source source' sink sink' = Writes asked ending.Unfinished source source' sink sink'
Means status.ReadFault asked source source' sink sink' = FailsToRead asked source source'
Means status.WriteFault asked source source' sink sink' = FailsToWrite asked source source' sink sink'
Means status.NoMemory asked source source' sink sink' = Unit {0}

-- ---- how a call ends that nothing disturbs

-- neither the source nor the sink failed
pub record IsUndisturbed (source source' sink sink' : Stream) : Type 0 where
  pub reading : Rose source.faults source'.faults → ⊥
  pub writing : Rose sink.faults sink'.faults → ⊥

-- the bytes of a source are told, and spell a script
abbrev pub SpellsAny : Stream → Type 0
SpellsAny source = (bytes : List ℕ) × (program : Program) × (source.bytes ≡ Some bytes) × Spells bytes program

-- the bytes of a source are told, and spell none
abbrev pub SpellsNone : Stream → Type 0
SpellsNone source = (bytes : List ℕ) × (source.bytes ≡ Some bytes) × ((program : Program) → Spells bytes program → ⊥)

-- the numbers with which a run ends, but for want of memory
abbrev pub ends_run : ℕ → Bool
ends_run number = number == 0 || (number == 1 || number == 4)

-- what the source has to hold for a command, and the numbers with which the call then ends, but for want of memory
abbrev pub Needs : Command → Stream → Type 0
Needs (Run workers) source = SpellsAny source
Needs Check source = SpellsAny source
Needs (Sum size workers) source = Unit {0}

abbrev pub ends_whole : Command → ℕ → Bool
ends_whole (Run workers) number = ends_run number
ends_whole Check number = number == 0
ends_whole (Sum size workers) number = ends_run number

-- a call with these words comes to its end: with a script to its text, and without one to the line of a fault
pub record Completes (number : ℕ) (asked : Option Command) (source source' sink sink' : Stream) : Type 0 where
  pub whole : (command : Command) → asked ≡ Some command → IsUndisturbed source source' sink sink' → Needs command source
      → (ends_whole command number || number == 7) ≡ true
  pub no_script : (command : Command) → asked ≡ Some command → reads command ≡ true → IsUndisturbed source source' sink sink'
      → SpellsNone source → (number == 3 || number == 7) ≡ true
