-- What each outcome of a call says of the words, of what was read and of what was written.
use Rattle.std.specs.Prelude.{◌≡◌, ℕ, ◌≤◌, true, List, length, Option, Some, None, Result, Ok, Err, String, map, option_and_then, string_bytes}
use Rattle.std.specs.Global.{Global}
use Rattle.std.specs.declared.vec.IntoIter.{IntoIter}
use Rattle.co_base.specs.Streams.{Rose, Gave, GaveJust, IsDrained, Took, TookPart}
use Rattle.job_model.specs.declared.acts.End.{End}
use Rattle.job_model.specs.declared.acts.End.TheVariants as job
use Rattle.script_grammar.specs.Programs.{Program}
use Rattle.script_grammar.specs.Grammar.{Spells}
use Rattle.run_claims.specs.Reports.{Reports}
use Rattle.engine_one.specs.Orders.{MadeInOrder}
use Rattle.end_search.specs.Blocks.{Explores, does_suit}
use Rattle.end_search.specs.declared.wanted.Wanted.{Wanted}
use Rattle.end_search.specs.declared.ways.Verdict.{Verdict}
use Rattle.end_search.specs.declared.ways.Verdict.TheVariants as verdict
use Rattle.run_explore.specs.Words.{Request, asked_of, ends, report_of, in_order}
use Rattle.program_input.specs.Arguments.{arguments_given}
use Rattle.run_explore.specs.declared.top.Answer.{Answer}
use Rattle.run_explore.specs.declared.outcome.Ending.{Ending}
use Rattle.run_explore.specs.declared.outcome.Ending.TheVariants as ending
use Rattle.run_explore.specs.declared.outcome.Outcome.{Outcome}
use Rattle.run_explore.specs.declared.outcome.Outcome.TheVariants as outcomes
use Rattle.run_explore.specs.declared.outcome.Message.{Message}
use Rattle.run_explore.specs.declared.outcome.Message.TheVariants as messages

-- ---- numbers and messages

-- the number with which a search ends
abbrev pub number_of_search : Verdict → ℕ
number_of_search verdict.Exhausted = 0
number_of_search verdict.Found = 1
number_of_search verdict.Cut = 4

-- the number with which the report of a run ends, as that of the run itself
abbrev pub number_of_run : Option End → ℕ
number_of_run None = 4
number_of_run (Some (job.Completed v)) = 0
number_of_run (Some (job.Cancelled cause)) = 1

-- the number with which the process ends
abbrev pub number_of : Outcome → ℕ
number_of (outcomes.Written (ending.Searched verdict)) = number_of_search verdict
number_of (outcomes.Written (ending.Ran root)) = number_of_run root
number_of (outcomes.Written ending.NoScript) = 3
number_of outcomes.Refused = 2
number_of outcomes.NoEnd = 2
number_of outcomes.ReadFault = 5
number_of outcomes.WriteFault = 6
number_of outcomes.NoMemory = 7

-- what standard error says
abbrev pub message_of : Outcome → Option Message
message_of (outcomes.Written how) = None
message_of outcomes.Refused = Some messages.Usage
message_of outcomes.NoEnd = Some messages.NoEnd
message_of outcomes.ReadFault = Some messages.ReadFault
message_of outcomes.WriteFault = Some messages.WriteFault
message_of outcomes.NoMemory = Some messages.NoMemory

-- ---- what a text says of the input

-- the input is a script, and the text shows ends of runs of it that were looked for, if not all
pub record ShowsEnds (wanted : Option Wanted) (verdict : Verdict) (input text : List ℕ) : Type 0 where
  pub program : Program
  pub spelled : Spells input program
  pub explores : Explores program wanted verdict text

-- the input is a script, and the text the report of a run of it that was looked for, whose root ended so, if it has
abbrev pub ShowsEnd : Option Wanted → Option End → List ℕ → List ℕ → Type 0
ShowsEnd wanted root input text = (does_suit wanted root ≡ true) × Reports root input text

-- the input is a script, and the text the report of a run of it that began with turns of these coroutines, in this order, and whose root
-- ended so, if it has
pub record ShowsOrder (order : List ℕ) (root : Option End) (input text : List ℕ) : Type 0 where
  pub reports : Reports root input text
  pub made : MadeInOrder reports.program order reports.run.books reports.run.channels reports.run.jobs

-- what the text of a call that ends so says of its input: what was asked for, unless the input is no script
abbrev pub Tells : Ending → Request → List ℕ → List ℕ → Type 0
Tells (ending.Searched verdict) (ends limit) input text = ShowsEnds limit.wanted verdict input text
Tells (ending.Searched verdict) other input text = ⊥
Tells (ending.Ran root) (ends limit) input text = ⊥
Tells (ending.Ran root) (report_of number limit) input text = ShowsEnd limit.wanted root input text
Tells (ending.Ran root) (in_order order) input text = ShowsOrder order root input text
Tells ending.NoScript request input text = (p : Program) → Spells input p → ⊥

-- ---- what an outcome says of the call

-- the bytes of a source or a sink, and how often it failed
pub record Stream : Type 0 where
  pub bytes : Option (List ℕ)
  pub faults : ℕ

abbrev pub stream : Option (List ℕ) → ℕ → Stream
stream bytes faults = record { bytes = bytes; faults = faults }

-- the words are those of a call, the source gave an input, all that it had unless that is too long for a script, and the text tells of it
-- what was asked for
pub record Answers (asked : Option Request) (how : Ending) (source source' : Stream) (text : List ℕ) : Type 0 where
  pub what : Request
  pub is_asked : asked ≡ Some what
  pub input : List ℕ
  pub given : Gave source.bytes source'.bytes input
  pub all : length input ≤ 1048576 → IsDrained source'.bytes
  pub tells : Tells how what input text

-- the text was written whole
pub record Writes (asked : Option Request) (how : Ending) (source source' sink sink' : Stream) : Type 0 where
  pub text : List ℕ
  pub answers : Answers asked how source source' text
  pub taken : Took sink.bytes sink'.bytes text

-- the sink failed after a part of the text
pub record BreaksOff (asked : Option Request) (source source' sink sink' : Stream) : Type 0 where
  pub rose : Rose sink.faults sink'.faults
  pub how : Ending
  pub text : List ℕ
  pub answers : Answers asked how source source' text
  pub part : TookPart text sink.bytes sink'.bytes

-- the words are those of a call
abbrev pub IsAsked : Option Request → Type 0
IsAsked None = ⊥
IsAsked (Some what) = Unit {0}

-- they ask for the report of an end
abbrev pub AsksReport : Option Request → Type 0
AsksReport (Some (report_of number limit)) = Unit {0}
AsksReport other = ⊥

-- why a call has no text to write; that no memory was found says nothing
abbrev pub Fails : Outcome → Option Request → Stream → Stream → Type 0
Fails (outcomes.Written how) asked source source' = ⊥
Fails outcomes.Refused asked source source' = (asked ≡ None) × (source ≡ source')
Fails outcomes.NoEnd asked source source' = AsksReport asked
Fails outcomes.ReadFault asked source source' = IsAsked asked × Rose source.faults source'.faults
Fails outcomes.WriteFault asked source source' = ⊥
Fails outcomes.NoMemory asked source source' = Unit {0}

-- what each outcome says: a text was written whole, or a part of it until a write failed, or nothing was written
abbrev pub Means : Outcome → Option Request → Stream → Stream → Stream → Stream → Type 0
Means (outcomes.Written how) asked source source' sink sink' = Writes asked how source source' sink sink'
Means outcomes.WriteFault asked source source' sink sink' = BreaksOff asked source source' sink sink'
Means other asked source source' sink sink' = Fails other asked source source' × (sink ≡ sink')

-- what a call comes to that has this text to write, or none
abbrev pub IsMade : Result Answer Outcome → Option Request → Stream → Stream → Type 0
IsMade (Ok answer) asked source source' = Answers asked answer.ending source source' answer.text.items
IsMade (Err outcome) asked source source' = Fails outcome asked source source'

-- the same of what is asked for of the bytes of the input
abbrev pub IsMadeOf : Request → List ℕ → Result Answer Outcome → Type 0
IsMadeOf what input (Ok answer) = Tells answer.ending what input answer.text.items
IsMadeOf what input (Err outcomes.NoEnd) = AsksReport (Some what)
IsMadeOf what input (Err outcomes.NoMemory) = Unit {0}
IsMadeOf what input (Err other) = ⊥

-- what a write of an answer came to
abbrev pub IsWritten : Outcome → Answer → Stream → Stream → Type 0
IsWritten (outcomes.Written how) answer sink sink' = (how ≡ answer.ending) × Took sink.bytes sink'.bytes answer.text.items
IsWritten outcomes.WriteFault answer sink sink' = Rose sink.faults sink'.faults × TookPart answer.text.items sink.bytes sink'.bytes
IsWritten other answer sink sink' = ⊥

-- what the arguments ask for
abbrev pub asked_for : {E : Type 0} → Result (IntoIter (String Global) Global) E → Option Request
asked_for arguments = option_and_then (λ all. asked_of (map string_bytes all)) (arguments_given arguments)
