-- What each outcome of a call says of the words, of what was read and of what was written.
use Rattle.std.specs.Prelude.{◌≡◌, ℕ, true, List, Option, Some, None, Result, Ok, Err, String, is_some, map, string_bytes}
use Rattle.std.specs.Global.{Global}
use Rattle.std.specs.declared.vec.IntoIter.{IntoIter}
use Rattle.co_base.specs.Streams.{Rose, Gave, GaveJust, IsDrained, Took, TookPart}
use Rattle.job_model.specs.Trees.{Shape}
use Rattle.script_grammar.specs.Faulty.{FirstFault}
use Rattle.script_grammar.specs.Grammar.{Spells}
use Rattle.script_grammar.specs.Programs.{Program, shape_of}
use Rattle.script_reader.specs.Scripts.{program_of}
use Rattle.history_text.specs.declared.input.Input.{Input}
use Rattle.history_text.specs.declared.line.Line.{Line}
use Rattle.history_text.specs.Numbers.{shape_of as job_shape}
use Rattle.history_text.specs.Readings.{HasFault, HasHistory}
use Rattle.history_check.specs.declared.verdict.Verdict.{Verdict}
use Rattle.history_check.specs.declared.verdict.Verdict.TheVariants as verdict
use Rattle.history_check.specs.Verdicts.{IsVerdict}
use Rattle.log_check.specs.declared.verdict.LogVerdict.{LogVerdict}
use Rattle.log_check.specs.declared.verdict.LogVerdict.TheVariants as of_log
use Rattle.log_check.specs.declared.verdict.ReportVerdict.TheVariants as of_report
use Rattle.log_check.specs.declared.verdict.ScriptVerdict.{ScriptVerdict}
use Rattle.log_check.specs.declared.verdict.ScriptVerdict.TheVariants as of_script
use Rattle.log_check.specs.Verdicts.{IsLogVerdict, IsScriptVerdict}
use Rattle.program_input.specs.Arguments.{arguments_given}
use Rattle.judge_run.specs.declared.outcome.Said.{Said}
use Rattle.judge_run.specs.declared.outcome.Said.TheVariants as said
use Rattle.judge_run.specs.declared.outcome.Outcome.{Outcome}
use Rattle.judge_run.specs.declared.outcome.Outcome.TheVariants as outcomes
use Rattle.judge_run.specs.declared.outcome.Message.{Message}
use Rattle.judge_run.specs.declared.outcome.Message.TheVariants as messages
use Rattle.judge_run.specs.declared.top.Answer.{Answer}
use Rattle.judge_run.specs.Texts.{HasLine}
use Rattle.judge_run.specs.Words.{asked_of}
use Rattle.judge_run.specs.declared.words.Asked.{Asked}
use Rattle.judge_run.specs.declared.words.Asked.TheVariants as requests

-- ---- numbers and messages

-- the number with which a process ends that says this of a log
abbrev pub number_of_log : LogVerdict → ℕ
number_of_log (of_log.Stands root) = 0
number_of_log (of_log.MayNotCome n) = 1
number_of_log (of_log.NotSo n) = 1
number_of_log (of_log.NoItem n) = 1
number_of_log (of_log.NotShown n) = 4

-- and this of a script, and of a log or a report
abbrev pub number_of_script : ScriptVerdict → ℕ
number_of_script (of_script.Log v) = number_of_log v
number_of_script (of_script.Report (of_report.Stands root)) = 0
number_of_script (of_script.Report (of_report.NotFound n)) = 4
number_of_script (of_script.Fault fault) = 3

-- the number with which a process ends that says this
abbrev pub number_of_said : Said → ℕ
number_of_said said.Legal = 0
number_of_said (said.MayNotCome n) = 1
number_of_said (said.NotSo n) = 1
number_of_said (said.NoItem n) = 1
number_of_said (said.Fault fault) = 3
number_of_said (said.OfScript v) = number_of_script v
number_of_said (said.Logged root) = 0
number_of_said said.NotLogged = 4
number_of_said (said.NoScript fault) = 3

-- the number with which the process ends
abbrev pub number_of : Outcome → ℕ
number_of (outcomes.Told what) = number_of_said what
number_of outcomes.Refused = 2
number_of outcomes.NoHistory = 3
number_of outcomes.TooLong = 3
number_of outcomes.ReadFault = 5
number_of outcomes.WriteFault = 6
number_of outcomes.NoMemory = 7

-- what standard error says
abbrev pub message_of : Outcome → Option Message
message_of (outcomes.Told what) = None
message_of outcomes.Refused = Some messages.Usage
message_of outcomes.NoHistory = Some messages.NoHistory
message_of outcomes.TooLong = Some messages.TooLong
message_of outcomes.ReadFault = Some messages.ReadFault
message_of outcomes.WriteFault = Some messages.WriteFault
message_of outcomes.NoMemory = Some messages.NoMemory

-- ---- what is said

abbrev pub said_of : Verdict → Said
said_of verdict.Legal = said.Legal
said_of (verdict.MayNotCome n) = said.MayNotCome n
said_of (verdict.NotSo n) = said.NotSo n

-- the bytes declare channels and have a history of them and of so many Jobs, of which the verdict is so
pub record IsOf (v : Verdict) (input : List ℕ) : Type 0 where
  pub program : Program
  pub jobs : Shape
  pub lines : List Line
  pub has : HasHistory program jobs (Ok lines) input
  pub verdict : IsVerdict (shape_of program) jobs lines v

-- what is said of the bytes of an input
abbrev pub Judges : Said → List ℕ → Type 0
Judges said.Legal input = IsOf verdict.Legal input
Judges (said.MayNotCome n) input = IsOf (verdict.MayNotCome n) input
Judges (said.NotSo n) input = IsOf (verdict.NotSo n) input
Judges (said.NoItem n) input = (program : Program) × (jobs : Shape) × HasHistory program jobs (Err n) input
Judges (said.Fault fault) input = HasFault fault input
Judges (said.OfScript v) input = IsScriptVerdict v input
Judges other input = ⊥

-- what is said where a log is asked for: the text is the log of a run of the script that the bytes of the input spell, and stands
abbrev pub Logs : Said → List ℕ → List ℕ → Type 0
Logs (said.Logged root) input text = (program : Program) × Spells input program × IsLogVerdict (of_log.Stands root) program text
Logs said.NotLogged input text = Unit {0}
Logs (said.NoScript fault) input text = FirstFault input fault
Logs other input text = ⊥

-- what is said by this text, as it was asked for
abbrev pub Says : Asked → Said → List ℕ → List ℕ → Type 0
Says requests.Verdict what input text = Judges what input
Says (requests.Log seed) what input text = Logs what input text

-- ---- calls

-- the bytes of a source or a sink, and how often it failed
pub record Stream : Type 0 where
  pub bytes : Option (List ℕ)
  pub faults : ℕ

abbrev pub stream : Option (List ℕ) → ℕ → Stream
stream bytes faults = record { bytes = bytes; faults = faults }

-- the source gave an input of which this is so, and the text begins with the line that says it
pub record Answers (request : Asked) (what : Said) (source source' : Stream) (text : List ℕ) : Type 0 where
  pub input : List ℕ
  pub given : Gave source.bytes source'.bytes input
  pub drained : IsDrained source'.bytes
  pub says : Says request what input text
  pub line : HasLine what text

-- the answer was written whole
pub record Tells (asked : Option Asked) (what : Said) (source source' sink sink' : Stream) : Type 0 where
  pub request : Asked
  pub is_asked : asked ≡ Some request
  pub text : List ℕ
  pub answers : Answers request what source source' text
  pub taken : Took sink.bytes sink'.bytes text

-- the sink failed after a part of the answer
pub record BreaksOff (asked : Option Asked) (source source' sink sink' : Stream) : Type 0 where
  pub request : Asked
  pub is_asked : asked ≡ Some request
  pub rose : Rose sink.faults sink'.faults
  pub what : Said
  pub text : List ℕ
  pub answers : Answers request what source source' text
  pub part : TookPart text sink.bytes sink'.bytes

-- why a call has nothing to write; that no memory was found, or no line that says what is judged, says nothing
abbrev pub Fails : Outcome → Option Asked → Stream → Stream → Type 0
Fails (outcomes.Told what) request source source' = ⊥
Fails outcomes.Refused request source source' = (request ≡ None) × (source ≡ source')
Fails outcomes.NoHistory request source source' = request ≡ Some requests.Verdict
Fails outcomes.TooLong request source source' = (is_some request ≡ true) × GaveJust 67108865 source.bytes source'.bytes
Fails outcomes.ReadFault request source source' = (is_some request ≡ true) × Rose source.faults source'.faults
Fails outcomes.WriteFault request source source' = ⊥
Fails outcomes.NoMemory request source source' = Unit {0}

-- what a call comes to that has this text to write, or none
abbrev pub IsMade : Result Answer Outcome → Option Asked → Stream → Stream → Type 0
IsMade (Ok answer) wanted source source' =
    (request : Asked) × (wanted ≡ Some request) × Answers request answer.said source source' answer.text.items
IsMade (Err outcome) wanted source source' = Fails outcome wanted source source'

-- the same of the bytes of the input
abbrev pub IsMadeOf : Asked → List ℕ → Result Answer Outcome → Type 0
IsMadeOf request input (Ok answer) = Says request answer.said input answer.text.items × HasLine answer.said answer.text.items
IsMadeOf request input (Err outcomes.NoHistory) = request ≡ requests.Verdict
IsMadeOf request input (Err outcomes.NoMemory) = Unit {0}
IsMadeOf request input (Err other) = ⊥

-- the same of what is said
abbrev pub IsToldAs : Said → Result Answer Outcome → Type 0
IsToldAs what (Ok answer) = (answer.said ≡ what) × HasLine what answer.text.items
IsToldAs what (Err outcomes.NoMemory) = Unit {0}
IsToldAs what (Err other) = ⊥

-- the answer is the verdict on the history of an input
pub record IsJudgedAs (input : Input) (answer : Answer) : Type 0 where
  pub v : Verdict
  pub said_is : answer.said ≡ said_of v
  pub verdict : IsVerdict (shape_of (program_of input.script)) (job_shape input.numbers) input.lines.items v
  pub line : HasLine answer.said answer.text.items

abbrev pub IsJudged : Input → Result Answer Outcome → Type 0
IsJudged input (Ok answer) = IsJudgedAs input answer
IsJudged input (Err outcomes.NoMemory) = Unit {0}
IsJudged input (Err other) = ⊥

-- what each outcome says: an answer was written whole, or a part of it until a write failed, or nothing was written
abbrev pub Means : Outcome → Option Asked → Stream → Stream → Stream → Stream → Type 0
Means (outcomes.Told what) wanted source source' sink sink' = Tells wanted what source source' sink sink'
Means outcomes.WriteFault wanted source source' sink sink' = BreaksOff wanted source source' sink sink'
Means other wanted source source' sink sink' = Fails other wanted source source' × (sink ≡ sink')

-- what a write of an answer came to
abbrev pub IsWritten : Outcome → Answer → Stream → Stream → Type 0
IsWritten (outcomes.Told what) answer sink sink' = (what ≡ answer.said) × Took sink.bytes sink'.bytes answer.text.items
IsWritten outcomes.WriteFault answer sink sink' = Rose sink.faults sink'.faults × TookPart answer.text.items sink.bytes sink'.bytes
IsWritten other answer sink sink' = ⊥

abbrev pub asked_by : Option (List (String Global)) → Option Asked
asked_by None = None
asked_by (Some texts) = asked_of (map string_bytes texts)

-- what the arguments ask for
abbrev pub asked_for : {E : Type 0} → Result (IntoIter (String Global) Global) E → Option Asked
asked_for arguments = asked_by (arguments_given arguments)
