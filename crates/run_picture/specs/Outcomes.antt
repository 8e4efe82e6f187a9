-- What each outcome of a call says of the words, of what was read and of what was written.
use Rattle.std.specs.Prelude.{◌≡◌, ℕ, Bool, true, false, List, [], length, nat_lt, Option, Some, None, Result, Ok, Err, String, map, string_bytes, option_and_then}
use Rattle.std.specs.Global.{Global}
use Rattle.std.specs.declared.vec.IntoIter.{IntoIter}
use lib.Chars.{codes}
use Rattle.co_base.specs.Streams.{Rose, Gave, GaveJust, IsDrained, Took, TookPart}
use Rattle.report_reader.specs.Reports.{Line, report_of}
use Rattle.script_grammar.specs.declared.fault.ScriptFault.{ScriptFault}
use Rattle.run_explanation.specs.Answers.{Refuses}
use Rattle.run_explanation.specs.Naming.{AreNamed}
use Rattle.run_explanation.specs.declared.answer.Unexplained.TheVariants as faults
use Rattle.picture_parts.specs.declared.names.Names.{Names}
use Rattle.report_picture.specs.declared.columns.Wanted.{Wanted}
use Rattle.report_picture.specs.Pictures.{all_have_columns, tags_of}
use Rattle.report_picture.specs.Shown.{Shows}
use Rattle.report_picture.specs.Elements.{svg_text}
use Rattle.report_picture.specs.WellFormed.{IsDocument}
use Rattle.report_picture.specs.Diagrams.{IsDiagramOf}
use Rattle.report_picture.specs.Traces.{IsJson, Tells, trace_text}
use Rattle.report_picture.specs.declared.trace.Trace.{Trace}
use Rattle.report_picture.specs.declared.picture.Picture.{Picture}
use Rattle.program_input.specs.Arguments.{arguments_given}
use Rattle.run_picture.specs.declared.words.Format.{Format}
use Rattle.run_picture.specs.declared.words.Format.TheVariants as formats
use Rattle.run_picture.specs.declared.words.Asked.{Asked}
use Rattle.run_picture.specs.declared.top.Answer.{Answer}
use Rattle.run_picture.specs.declared.outcome.Shown.{Shown}
use Rattle.run_picture.specs.declared.outcome.Outcome.{Outcome}
use Rattle.run_picture.specs.declared.outcome.Outcome.TheVariants as outcomes
use Rattle.run_picture.specs.declared.outcome.Message.{Message}
use Rattle.run_picture.specs.declared.outcome.Message.TheVariants as messages
use Rattle.run_picture.specs.Words.{asked_of}

-- the number with which the process ends
abbrev pub number_of : Outcome → ℕ
number_of (outcomes.Drawn shown) = 0
number_of outcomes.Refused = 2
number_of (outcomes.NoScript fault) = 3
number_of (outcomes.NoReport line) = 3
number_of (outcomes.NotOfScript line) = 3
number_of outcomes.TooLong = 3
number_of outcomes.ReadFault = 5
number_of outcomes.WriteFault = 6
number_of outcomes.NoMemory = 7

-- what standard error says of a picture that was written
abbrev pub message_of_shown : Bool → Bool → Option Message
message_of_shown true true = None
message_of_shown true false = Some messages.NotAll
message_of_shown false true = Some messages.NoOrder
message_of_shown false false = Some messages.NoOrderNotAll

-- standard error says that a trace serves better
abbrev pub is_large : Outcome → Bool
is_large (outcomes.Drawn shown) = shown.large
is_large other = false

-- what standard error says
abbrev pub message_of : Outcome → Option Message
message_of (outcomes.Drawn shown) = message_of_shown shown.in_order shown.all
message_of outcomes.Refused = Some messages.Usage
message_of (outcomes.NoScript fault) = Some (messages.NoScript fault.line)
message_of (outcomes.NoReport line) = Some (messages.NoReport line)
message_of (outcomes.NotOfScript line) = Some (messages.NotOfScript line)
message_of outcomes.TooLong = Some messages.TooLong
message_of outcomes.ReadFault = Some messages.ReadFault
message_of outcomes.WriteFault = Some messages.WriteFault
message_of outcomes.NoMemory = Some messages.NoMemory

-- the text is the picture in this format: a well-formed document, or a diagram; a trace is of no picture
abbrev pub IsWrittenAs : Format → Picture → List ℕ → Type 0
IsWrittenAs formats.Svg picture text = (text ≡ svg_text picture) × IsDocument (codes "svg") text
IsWrittenAs formats.Mermaid picture text = IsDiagramOf picture text
IsWrittenAs formats.Trace picture text = ⊥

-- what coroutines are called by a script
abbrev pub called : Names → List (List ℕ)
called names = map (λ n. n.items) names.blocks.now

-- the text is a picture of a report with these lines, in this format, of what is wanted, with these names, and shows so much of it
pub record Depicts (format : Format) (wanted : Wanted) (shown : Shown) (names : List (List ℕ)) (lines : List Line) (text : List ℕ) : Type 0
  where
    pub picture : Picture
    pub named : map (λ n. n.items) picture.names.now ≡ names
    pub shows : Shows shown.in_order wanted lines picture
    pub all : shown.all ≡ all_have_columns wanted (tags_of wanted lines) lines
    pub large : shown.large ≡ nat_lt 2000 (length picture.lines.items)
    pub is_text : IsWrittenAs format picture text

-- the text is a trace of a report with these lines, of what is wanted, with these names
pub record Traces (wanted : Wanted) (shown : Shown) (names : List (List ℕ)) (lines : List Line) (text : List ℕ) : Type 0 where
  pub trace : Trace
  pub named : map (λ n. n.items) trace.names.now ≡ names
  pub tells : Tells wanted lines trace
  pub is_text : text ≡ trace_text trace
  pub is_json : IsJson text
  pub all : shown.all ≡ true
  pub large : shown.large ≡ false

-- the text shows a report with these lines, in this format
abbrev pub ShowsAs : Format → Wanted → Shown → List (List ℕ) → List Line → List ℕ → Type 0
ShowsAs formats.Svg wanted shown names lines text = Depicts formats.Svg wanted shown names lines text
ShowsAs formats.Mermaid wanted shown names lines text = Depicts formats.Mermaid wanted shown names lines text
ShowsAs formats.Trace wanted shown names lines text = Traces wanted shown names lines text

-- the same, as it is asked for
abbrev pub ShowsLines : Asked → Shown → List (List ℕ) → List Line → List ℕ → Type 0
ShowsLines asked shown names lines text = ShowsAs asked.format asked.wanted shown names lines text

-- the input has these lines: it is a report, and there are no names; or a script and a report of it, and the names are the script's
abbrev pub IsRead : Bool → List ℕ → List Line → List (List ℕ) → Type 0
IsRead false input lines names = (report_of input ≡ Ok lines) × (names ≡ [])
IsRead true input lines names = AreNamed input lines names

-- the input has no such lines: this is the first line of it that is none of a report
abbrev pub IsNoReport : Bool → List ℕ → ℕ → Type 0
IsNoReport false input line = report_of input ≡ Err line
IsNoReport true input line = ⊥

-- the same of a report that stands behind its script
abbrev pub IsNotOfScript : Bool → List ℕ → ℕ → Type 0
IsNotOfScript false input line = ⊥
IsNotOfScript true input line = Refuses input (faults.NoReport line)

-- the same of that script
abbrev pub IsNoScript : Bool → List ℕ → ScriptFault → Type 0
IsNoScript false input fault = ⊥
IsNoScript true input fault = Refuses input (faults.NoScript fault)

-- the input is a report, with its script if one is asked for, and the text a picture of it, as it is asked for
pub record PicturesFor (script : Bool) (asked : Asked) (shown : Shown) (input text : List ℕ) : Type 0 where
  pub lines : List Line
  pub names : List (List ℕ)
  pub is_read : IsRead script input lines names
  pub pictured : ShowsLines asked shown names lines text

abbrev pub Pictures : Asked → Shown → List ℕ → List ℕ → Type 0
Pictures asked shown input text = PicturesFor asked.script asked shown input text

-- the bytes of a source or a sink, and how often it failed
pub record Stream : Type 0 where
  pub bytes : Option (List ℕ)
  pub faults : ℕ

abbrev pub stream : Option (List ℕ) → ℕ → Stream
stream bytes faults = record { bytes = bytes; faults = faults }

-- the source gave a report, and the text is a picture of it, as it is asked for
pub record Answers (asked : Option Asked) (shown : Shown) (source source' : Stream) (text : List ℕ) : Type 0 where
  pub what : Asked
  pub is_asked : asked ≡ Some what
  pub input : List ℕ
  pub given : Gave source.bytes source'.bytes input
  pub drained : IsDrained source'.bytes
  pub pictures : Pictures what shown input text

-- the picture was written whole
pub record Draws (asked : Option Asked) (shown : Shown) (source source' sink sink' : Stream) : Type 0 where
  pub text : List ℕ
  pub answers : Answers asked shown source source' text
  pub taken : Took sink.bytes sink'.bytes text

-- the sink failed after a part of the picture
pub record BreaksOff (asked : Option Asked) (source source' sink sink' : Stream) : Type 0 where
  pub rose : Rose sink.faults sink'.faults
  pub shown : Shown
  pub text : List ℕ
  pub answers : Answers asked shown source source' text
  pub part : TookPart text sink.bytes sink'.bytes

-- the words ask for a picture
abbrev pub IsAsked : Option Asked → Type 0
IsAsked None = ⊥
IsAsked (Some what) = Unit {0}

-- a picture is asked for, and this is so of whether a script is
abbrev pub AskedSo : (Bool → Type 0) → Option Asked → Type 0
AskedSo P None = ⊥
AskedSo P (Some what) = P what.script

-- the source gave an input, of which this is so
pub record Reads (source source' : Stream) (P : List ℕ → Type 0) : Type 0 where
  pub input : List ℕ
  pub given : Gave source.bytes source'.bytes input
  pub drained : IsDrained source'.bytes
  pub is : P input

-- why a call has no picture to write; that no memory was found says nothing
abbrev pub Fails : Outcome → Option Asked → Stream → Stream → Type 0
Fails (outcomes.Drawn shown) asked source source' = ⊥
Fails outcomes.Refused asked source source' = (asked ≡ None) × (source ≡ source')
Fails (outcomes.NoScript fault) asked source source' = Reads source source'
    (λ input. AskedSo (λ script. IsNoScript script input fault) asked)
Fails (outcomes.NoReport line) asked source source' = Reads source source' (λ input. AskedSo (λ script. IsNoReport script input line) asked)
Fails (outcomes.NotOfScript line) asked source source' =
    Reads source source' (λ input. AskedSo (λ script. IsNotOfScript script input line) asked)
Fails outcomes.TooLong asked source source' = IsAsked asked × GaveJust 67108865 source.bytes source'.bytes
Fails outcomes.ReadFault asked source source' = IsAsked asked × Rose source.faults source'.faults
Fails outcomes.WriteFault asked source source' = ⊥
Fails outcomes.NoMemory asked source source' = Unit {0}

-- what a call comes to that has this text to write, or none
abbrev pub IsMade : Result Answer Outcome → Option Asked → Stream → Stream → Type 0
IsMade (Ok answer) asked source source' = Answers asked answer.shown source source' answer.text.items
IsMade (Err outcome) asked source source' = Fails outcome asked source source'

-- the same of the bytes of the input
abbrev pub IsMadeFor : Bool → Asked → List ℕ → Result Answer Outcome → Type 0
IsMadeFor script asked input (Ok answer) = PicturesFor script asked answer.shown input answer.text.items
IsMadeFor script asked input (Err (outcomes.NoScript fault)) = IsNoScript script input fault
IsMadeFor script asked input (Err (outcomes.NoReport line)) = IsNoReport script input line
IsMadeFor script asked input (Err (outcomes.NotOfScript line)) = IsNotOfScript script input line
IsMadeFor script asked input (Err outcomes.NoMemory) = Unit {0}
IsMadeFor script asked input (Err other) = ⊥

abbrev pub IsMadeOf : Asked → List ℕ → Result Answer Outcome → Type 0
IsMadeOf asked input result = IsMadeFor asked.script asked input result

-- what each outcome says: a picture was written whole, or a part of it until a write failed, or nothing was written
abbrev pub Means : Outcome → Option Asked → Stream → Stream → Stream → Stream → Type 0
Means (outcomes.Drawn shown) asked source source' sink sink' = Draws asked shown source source' sink sink'
Means outcomes.WriteFault asked source source' sink sink' = BreaksOff asked source source' sink sink'
Means other asked source source' sink sink' = Fails other asked source source' × (sink ≡ sink')

-- what a write of a picture came to
abbrev pub IsWritten : Outcome → Answer → Stream → Stream → Type 0
IsWritten (outcomes.Drawn shown) answer sink sink' = (shown ≡ answer.shown) × Took sink.bytes sink'.bytes answer.text.items
IsWritten outcomes.WriteFault answer sink sink' = Rose sink.faults sink'.faults × TookPart answer.text.items sink.bytes sink'.bytes
IsWritten other answer sink sink' = ⊥

-- what the arguments ask for
abbrev pub asked_for : {E : Type 0} → Result (IntoIter (String Global) Global) E → Option Asked
asked_for arguments = option_and_then (λ all. asked_of (map string_bytes all)) (arguments_given arguments)
