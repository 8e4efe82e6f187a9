-- What each outcome of a call says of the words, of what was read and of what was written.
use Rattle.std.specs.Prelude.{◌≡◌, ℕ, Bool, true, false, List, Option, Some, None, Result, Ok, Err, String, Vec, map, string_bytes}
use Rattle.std.specs.Global.{Global}
use Rattle.std.specs.declared.vec.IntoIter.{IntoIter}
use Rattle.co_base.specs.Streams.{Rose, Gave, GaveJust, IsDrained, Took, TookPart}
use Rattle.run_explanation.specs.Answers.{IsExplained, Refuses}
use Rattle.run_explanation.specs.declared.answer.Unexplained.{Unexplained}
use Rattle.run_explanation.specs.declared.answer.Unexplained.TheVariants as faults
use Rattle.program_input.specs.Arguments.{arguments_given}
use Rattle.explain_run.specs.declared.outcome.Outcome.{Outcome}
use Rattle.explain_run.specs.declared.outcome.Outcome.TheVariants as outcomes
use Rattle.explain_run.specs.declared.outcome.Message.{Message}
use Rattle.explain_run.specs.declared.outcome.Message.TheVariants as messages
use Rattle.explain_run.specs.Words.{are_asked}

abbrev pub number_of_fault : Unexplained → ℕ
number_of_fault (faults.NoScript fault) = 3
number_of_fault (faults.NoReport line) = 3
number_of_fault faults.Memory = 7

-- the number with which the process ends
abbrev pub number_of : Outcome → ℕ
number_of outcomes.Explained = 0
number_of outcomes.Refused = 2
number_of (outcomes.Unexplained fault) = number_of_fault fault
number_of outcomes.TooLong = 3
number_of outcomes.ReadFault = 5
number_of outcomes.WriteFault = 6
number_of outcomes.NoMemory = 7

abbrev pub message_of_fault : Unexplained → Message
message_of_fault (faults.NoScript fault) = messages.NoScript fault.line
message_of_fault (faults.NoReport line) = messages.NoReport line
message_of_fault faults.Memory = messages.NoMemory

-- what standard error says
abbrev pub message_of : Outcome → Option Message
message_of outcomes.Explained = None
message_of outcomes.Refused = Some messages.Usage
message_of (outcomes.Unexplained fault) = Some (message_of_fault fault)
message_of outcomes.TooLong = Some messages.TooLong
message_of outcomes.ReadFault = Some messages.ReadFault
message_of outcomes.WriteFault = Some messages.WriteFault
message_of outcomes.NoMemory = Some messages.NoMemory

-- the bytes of a source or a sink, and how often it failed
pub record Stream : Type 0 where
  pub bytes : Option (List ℕ)
  pub faults : ℕ

abbrev pub stream : Option (List ℕ) → ℕ → Stream
stream bytes faults = record { bytes = bytes; faults = faults }

-- the source gave an input, of which this is so
pub record Reads (source source' : Stream) (P : List ℕ → Type 0) : Type 0 where
  pub input : List ℕ
  pub given : Gave source.bytes source'.bytes input
  pub drained : IsDrained source'.bytes
  pub is : P input

-- the words ask for an explanation, and the text is that of what the source gave
abbrev pub Answers : Bool → Stream → Stream → List ℕ → Type 0
Answers asked source source' text = (asked ≡ true) × Reads source source' (λ input. IsExplained input text)

-- the explanation was written whole
pub record Writes (asked : Bool) (source source' sink sink' : Stream) : Type 0 where
  pub text : List ℕ
  pub answers : Answers asked source source' text
  pub taken : Took sink.bytes sink'.bytes text

-- the sink failed after a part of the explanation
pub record BreaksOff (asked : Bool) (source source' sink sink' : Stream) : Type 0 where
  pub rose : Rose sink.faults sink'.faults
  pub text : List ℕ
  pub answers : Answers asked source source' text
  pub part : TookPart text sink.bytes sink'.bytes

-- why a call has nothing to write; that no memory was found says nothing
abbrev pub Fails : Outcome → Bool → Stream → Stream → Type 0
Fails outcomes.Explained asked source source' = ⊥
Fails outcomes.Refused asked source source' = (asked ≡ false) × (source ≡ source')
Fails (outcomes.Unexplained fault) asked source source' = (asked ≡ true) × Reads source source' (λ input. Refuses input fault)
Fails outcomes.TooLong asked source source' = (asked ≡ true) × GaveJust 1048577 source.bytes source'.bytes
Fails outcomes.ReadFault asked source source' = (asked ≡ true) × Rose source.faults source'.faults
Fails outcomes.WriteFault asked source source' = ⊥
Fails outcomes.NoMemory asked source source' = Unit {0}

-- what a call comes to that has this text to write, or none
abbrev pub IsMade : Result (Vec ℕ Global) Outcome → Bool → Stream → Stream → Type 0
IsMade (Ok text) asked source source' = Answers asked source source' text.items
IsMade (Err outcome) asked source source' = Fails outcome asked source source'

-- the same of the bytes of the input
abbrev pub IsMadeOf : List ℕ → Result (Vec ℕ Global) Outcome → Type 0
IsMadeOf input (Ok text) = IsExplained input text.items
IsMadeOf input (Err (outcomes.Unexplained fault)) = Refuses input fault
IsMadeOf input (Err other) = ⊥

-- what each outcome says: an explanation was written whole, or a part of it until a write failed, or nothing was written
abbrev pub Means : Outcome → Bool → Stream → Stream → Stream → Stream → Type 0
Means outcomes.Explained asked source source' sink sink' = Writes asked source source' sink sink'
Means outcomes.WriteFault asked source source' sink sink' = BreaksOff asked source source' sink sink'
Means other asked source source' sink sink' = Fails other asked source source' × (sink ≡ sink')

-- what a write of an explanation came to
abbrev pub IsWritten : Outcome → List ℕ → Stream → Stream → Type 0
IsWritten outcomes.Explained text sink sink' = Took sink.bytes sink'.bytes text
IsWritten outcomes.WriteFault text sink sink' = Rose sink.faults sink'.faults × TookPart text sink.bytes sink'.bytes
IsWritten other text sink sink' = ⊥

abbrev pub asked_by : Option (List (String Global)) → Bool
asked_by None = false
asked_by (Some all) = are_asked (map string_bytes all)

-- the arguments ask for an explanation
abbrev pub asked_for : {E : Type 0} → Result (IntoIter (String Global) Global) E → Bool
asked_for arguments = asked_by (arguments_given arguments)
