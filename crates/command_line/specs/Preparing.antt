-- What is known of a call before a script is run, and behind that.
use Rattle.std.specs.Prelude.{◌≡◌, ℕ, ◌≤◌, List, length, Option, Some, None, Result, MatchResult}
use Rattle.co_base.specs.Streams.{Gave, IsDrained}
use Rattle.note_book.specs.declared.book.Item.{Item}
use Rattle.script_grammar.specs.Programs.{Program}
use Rattle.script_grammar.specs.Grammar.{Spells}
use Rattle.script_grammar.specs.Generated.{generated}
use Rattle.script_reader.specs.Scripts.{program_of}
use Rattle.run_report.specs.Elements.{report_text}
use Rattle.run_report.specs.Summaries.{summary_text}
use Rattle.command_line.specs.declared.answer.Answer.{Answer}
use Rattle.command_line.specs.declared.input.Input.{Input}
use Rattle.command_line.specs.declared.input.Input.TheVariants as input
use Rattle.command_line.specs.declared.prepare.Prepared.{Prepared}
use Rattle.command_line.specs.declared.prepare.Prepared.TheVariants as prepared
use Rattle.command_line.specs.declared.status.NoAnswer.{NoAnswer}
use Rattle.command_line.specs.declared.status.NoAnswer.TheVariants as reasons
use Rattle.command_line.specs.declared.words.Command.{Command}
use Rattle.command_line.specs.declared.words.Command.TheVariants.{Run, Check, Sum}
use Rattle.command_line.specs.Commands.{IsInLimits}
use Rattle.command_line.specs.Statuses.{FailsToRead, Stream, Refuses, Serves, ServesInput}

-- bytes that are a script, or the line of their fault
abbrev pub Says : List ℕ → Input → Type 0
Says bytes (input.Script script) = Spells bytes (program_of script)
Says bytes (input.Fault line) = Refuses bytes line.items

-- the source gave a script that spells this program, which is all that it had
pub record GaveScript (source source' : Stream) (program : Program) : Type 0 where
  pub input : List ℕ
  pub given : Gave source.bytes source'.bytes input
  pub all : length input ≤ 1048576 → IsDrained source'.bytes
  pub spelled : Spells input program

-- the source gave a script, or no script, which is answered by the line of its fault
abbrev pub Gives : Stream → Stream → Input → Type 0
Gives source source' (input.Script script) = GaveScript source source' (program_of script)
Gives source source' (input.Fault line) = ServesInput Refuses source source' (λ text. line.items ≡ text)

-- the program that a command has to run
abbrev pub Asks : Command → Stream → Stream → Program → Type 0
Asks (Run workers) source source' program = GaveScript source source' program
Asks Check source source' program = ⊥
Asks (Sum size workers) source source' program = (program ≡ generated size) × (source' ≡ source)

-- the answer to what is asked, which is a command
abbrev pub IsAnswer : Option Command → Stream → Stream → Answer → Type 0
IsAnswer None source source' answer = ⊥
IsAnswer (Some command) source source' answer = Serves command answer.ending source source' (λ text. answer.text.items ≡ text)

-- why there is no answer to what is asked
abbrev pub HasNoAnswer : Option Command → Stream → Stream → NoAnswer → Type 0
HasNoAnswer asked source source' reasons.Refused = asked ≡ None
HasNoAnswer asked source source' reasons.ReadFault = FailsToRead asked source source'
HasNoAnswer asked source source' reasons.Memory = Unit {0}

-- what is made of what is asked, before anything is written: the answer, or the reason why there is none
abbrev pub AnswersTo : Option Command → Stream → Stream → Result Answer NoAnswer → Type 0
AnswersTo asked source source' made = MatchResult made (IsAnswer asked source source') (HasNoAnswer asked source source')

-- there is the answer to what is asked, or the command that is asked with its script, which is to be run
abbrev pub Prepares : Option Command → Stream → Stream → Prepared → Type 0
Prepares asked source source' (prepared.Ready answer) = IsAnswer asked source source' answer
Prepares asked source source' (prepared.Script command script) =
    (asked ≡ Some command) × IsInLimits command × Asks command source source' (program_of script)

-- the answer is what a run of this program has to answer to the command, if it is asked for
abbrev pub IsAnswerOf : Command → Program → Answer → Type 0
IsAnswerOf command program answer =
    (source source' : Stream) → Asks command source source' program
    → Serves command answer.ending source source' (λ text. answer.text.items ≡ text)

-- the text that a command makes of the books of a run
abbrev pub text_of : Command → Program → List (List Item) → List ℕ
text_of (Run workers) program books = report_text program books
text_of Check program books = report_text program books
text_of (Sum size workers) program books = summary_text program books
