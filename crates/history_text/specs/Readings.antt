-- What a text is read as.
use Rattle.std.specs.Prelude.{◌≡◌, ℕ, List, ◌++◌, Result, Ok, Err}
use Rattle.job_model.specs.Trees.{Shape}
use Rattle.script_grammar.specs.declared.fault.ScriptFault.{ScriptFault}
use Rattle.script_grammar.specs.Faulty.{FirstFault}
use Rattle.script_grammar.specs.Grammar.{Spells}
use Rattle.script_grammar.specs.Programs.{Program, channel_names}
use Rattle.script_reader.specs.Scripts.{program_of}
use Rattle.history_text.specs.declared.line.Line.{Line}
use Rattle.history_text.specs.declared.input.Input.{Input}
use Rattle.history_text.specs.declared.input.NoInput.{NoInput}
use Rattle.history_text.specs.declared.input.NoInput.TheVariants as no_input
use Rattle.history_text.specs.Inputs.{IsCut, no_coroutine}
use Rattle.history_text.specs.Lines.{history_of}
use Rattle.history_text.specs.Numbers.{shape_of}

-- these lines are those of a script that declares the channels of this program, of which the text is a history, or of which no line is none
pub record HasLines (program : Program) (lines : Result (List Line) ℕ) (header text : List ℕ) : Type 0 where
  pub spelled : Spells (header ++ no_coroutine) program
  pub read : history_of (channel_names program.channels) text ≡ lines

-- the bytes are such lines, the line `history` with these numbers, and such a text
pub record HasHistory (program : Program) (jobs : Shape) (lines : Result (List Line) ℕ) (bytes : List ℕ) : Type 0 where
  pub header : List ℕ
  pub text : List ℕ
  pub cut : IsCut jobs header text bytes
  pub has : HasLines program lines header text

-- what stands before the history is no script of channels: this is its first fault
pub record HasFault (fault : ScriptFault) (bytes : List ℕ) : Type 0 where
  pub jobs : Shape
  pub header : List ℕ
  pub text : List ℕ
  pub cut : IsCut jobs header text bytes
  pub faulty : FirstFault (header ++ no_coroutine) fault

-- what was read of the two parts of a text, and of the whole
abbrev pub IsReadAs : Input → List ℕ → List ℕ → Type 0
IsReadAs input header text = HasLines (program_of input.script) (Ok input.lines.items) header text

abbrev pub IsRead : Input → List ℕ → Type 0
IsRead input bytes = HasHistory (program_of input.script) (shape_of input.numbers) (Ok input.lines.items) bytes

-- why nothing was read: of the first part, of both parts, and of the whole; want of memory, and of a line `history`, says nothing
abbrev pub IsFaulty : NoInput → List ℕ → Type 0
IsFaulty no_input.NoHistory header = ⊥
IsFaulty (no_input.Fault fault) header = FirstFault (header ++ no_coroutine) fault
IsFaulty (no_input.NoItem n) header = ⊥
IsFaulty no_input.Memory header = Unit {0}

abbrev pub IsRefusedAs : NoInput → List ℕ → List ℕ → Type 0
IsRefusedAs no_input.NoHistory header text = ⊥
IsRefusedAs (no_input.Fault fault) header text = FirstFault (header ++ no_coroutine) fault
IsRefusedAs (no_input.NoItem n) header text = (program : Program) × HasLines program (Err n) header text
IsRefusedAs no_input.Memory header text = Unit {0}

abbrev pub IsRefused : NoInput → List ℕ → Type 0
IsRefused no_input.NoHistory bytes = Unit {0}
IsRefused (no_input.Fault fault) bytes = HasFault fault bytes
IsRefused (no_input.NoItem n) bytes = (program : Program) × (jobs : Shape) × HasHistory program jobs (Err n) bytes
IsRefused no_input.Memory bytes = Unit {0}
