-- How much a coroutine has left to do: a bound of its moves, as long as it receives no element.
use Rattle.std.specs.Prelude.{◌≡◌, ℕ, zero, suc, ◌+◌, ◌-◌, ◌*◌, List, [], ◌∷◌, length, Option, Some, slice_get}
use Rattle.call_meaning.specs.Telling.{Told}
use Rattle.call_meaning.specs.ChannelCalls.{SelectCall, LooksAgain}
use Rattle.script_grammar.specs.declared.instructions.Instruction.{Instruction}
use Rattle.script_grammar.specs.declared.instructions.Instruction.TheVariants as line
use Rattle.script_grammar.specs.Programs.{Program, Block}
use Rattle.script_grammar.specs.Tags.{code_of}
use Rattle.script_meaning.specs.declared.stage.Stage.{Stage}
use Rattle.script_meaning.specs.declared.stage.Stage.TheVariants.{Fresh, Running, Waiting, SeesJob, Unwinding, Leaving, SeesScope, Ended}
use Rattle.script_meaning.specs.Configs.{Config, Entered, in_repeat, in_each, in_scope, IsAt}
use Rattle.script_meaning.specs.Lines.{clauses_at}

-- ---- lines

-- the lines of all blocks
abbrev pub lines_in : List Block → ℕ
lines_in [] = 0
lines_in (b ∷ bs) = length b.code + lines_in bs

-- what a line weighs that has so many before the last: more than any repeat's turns of the line after it
unfoldable pub weight_with : ℕ → ℕ
weight_with zero = 1
weight_with (suc n) = 1000002 * weight_with n

-- what the line at this number weighs
abbrev pub line_weight : Program → ℕ → ℕ
line_weight p i = weight_with (lines_in p.blocks - i)

-- ---- what was entered

-- a repeat weighs its turns to come, an each the line to which it comes back
abbrev pub entered_weight : Program → Entered → ℕ
entered_weight p (in_repeat head left) = left * line_weight p (head + 1)
entered_weight p (in_each head) = line_weight p head
entered_weight p (in_scope head row) = 1

abbrev pub entered_weights : Program → List Entered → ℕ
entered_weights p [] = 0
entered_weights p (e ∷ es) = entered_weight p e + entered_weights p es

-- ---- stages

-- an each that waits may be entered once more
abbrev pub each_weight : Program → ℕ → Option Instruction → ℕ
each_weight p i (Some (line.Each c)) = line_weight p i
each_weight p i other = 0

abbrev pub wait_weight : Program → Stage → ℕ → Option Instruction → ℕ
wait_weight p (Waiting w) i o = each_weight p i o
wait_weight p other i o = 0

-- the stages in the order in which they come at one line
abbrev pub rank : Stage → ℕ
rank Fresh = 7
rank Running = 6
rank (Waiting w) = 5
rank SeesJob = 4
rank (Unwinding failure) = 3
rank (Leaving w) = 2
rank SeesScope = 1
rank Ended = 0

-- ---- moves

-- an upper bound of the moves that are left, if no element is received
abbrev pub moves_left : Program → ℕ → Config → ℕ
moves_left p k x =
    8 * (line_weight p x.line + entered_weights p x.entered + wait_weight p x.stage x.line (slice_get (code_of p k) x.line))
    + rank x.stage

-- by as much at most one more element raises it
abbrev pub most_moves : Program → ℕ
most_moves p = 8 * line_weight p 0

-- a select looks again, where it is: the one move after which as much is left
pub record LooksAgainAt (p : Program) (k : ℕ) (x : Config) (told : List Told) (y : Config) : Type 0 where
  pub at : IsAt p k x line.Select
  pub call : SelectCall (clauses_at p k x) told LooksAgain
  pub same : y ≡ x
