-- Where a coroutine is in its code: the lines that are open at a line, and that what it has entered is these.
use Rattle.std.specs.Prelude.{◌≡◌, ℕ, zero, suc, ◌+◌, ◌<◌, ◌≤◌, Bool, true, false, List, [], ◌∷◌, ◌++◌, length, map, Option, Some, slice_get, if◌then◌else◌}
use Rattle.script_grammar.specs.declared.instructions.Instruction.{Instruction}
use Rattle.script_grammar.specs.declared.instructions.Instruction.TheVariants as line
use Rattle.script_grammar.specs.Programs.{Program}
use Rattle.script_grammar.specs.Blocks.{but_first, is_end, opens_lines}
use Rattle.script_grammar.specs.Tags.{code_of}
use Rattle.script_meaning.specs.declared.stage.Stage.{Stage}
use Rattle.script_meaning.specs.declared.stage.Stage.TheVariants.{Fresh, Running, Waiting, SeesJob}
use Rattle.script_meaning.specs.Configs.{Config, Entered, in_repeat, in_each, in_scope}

-- ---- the lines that are open

-- after a line at this place, if these were open: the innermost first
abbrev pub heads_after : ℕ → List ℕ → Instruction → List ℕ
heads_after place heads x = if opens_lines x then place ∷ heads else (if is_end x then but_first heads else heads)

-- after so many of these lines, of which the first has this place, if these were open
abbrev pub heads_from : ℕ → List ℕ → List Instruction → ℕ → List ℕ
heads_from place heads code zero = heads
heads_from place heads [] (suc i) = heads
heads_from place heads (x ∷ code) (suc i) = heads_from (place + 1) (heads_after place heads x) code i

-- at this line
abbrev pub heads_at : List Instruction → ℕ → List ℕ
heads_at code i = heads_from 0 [] code i

-- ---- what was entered

-- the line at which it begins
abbrev pub head_of : Entered → ℕ
head_of (in_repeat head left) = head
head_of (in_each head) = head
head_of (in_scope head row) = head

-- that line enters so; a repeat has fewer turns to come than it has
abbrev pub EntersAt : List Instruction → Entered → Type 0
EntersAt code (in_repeat head left) = (turns : ℕ) × (slice_get code head ≡ Some (line.Repeat turns)) × (left < turns)
EntersAt code (in_each head) = (c : ℕ) × (slice_get code head ≡ Some (line.Each c))
EntersAt code (in_scope head row) = (supervisor : Bool) × (slice_get code head ≡ Some (line.Scope supervisor))

abbrev pub AllEnter : List Instruction → List Entered → Type 0
AllEnter code [] = Unit {0}
AllEnter code (e ∷ es) = EntersAt code e × AllEnter code es

-- ---- stages

-- it is at its line, and has left nothing that it entered there
abbrev pub is_in_lines : Stage → Bool
is_in_lines Fresh = true
is_in_lines Running = true
is_in_lines (Waiting w) = true
is_in_lines SeesJob = true
is_in_lines other = false

-- a line whose call may wait
abbrev pub may_wait : Option Instruction → Bool
may_wait (Some (line.Send c v)) = true
may_wait (Some (line.Receive c)) = true
may_wait (Some (line.Each c)) = true
may_wait (Some line.Select) = true
may_wait (Some (line.Join job)) = true
may_wait (Some (line.Await job)) = true
may_wait other = false

abbrev pub is_await : Option Instruction → Bool
is_await (Some (line.Await job)) = true
is_await other = false

-- if it waits, and if it has to see how a Job ended, its line asks for that
abbrev pub CallsAt : Stage → Option Instruction → Type 0
CallsAt (Waiting w) o = may_wait o ≡ true
CallsAt SeesJob o = is_await o ≡ true
CallsAt other o = Unit {0}

-- ---- where it is

pub record Fits (p : Program) (k : ℕ) (x : Config) : Type 0 where
  -- the line is one of the code, or its end
  pub inside : x.line ≤ length (code_of p k)
  pub begins : x.stage ≡ Fresh → x.line ≡ 0
  pub calls : CallsAt x.stage (slice_get (code_of p k) x.line)
  pub enters : AllEnter (code_of p k) x.entered
  -- of the lines that are open there it has left so many: none, but where it unwinds or leaves a scope
  pub left : List ℕ
  pub opens : heads_at (code_of p k) x.line ≡ left ++ map head_of x.entered
  pub none_left : is_in_lines x.stage ≡ true → left ≡ []
