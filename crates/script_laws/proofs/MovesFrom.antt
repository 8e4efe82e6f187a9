-- Where a coroutine is before a move: at a line that it runs, or at another stage.
use Rattle.std.specs.Prelude.{◌≡◌, ℕ, ◌+◌, List}
use Rattle.call_meaning.specs.Telling.{Told}
use Rattle.script_grammar.specs.declared.instructions.Instruction.{Instruction}
use Rattle.script_grammar.specs.declared.instructions.Instruction.TheVariants as line
use Rattle.script_grammar.specs.Programs.{Program}
use Rattle.script_meaning.specs.declared.stage.Stage.{Stage}
use Rattle.script_meaning.specs.declared.stage.Stage.TheVariants.{Fresh, Running, Waiting, SeesJob, Unwinding, Leaving, SeesScope}
use Rattle.script_meaning.specs.Configs.{Config, IsAt}
use Rattle.script_meaning.specs.Moves.{Move}

-- it runs this line, or is at this stage
pub data From (p : Program) (k : ℕ) (x : Config) : Type 0 where
  a_line : (i : Instruction) → IsAt p k x i → From p k x
  a_stage : (s : Stage) → x.stage ≡ s → From p k x

-- where each move begins
abbrev pub begins_at : {p : Program} {k : ℕ} {x : Config} {group : List Told} {y : Config} → Move p k x group y → From p k x
begins_at (Move.runs x s) = From.a_stage Fresh s
begins_at (Move.never_runs x s) = From.a_stage Fresh s
begins_at (Move.calls x y i group a at c f) = From.a_line i at
begins_at (Move.resumes x y w i outcome a s at m f) = From.a_stage (Waiting w) s
begins_at (Move.cancelled x w s) = From.a_stage (Waiting w) s
begins_at (Move.gives_up x w group s g) = From.a_stage (Waiting w) s
begins_at (Move.sees_job x y job row end s at n f) = From.a_stage SeesJob s
begins_at (Move.closes x c group at g) = From.a_line (line.Close c) at
begins_at (Move.cancels_channel x c group at g) = From.a_line (line.CancelChannel c) at
begins_at (Move.yields x at) = From.a_line line.Yield at
begins_at (Move.stops_at_yield x at) = From.a_line line.Yield at
begins_at (Move.stops_at_join x job at) = From.a_line (line.Join job) at
begins_at (Move.launches x block how job now at) = From.a_line (line.Launch block how job) at
begins_at (Move.launch_refused x block how job group at g) = From.a_line (line.Launch block how job) at
begins_at (Move.enters x supervisor row now at) = From.a_line (line.Scope supervisor) at
begins_at (Move.enter_refused x supervisor group at g) = From.a_line (line.Scope supervisor) at
begins_at (Move.starts x job row group at n g) = From.a_line (line.Start job) at
begins_at (Move.cancels x job row newly group at n g) = From.a_line (line.Cancel job) at
begins_at (Move.fails x v at) = From.a_line (line.Fail v) at
begins_at (Move.results x o at) = From.a_line (line.SetResult o) at
begins_at (Move.repeats x n at) = From.a_line (line.Repeat (n + 1)) at
begins_at (Move.turns_again x head n es at is) = From.a_line line.End at
begins_at (Move.turns_no_more x head es at is) = From.a_line line.End at
begins_at (Move.receives_again x head es at is) = From.a_line line.End at
begins_at (Move.ends_scope x y s end group all a at is b c f q) = From.a_line line.End at
begins_at (Move.scope_ended x w n v s) = From.a_stage (Leaving w) s
begins_at (Move.sees_scope x y s end at is f) = From.a_stage SeesScope at
begins_at (Move.breaks_scope x y s failure break group all a at is b c f q) = From.a_stage (Unwinding failure) at
begins_at (Move.breaks x failure group s is b) = From.a_stage (Unwinding failure) s
begins_at (Move.ends x group s is b) = From.a_stage Running s

-- the stage of it: at a line it runs
abbrev pub stage_of : {p : Program} {k : ℕ} {x : Config} → From p k x → Stage
stage_of (From.a_line i at) = Running
stage_of (From.a_stage s e) = s

-- it is the coroutine's stage before the move
pub stage_is : {p : Program} {k : ℕ} {x : Config} (f : From p k x) → x.stage ≡ stage_of f
stage_is (From.a_line i at) = at.stage
stage_is (From.a_stage s e) = e
