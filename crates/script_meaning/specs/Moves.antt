-- The table of moves: what the lines of a coroutine may tell, whatever their calls are answered.
use Rattle.std.specs.Prelude.{◌≡◌, ℕ, ◌+◌, Bool, true, false, List, [], ◌∷◌, ◌++◌, length, Option, Some, None}
use Rattle.co_base.specs.declared.names.WaitId.{WaitId}
use Rattle.channel_model.specs.declared.acts.Act.TheVariants.{Settle}
use Rattle.channel_model.specs.declared.acts.Settled.{Settled}
use Rattle.channel_model.specs.declared.acts.Settled.TheVariants as settled
use Rattle.job_model.specs.declared.acts.End.{End}
use Rattle.job_model.specs.declared.acts.Reason.TheVariants as reasons
use Rattle.job_model.specs.declared.acts.JobAct.TheVariants.{Attach}
use Rattle.job_model.specs.declared.acts.JobNote.TheVariants as known
use Rattle.call_meaning.specs.Telling.{Told, on_channels, on_jobs, IsResolved, TakenBack, MayRun, made, did, knew, saw, saw_end}
use Rattle.call_meaning.specs.ChannelCalls.{receives, Answer, PlainCall, Closes, CancelsChannel, GivesUp}
use Rattle.job_model.specs.Done.{done_channel}
use Rattle.call_meaning.specs.JobCalls.{child_kind, scope_kind, NotAttached, Starts, Passes, EndsBody, BreaksOff}
use Rattle.script_grammar.specs.declared.instructions.Launching.{Launching}
use Rattle.script_grammar.specs.declared.instructions.Operand.{Operand}
use Rattle.script_grammar.specs.declared.instructions.Instruction.{Instruction}
use Rattle.script_grammar.specs.declared.instructions.Instruction.TheVariants as line
use Rattle.script_grammar.specs.Programs.{Program}
use Rattle.script_grammar.specs.Tags.{code_of}
use Rattle.script_meaning.specs.declared.stage.Stage.TheVariants.{Fresh, Running, Waiting, SeesJob, Unwinding, Leaving, SeesScope, Ended}
use Rattle.script_meaning.specs.Shapes.{base_of}
use Rattle.script_meaning.specs.Configs.{Config, Entered, in_repeat, in_each, in_scope, InScope, at_stage, at_line, next, with_entered, into, with_result, operand, past_launch, scope_in, innermost, LineIs, IsAt, Names}
use Rattle.script_meaning.specs.Lines.{is_lazy, LineCalls, After, AfterAwait, Resumed, AtScopeEnd, AfterScope}

-- one move of k: where it is, what it tells, and where it is then
pub data Move (p : Program) (k : ℕ) : Config → List Told → Config → Type 0 where
  -- ---- before the first line

  -- its Job may run
  runs : (x : Config) → x.stage ≡ Fresh
      → Move p k x (on_jobs (MayRun k) ∷ []) (at_stage Running x)
  -- its Job is Cancelling
  never_runs : (x : Config) → x.stage ≡ Fresh
      → Move p k x (saw k ∷ []) (at_stage (Unwinding None) x)
  -- ---- send, receive, each, trysend, tryreceive, select, join, await

  -- the line makes its call, and goes on by the answer
  calls : (x y : Config) (i : Instruction) (group : List Told) (a : Answer) → IsAt p k x i
      → LineCalls p k x i group a → After p k x i a y
      → Move p k x group y
  -- ---- a wait at one of these lines

  -- it ends with an answer of the line: it was resolved, and then the innermost Job may run
  resumes : (x y : Config) (w : WaitId) (i : Instruction) (outcome : Settled) (a : Answer) → x.stage ≡ Waiting w
      → LineIs p k x i → Resumed outcome a → After p k x i a y
      → Move p k x (on_channels (IsResolved w) ∷ on_jobs (MayRun (innermost k x)) ∷ made (Settle w outcome) ∷ []) y
  -- it was taken back
  cancelled : (x : Config) (w : WaitId) → x.stage ≡ Waiting w
      → Move p k x (on_channels (TakenBack w) ∷ made (Settle w settled.Cancelled) ∷ []) (at_stage (Unwinding None) x)
  -- it meets a cancellation
  gives_up : (x : Config) (w : WaitId) (group : List Told) → x.stage ≡ Waiting w
      → GivesUp w group
      → Move p k x (saw (innermost k x) ∷ group) (at_stage (Unwinding None) x)
  -- ---- an await whose done channel is closed

  -- it sees how its Job ended
  sees_job : (x y : Config) (job row : ℕ) (end : End) → x.stage ≡ SeesJob
      → LineIs p k x (line.Await job) → Names x job row → AfterAwait x end y
      → Move p k x (saw_end row end ∷ []) y
  -- ---- close, cancelchannel

  -- the channel is closed with 0, or had been closed
  closes : (x : Config) (c : ℕ) (group : List Told) → IsAt p k x (line.Close c)
      → Closes c 0 group
      → Move p k x group (next x)
  -- and it is voided, or had been
  cancels_channel : (x : Config) (c : ℕ) (group : List Told) → IsAt p k x (line.CancelChannel c)
      → CancelsChannel c group
      → Move p k x group (next x)
  -- ---- yield, join: looks at the innermost Job

  -- it may run
  yields : (x : Config) → IsAt p k x line.Yield
      → Move p k x (on_jobs (MayRun (innermost k x)) ∷ []) (next x)
  -- it is Cancelling
  stops_at_yield : (x : Config) → IsAt p k x line.Yield
      → Move p k x (saw (innermost k x) ∷ []) (at_stage (Unwinding None) x)
  -- the same before a join
  stops_at_join : (x : Config) (job : ℕ) → IsAt p k x (line.Join job)
      → Move p k x (saw (innermost k x) ∷ []) (at_stage (Unwinding None) x)
  -- ---- launch, async, lazy

  -- the next tag is attached under the innermost Job
  launches : (x : Config) (block : ℕ) (how : Launching) (job : Option ℕ) (now : Bool)
      → IsAt p k x (line.Launch block how job)
      → Move p k x (did (Attach (innermost k x) x.free (child_kind (is_lazy how)) x.free now) ∷ [])
      (next (past_launch p block job x))
  -- that is refused
  launch_refused : (x : Config) (block : ℕ) (how : Launching) (job : Option ℕ) (group : List Told)
      → IsAt p k x (line.Launch block how job) → NotAttached (innermost k x) false group
      → Move p k x group (at_stage (Unwinding (Some k)) x)
  -- ---- scope, supervisor

  -- a row for scopes is attached under the innermost Job
  enters : (x : Config) (supervisor : Bool) (row : ℕ) (now : Bool) → IsAt p k x (line.Scope supervisor)
      → Move p k x (did (Attach (innermost k x) row (scope_kind supervisor) k now) ∷ []) (into (in_scope x.line row) x)
  -- that is refused
  enter_refused : (x : Config) (supervisor : Bool) (group : List Told) → IsAt p k x (line.Scope supervisor)
      → NotAttached (innermost k x) true group
      → Move p k x group (at_stage (Unwinding (Some k)) x)
  -- ---- start, cancel

  -- the Job of this name is started, if it is New
  starts : (x : Config) (job row : ℕ) (group : List Told) → IsAt p k x (line.Start job) → Names x job row
      → Starts row group
      → Move p k x group (next x)
  -- the Job of this name is cancelled on request, and all below it
  cancels : (x : Config) (job row : ℕ) (newly : Bool) (group : List Told) → IsAt p k x (line.Cancel job)
      → Names x job row → Passes row reasons.Request newly group
      → Move p k x group (next x)
  -- ---- fail, result

  -- the body fails
  fails : (x : Config) (v : ℕ) → IsAt p k x (line.Fail v)
      → Move p k x (knew (known.Fail v) ∷ []) (at_stage (Unwinding (Some k)) x)
  -- its result is this number
  results : (x : Config) (o : Operand) → IsAt p k x (line.SetResult o)
      → Move p k x [] (next (with_result (operand x o) x))
  -- ---- repeat, and the ends of loops

  -- a repeat is entered
  repeats : (x : Config) (n : ℕ) → IsAt p k x (line.Repeat (n + 1))
      → Move p k x [] (into (in_repeat x.line n) x)
  -- at its end, back to its first line inside
  turns_again : (x : Config) (head n : ℕ) (es : List Entered) → IsAt p k x line.End
      → x.entered ≡ in_repeat head (n + 1) ∷ es
      → Move p k x [] (at_line (head + 1) (with_entered (in_repeat head n ∷ es) x))
  -- or on, after the last turn
  turns_no_more : (x : Config) (head : ℕ) (es : List Entered) → IsAt p k x line.End
      → x.entered ≡ in_repeat head 0 ∷ es
      → Move p k x [] (next (with_entered es x))
  -- at the end of an each, back to its receive
  receives_again : (x : Config) (head : ℕ) (es : List Entered) → IsAt p k x line.End
      → x.entered ≡ in_each head ∷ es
      → Move p k x [] (at_line head (with_entered es x))
  -- ---- the end of a scope

  -- its body ends with 0, and it receives on its done channel
  ends_scope : (x y : Config) (s : InScope) (end group all : List Told) (a : Answer) → IsAt p k x line.End
      → x.entered ≡ in_scope s.head s.row ∷ s.around → EndsBody (base_of p) s.row 0 end
      → PlainCall (receives (done_channel (base_of p) s.row)) group a → AtScopeEnd k x s a y
      → all ≡ end ++ group
      → Move p k x all y
  -- a wait there ends as closed, and is never given up
  scope_ended : (x : Config) (w : WaitId) (n v : ℕ) → x.stage ≡ Leaving w
      → Move p k x (made (Settle w (settled.Closed n v)) ∷ []) (at_stage SeesScope x)
  -- it sees how the scope ended
  sees_scope : (x y : Config) (s : InScope) (end : End) → x.stage ≡ SeesScope → scope_in x.entered ≡ Some s
      → AfterScope p k x s end y
      → Move p k x (saw_end s.row end ∷ []) y
  -- ---- unwinding

  -- out of the innermost scope, whose body breaks off, and which is waited for
  breaks_scope : (x y : Config) (s : InScope) (failure : Option ℕ) (break group all : List Told) (a : Answer)
      → x.stage ≡ Unwinding failure → scope_in x.entered ≡ Some s → BreaksOff (base_of p) k s.row failure break
      → PlainCall (receives (done_channel (base_of p) s.row)) group a → AtScopeEnd k x s a y
      → all ≡ break ++ group
      → Move p k x all y
  -- in no scope: its own body breaks off
  breaks : (x : Config) (failure : Option ℕ) (group : List Told) → x.stage ≡ Unwinding failure
      → scope_in x.entered ≡ None → BreaksOff (base_of p) k k failure group
      → Move p k x group (at_stage Ended x)
  -- ---- no line left

  -- its body ends with its result
  ends : (x : Config) (group : List Told) → x.stage ≡ Running → x.line ≡ length (code_of p k)
      → EndsBody (base_of p) k x.result group
      → Move p k x group (at_stage Ended x)
