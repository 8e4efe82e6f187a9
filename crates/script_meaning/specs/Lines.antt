-- Which call a line makes, and where it goes on by the answer.
use Rattle.std.specs.Prelude.{◌≡◌, ℕ, ◌+◌, Bool, true, false, List, [], ◌∷◌, ◌++◌, drop, Some, None}
use Rattle.co_base.specs.declared.names.WaitId.{WaitId}
use Rattle.channel_model.specs.declared.acts.Settled.{Settled}
use Rattle.channel_model.specs.declared.acts.Settled.TheVariants as settled
use Rattle.job_model.specs.declared.acts.Cause.TheVariants as because
use Rattle.job_model.specs.declared.acts.End.{End}
use Rattle.job_model.specs.declared.acts.End.TheVariants as ended
use Rattle.call_meaning.specs.Telling.{Told, on_jobs, MayRun}
use Rattle.call_meaning.specs.ChannelCalls.{Call, sends, receives, Answer, Done, Got, Closed, Waits, NoPlace, LooksAgain, PlainCall, TryCall, SelectCall}
use Rattle.job_model.specs.Done.{done_channel}
use Rattle.call_meaning.specs.JobCalls.{Starts}
use Rattle.script_grammar.specs.declared.instructions.Launching.{Launching}
use Rattle.script_grammar.specs.declared.instructions.Launching.TheVariants as how
use Rattle.script_grammar.specs.declared.instructions.Operand.{Operand}
use Rattle.script_grammar.specs.declared.instructions.Instruction.{Instruction}
use Rattle.script_grammar.specs.declared.instructions.Instruction.TheVariants as line
use Rattle.script_grammar.specs.Programs.{Program}
use Rattle.script_grammar.specs.Nesting.{closing_of}
use Rattle.script_grammar.specs.Tags.{code_of}
use Rattle.script_meaning.specs.declared.stage.Stage.TheVariants.{Waiting, SeesJob, Unwinding, Leaving, SeesScope}
use Rattle.script_meaning.specs.Shapes.{base_of}
use Rattle.script_meaning.specs.Configs.{Config, in_each, InScope, at_stage, at_line, next, into, received, operand, innermost, outside, Names}

-- the Job that a line launches in this way is started by another line
abbrev pub is_lazy : Launching → Bool
is_lazy how.Plain = false
is_lazy how.Async = false
is_lazy how.Lazy = true

-- ---- the call of a line

-- the clauses of a select that begins these lines, with the elements that they send from here
abbrev pub clauses_in : Config → List Instruction → List Call
clauses_in x [] = []
clauses_in x (line.OnSend c o ∷ code) = sends c (operand x o) ∷ clauses_in x code
clauses_in x (line.OnReceive c ∷ code) = receives c ∷ clauses_in x code
clauses_in x (other ∷ code) = []

-- the clauses of the select at which it is
abbrev pub clauses_at : Program → ℕ → Config → List Call
clauses_at p k x = clauses_in x (drop (x.line + 1) (code_of p k))

-- the Job of the row is started, if it is New, and then its done channel is received from
pub data StartsAndReceives (p : Program) (row : ℕ) : List Told → Answer → Type 0 where
  both : (starts group all : List Told) (a : Answer) → Starts row starts
      → PlainCall (receives (done_channel (base_of p) row)) group a
      → all ≡ starts ++ group
      → StartsAndReceives p row all a

-- what this line asks of channels tells this, and is answered so
pub data LineCalls (p : Program) (k : ℕ) (x : Config) : Instruction → List Told → Answer → Type 0 where
  send : (c : ℕ) (o : Operand) (group : List Told) (a : Answer)
      → PlainCall (sends c (operand x o)) group a
      → LineCalls p k x (line.Send c o) group a
  receive : (c : ℕ) (group : List Told) (a : Answer)
      → PlainCall (receives c) group a
      → LineCalls p k x (line.Receive c) group a
  each : (c : ℕ) (group : List Told) (a : Answer)
      → PlainCall (receives c) group a
      → LineCalls p k x (line.Each c) group a
  trysend : (c : ℕ) (o : Operand) (group : List Told) (a : Answer)
      → TryCall (sends c (operand x o)) group a
      → LineCalls p k x (line.TrySend c o) group a
  tryreceive : (c : ℕ) (group : List Told) (a : Answer)
      → TryCall (receives c) group a
      → LineCalls p k x (line.TryReceive c) group a
  select : (group : List Told) (a : Answer)
      → SelectCall (clauses_at p k x) group a
      → LineCalls p k x line.Select group a
  -- a join looks at the innermost Job first
  join : (job row : ℕ) (group : List Told) (a : Answer) → Names x job row
      → StartsAndReceives p row group a
      → LineCalls p k x (line.Join job) (on_jobs (MayRun (innermost k x)) ∷ group) a
  await : (job row : ℕ) (group : List Told) (a : Answer) → Names x job row
      → StartsAndReceives p row group a
      → LineCalls p k x (line.Await job) group a

-- ---- where the line goes on

-- after this answer, also one for which it waited
pub data After (p : Program) (k : ℕ) (x : Config) : Instruction → Answer → Config → Type 0 where
  -- any of them
  waits : (i : Instruction) (w : WaitId) → After p k x i (Waits w) (at_stage (Waiting w) x)
  no_place : (i : Instruction) → After p k x i NoPlace (at_stage (Unwinding (Some k)) x)
  -- send, trysend
  sent : (c : ℕ) (o : Operand) → After p k x (line.Send c o) Done (next x)
  tried_to_send : (c : ℕ) (o : Operand) → After p k x (line.TrySend c o) Done (next x)
  -- receive, tryreceive
  got : (c v : ℕ) → After p k x (line.Receive c) (Got v) (next (received v x))
  no_more : (c v : ℕ) → After p k x (line.Receive c) (Closed v) (next x)
  tried_and_got : (c v : ℕ) → After p k x (line.TryReceive c) (Got v) (next (received v x))
  tried_to_get : (c : ℕ) → After p k x (line.TryReceive c) Done (next x)
  -- each: into its block, or past it
  got_one_more : (c v : ℕ) → After p k x (line.Each c) (Got v) (into (in_each x.line) (received v x))
  got_all : (c v e : ℕ) → closing_of (code_of p k) x.line ≡ Some e
      → After p k x (line.Each c) (Closed v) (at_line (e + 1) x)
  -- select: past its clauses, or once more
  chose_send : (e : ℕ) → closing_of (code_of p k) x.line ≡ Some e
      → After p k x line.Select Done (at_line (e + 1) x)
  chose_got : (e v : ℕ) → closing_of (code_of p k) x.line ≡ Some e
      → After p k x line.Select (Got v) (at_line (e + 1) (received v x))
  chose_closed : (e v : ℕ) → closing_of (code_of p k) x.line ≡ Some e
      → After p k x line.Select (Closed v) (at_line (e + 1) x)
  looks_again : After p k x line.Select LooksAgain x
  -- join, await: the done channel is closed
  joined : (job v : ℕ) → After p k x (line.Join job) (Closed v) (next x)
  awaited : (job v : ℕ) → After p k x (line.Await job) (Closed v) (at_stage SeesJob x)

-- after an await whose Job ended so
pub data AfterAwait (x : Config) : End → Config → Type 0 where
  completed : (v : ℕ) → AfterAwait x (ended.Completed v) (next (received v x))
  cancelled : AfterAwait x (ended.Cancelled because.Request) (at_stage (Unwinding None) x)
  failed : (f : ℕ) → AfterAwait x (ended.Cancelled (because.Failure f)) (at_stage (Unwinding (Some f)) x)

-- ---- waits

-- a wait that ends so has this answer
pub data Resumed : Settled → Answer → Type 0 where
  value : (n v : ℕ) → Resumed (settled.Value n v) (Got v)
  sent : (n : ℕ) → Resumed (settled.Sent n) Done
  closed : (n v : ℕ) → Resumed (settled.Closed n v) (Closed v)

-- ---- the end of a scope

-- after this answer of the receive on the done channel of the scope s; without a place the scope is left first
pub data AtScopeEnd (k : ℕ) (x : Config) (s : InScope) : Answer → Config → Type 0 where
  waits : (w : WaitId) → AtScopeEnd k x s (Waits w) (at_stage (Leaving w) x)
  closed : (v : ℕ) → AtScopeEnd k x s (Closed v) (at_stage SeesScope x)
  no_place : AtScopeEnd k x s NoPlace (at_stage (Unwinding (Some k)) (outside s x))

-- after a scope that ended so: past its lines, or on with its cancellation or failure outside
pub data AfterScope (p : Program) (k : ℕ) (x : Config) (s : InScope) : End → Config → Type 0 where
  completed : (v e : ℕ) → closing_of (code_of p k) s.head ≡ Some e
      → AfterScope p k x s (ended.Completed v) (at_line (e + 1) (outside s x))
  cancelled : AfterScope p k x s (ended.Cancelled because.Request) (at_stage (Unwinding None) (outside s x))
  failed : (f : ℕ)
      → AfterScope p k x s (ended.Cancelled (because.Failure f)) (at_stage (Unwinding (Some f)) (outside s x))
