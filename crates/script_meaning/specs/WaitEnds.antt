-- Which clauses the wait of a line has, and where its coroutine goes on by how that wait ends.
use Rattle.std.specs.Prelude.{◌≡◌, ℕ, ◌+◌, Bool, true, false, Option, Some, None, slice_get}
use Rattle.channel_model.specs.declared.acts.Settled.{Settled}
use Rattle.channel_model.specs.declared.acts.Settled.TheVariants as settled
use Rattle.call_meaning.specs.ChannelCalls.{sends, receives, Answer}
use Rattle.job_model.specs.Done.{done_channel}
use Rattle.script_grammar.specs.declared.instructions.Operand.{Operand}
use Rattle.script_grammar.specs.declared.instructions.Instruction.{Instruction}
use Rattle.script_grammar.specs.declared.instructions.Instruction.TheVariants as line
use Rattle.script_grammar.specs.Programs.{Program}
use Rattle.script_grammar.specs.Nesting.{closing_of}
use Rattle.script_grammar.specs.Tags.{code_of}
use Rattle.script_meaning.specs.declared.stage.Stage.TheVariants.{SeesJob, Unwinding}
use Rattle.script_meaning.specs.Shapes.{base_of}
use Rattle.script_meaning.specs.Configs.{Config, in_each, InScope, at_stage, at_line, next, into, received, scope_in, Names}
use Rattle.script_meaning.specs.Lines.{clauses_at, After, Resumed}

-- ---- clauses

-- a clause of the wait of the line at which x is: its side, true if it sends, its number and its channel
pub data ClauseOf (p : Program) (k : ℕ) (x : Config) : Instruction → Bool → ℕ → ℕ → Type 0 where
  -- the only one
  send : (c : ℕ) (o : Operand) → ClauseOf p k x (line.Send c o) true 0 c
  receive : (c : ℕ) → ClauseOf p k x (line.Receive c) false 0 c
  each : (c : ℕ) → ClauseOf p k x (line.Each c) false 0 c
  join : (job row : ℕ) → Names x job row → ClauseOf p k x (line.Join job) false 0 (done_channel (base_of p) row)
  await : (job row : ℕ) → Names x job row → ClauseOf p k x (line.Await job) false 0 (done_channel (base_of p) row)
  -- those of a select are numbered from 1
  select_send : (n c v : ℕ) → slice_get (clauses_at p k x) n ≡ Some (sends c v) → ClauseOf p k x line.Select true (n + 1) c
  select_receive : (n c : ℕ) → slice_get (clauses_at p k x) n ≡ Some (receives c)
      → ClauseOf p k x line.Select false (n + 1) c

-- the clause of the wait at the end of the innermost scope
pub data ScopeClause (p : Program) (x : Config) : Bool → ℕ → ℕ → Type 0 where
  receive : (s : InScope) → scope_in x.entered ≡ Some s → ScopeClause p x false 0 (done_channel (base_of p) s.row)

-- ---- ends

-- past the line that closes what the line opens
abbrev pub past : Option ℕ → Config → Config
past None x = next x
past (Some e) x = at_line (e + 1) x

abbrev pub past_closing : Program → ℕ → Config → Config → Config
past_closing p k x y = past (closing_of (code_of p k) x.line) y

abbrev pub after_value : Program → ℕ → Config → ℕ → Instruction → Config
after_value p k x v (line.Each c) = into (in_each x.line) (received v x)
after_value p k x v line.Select = past_closing p k x (received v x)
after_value p k x v other = next (received v x)

abbrev pub after_sent : Program → ℕ → Config → Instruction → Config
after_sent p k x line.Select = past_closing p k x x
after_sent p k x other = next x

abbrev pub after_closed : Program → ℕ → Config → Instruction → Config
after_closed p k x (line.Each c) = past_closing p k x x
after_closed p k x line.Select = past_closing p k x x
after_closed p k x (line.Await job) = at_stage SeesJob x
after_closed p k x other = next x

-- where the coroutine is after the wait of this line ended so; it unwinds where that wait was taken back
abbrev pub after_wait : Program → ℕ → Config → Instruction → Settled → Config
after_wait p k x i (settled.Value n v) = after_value p k x v i
after_wait p k x i (settled.Sent n) = after_sent p k x i
after_wait p k x i (settled.Closed n v) = after_closed p k x i
after_wait p k x i settled.Cancelled = at_stage (Unwinding None) x
after_wait p k x i (settled.Undelivered v) = at_stage (Unwinding None) x

-- the wait of this line may end so: with an answer of the line, or as taken back
pub data WaitEnds (p : Program) (k : ℕ) (x : Config) (i : Instruction) : Settled → Type 0 where
  answered : (outcome : Settled) (a : Answer) → Resumed outcome a → After p k x i a (after_wait p k x i outcome)
      → WaitEnds p k x i outcome
  taken_back : WaitEnds p k x i settled.Cancelled
