-- The calls of lines on the Job that they name: what each tells, and where a coroutine goes on by what it came to.
use Rattle.std.specs.Prelude.{◌≡◌, ℕ, Bool, [], Option, Some, None, Result, Ok, Err}
use Rattle.co_base.specs.declared.names.Memory.{Memory}
use Rattle.call_meaning.specs.Seen.{SeenOnBoth, jobs_of}
use Rattle.call_meaning.specs.Calls.{ToldOnJobs}
use Rattle.scope_builders.specs.declared.builder.Joined.{Joined}
use Rattle.scope_builders.specs.declared.builder.Joined.TheVariants as joined
use Rattle.call_meaning.specs.JobCalls.{Starts}
use Rattle.scope_builders.specs.Calls.{start_told, CancelledAll, JoinAnswer, DoneAnswer, AwaitsEnd}
use Rattle.script_grammar.specs.declared.instructions.Instruction.{Instruction}
use Rattle.script_grammar.specs.declared.instructions.Instruction.TheVariants as line
use Rattle.script_grammar.specs.Programs.{Program}
use Rattle.script_meaning.specs.declared.stage.Stage.TheVariants.{Unwinding}
use Rattle.script_meaning.specs.Configs.{Config, at_stage}
use Rattle.poll_states.specs.declared.answers.Answer.{Answer}
use Rattle.poll_states.specs.declared.answers.Answer.TheVariants as came
use Rattle.poll_states.specs.Calls.{after_call}
use Rattle.call_meaning.specs.Orders.{IsToldOfJobs}
use Rattle.poll_states.specs.Steps.{CutShort}

-- what a join or an await came to, unless the innermost Job was seen Cancelling
abbrev pub answer_of_joined : Joined → Option Answer
answer_of_joined (joined.Closed v) = Some (came.Closed v)
answer_of_joined (joined.Waits w) = Some (came.Waits w)
answer_of_joined joined.Cancelled = None
answer_of_joined joined.Spent = Some came.NoPlace

-- the Job was started, if it was New, and the channels were told
pub record HasStarted (row : ℕ) (old new : SeenOnBoth) : Type 0 where
  pub heard : IsToldOfJobs old.who old.channels new.channels new.jobs
  pub now : Bool
  pub noted : ToldOnJobs [] (jobs_of old) (jobs_of new) (start_told now row)

-- the Job was cancelled with all below it, and the channels were told
pub record HasCancelled (row : ℕ) (old new : SeenOnBoth) : Type 0 where
  pub heard : IsToldOfJobs old.who old.channels new.channels new.jobs
  pub count : ℕ
  pub all : CancelledAll row (jobs_of old) (jobs_of new) count

-- what was received from the done channel
pub record HasJoined (Answered : Result Joined Memory → Type 0) (a : Option Answer) : Type 0 where
  pub how : Joined
  pub answer_is : a ≡ answer_of_joined how
  pub answer : Answered (Ok how)

-- what the call of this line told that came to this
abbrev pub NamedTells : Instruction → ℕ → ℕ → ℕ → SeenOnBoth → SeenOnBoth → Option Answer → Type 0
NamedTells (line.Start job) base own row old new a = (a ≡ Some came.Done) × HasStarted row old new
NamedTells (line.Cancel job) base own row old new a = (a ≡ Some came.Done) × HasCancelled row old new
NamedTells (line.Join job) base own row old new a = HasJoined (JoinAnswer base own row old new) a
NamedTells (line.Await job) base own row old new a = HasJoined (DoneAnswer base (AwaitsEnd base row) (Starts row) old new) a
NamedTells other base own row old new a = ⊥

abbrev pub NamedAnswer : Instruction → ℕ → ℕ → ℕ → SeenOnBoth → SeenOnBoth → Result (Option Answer) Memory → Type 0
NamedAnswer i base own row old new (Ok a) = NamedTells i base own row old new a
NamedAnswer i base own row old new (Err m) = CutShort old new

-- where its coroutine goes on
abbrev pub after_named : Program → ℕ → Config → Instruction → Option Answer → Config
after_named p k x i (Some a) = after_call p k x i a
after_named p k x i None = at_stage (Unwinding None) x
