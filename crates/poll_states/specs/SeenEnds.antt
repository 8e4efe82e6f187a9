-- Where a coroutine goes on by what the end of a scope came to, and how it sees an end.
use Rattle.std.specs.Prelude.{◌≡◌, ◌≢◌, ◌+◌, ◌<◌, ◌⊎◌, ℕ, true, false, List, [], ◌∷◌, ◌++◌, length, Option, Some, None, Result, Ok, Err}
use Rattle.co_base.specs.declared.names.Memory.{Memory}
use Rattle.co_base.specs.declared.names.WaitId.{WaitId}
use Rattle.channel_model.specs.declared.acts.Settled.{Settled}
use Rattle.channel_model.specs.Answers.{outcome_at}
use Rattle.job_model.specs.declared.acts.Cause.{Cause}
use Rattle.job_model.specs.declared.acts.Cause.TheVariants as because
use Rattle.job_model.specs.declared.acts.End.{End}
use Rattle.job_model.specs.declared.acts.End.TheVariants as ended
use Rattle.job_model.specs.Floors.{Added}
use Rattle.call_meaning.specs.Telling.{Told, saw_end}
use Rattle.call_meaning.specs.ChannelCalls.{Answer}
use Rattle.call_meaning.specs.JobCalls.{EndsBody, BreaksOff}
use Rattle.call_meaning.specs.Seen.{SeenOnChannels, state_in}
use Rattle.call_meaning.specs.Calls.{ToldOnChannels}
use Rattle.channel_calls.specs.Calls.{IsUntouched, end_told}
use Rattle.scope_builders.specs.declared.builder.Joined.{Joined}
use Rattle.scope_builders.specs.declared.builder.Joined.TheVariants as joined
use Rattle.scope_builders.specs.Calls.{ReceivesDone}
use Rattle.script_grammar.specs.declared.instructions.Instruction.TheVariants as line
use Rattle.script_grammar.specs.Programs.{Program}
use Rattle.script_grammar.specs.Nesting.{closing_of}
use Rattle.script_grammar.specs.Tags.{code_of, coroutine_count}
use Rattle.script_reader.specs.declared.script.Script.{Script}
use Rattle.script_reader.specs.Scripts.{program_of}
use Rattle.script_meaning.specs.declared.stage.Stage.{Stage}
use Rattle.script_meaning.specs.declared.stage.Stage.TheVariants.{SeesJob, Unwinding, Leaving, SeesScope, Ended}
use Rattle.script_meaning.specs.declared.turn.Turn.{Turn}
use Rattle.script_meaning.specs.declared.turn.Turn.TheVariants as turn
use Rattle.script_meaning.specs.Configs.{Config, Entered, in_scope, InScope, scope_in, outside, at_stage, at_line, next, received, LineIs}
use Rattle.script_meaning.specs.Polls.{AsksAgain, is_seeing}
use Rattle.poll_states.specs.declared.entered.OpenScope.{OpenScope}
use Rattle.poll_states.specs.Frames.{Frame, config_of, IsScopeOf, SeenAtPoll, both_of, IsUnmoved}
use Rattle.poll_states.specs.Steps.{Stepped, CutShort, AnsweredAfter}

-- ---- the end of a Job

-- how a coroutine unwinds that saw a Job which was cancelled for this cause
abbrev pub unwinds_for : Cause → Stage
unwinds_for because.None = Unwinding None
unwinds_for because.Request = Unwinding None
unwinds_for (because.Failure f) = Unwinding (Some f)

-- where a coroutine is that saw the Job which it awaited end so
abbrev pub after_job : End → Config → Config
after_job (ended.Completed v) x = next (received v x)
after_job (ended.Cancelled cause) x = at_stage (unwinds_for cause) x

-- the line is an await, and its name means a row
pub record AwaitsNamed (p : Program) (f : Frame) : Type 0 where
  pub in_run : f.tag < coroutine_count p
  pub sees : f.stage ≡ SeesJob
  pub job : ℕ
  pub line_is : LineIs p f.tag (config_of f) (line.Await job)
  pub named : job < length f.rows.items

-- ---- the end of a scope

-- its innermost scope is this one
abbrev pub IsInScope : Config → OpenScope → Type 0
IsInScope x s = IsScopeOf x.entered (Some s)

-- what it entered last is this scope
abbrev pub IsScopeTop : Config → OpenScope → Type 0
IsScopeTop x s = (around : List Entered) × (x.entered ≡ in_scope s.head s.row ∷ around)

-- what it entered last is no scope
abbrev pub EndsNoScope : Config → Type 0
EndsNoScope x = (s : OpenScope) → IsScopeTop x s → ⊥

-- where a coroutine is whose receive on the done channel of its innermost scope came to this
abbrev pub AfterDone : ℕ → Joined → Config → Config → Type 0
AfterDone k (joined.Closed v) x y = y ≡ at_stage SeesScope x
AfterDone k (joined.Waits w) x y = y ≡ at_stage (Leaving w) x
AfterDone k joined.Cancelled x y = y ≡ at_stage (Unwinding None) x
AfterDone k joined.Spent x y = (s : InScope) → scope_in x.entered ≡ Some s → y ≡ at_stage (Unwinding (Some k)) (outside s x)

-- outside a scope that begins at this line and ended so
abbrev pub GoesOutside : Program → ℕ → ℕ → End → Config → Config → Type 0
GoesOutside p k head (ended.Completed v) x y = (e : ℕ) × (closing_of (code_of p k) head ≡ Some e) × (y ≡ at_line (e + 1) x)
GoesOutside p k head (ended.Cancelled cause) x y = y ≡ at_stage (unwinds_for cause) x

-- the innermost scope, which begins at this line and ended so, was left
abbrev pub LeavesEnded : Program → ℕ → ℕ → End → Config → Config → Type 0
LeavesEnded p k head end x y = (s : InScope) → scope_in x.entered ≡ Some s → GoesOutside p k head end (outside s x) y

-- the body ends, and the done channel is received from
pub record EndsAndReceives (base row : ℕ) (a : Answer) (told : List Told) : Type 0 where
  pub end : List Told
  pub group : List Told
  pub ends : EndsBody base row 0 end
  pub received : ReceivesDone base row a group
  pub all : told ≡ end ++ group

-- the body breaks off, and the done channel is received from
pub record BreaksAndReceives (base k row : ℕ) (failure : Option ℕ) (a : Answer) (told : List Told) : Type 0 where
  pub cancels : List Told
  pub group : List Told
  pub breaks : BreaksOff base k row failure cancels
  pub received : ReceivesDone base row a group
  pub all : told ≡ cancels ++ group

-- the wait at the end of a scope was settled as it was resolved
pub record EndedScopeWait (w : WaitId) (old new : SeenOnChannels) (f g : Frame) : Type 0 where
  pub outcome : Settled
  pub ends : outcome_at false ((state_in old).waits w) ≡ Some outcome
  pub config : config_of g ≡ at_stage SeesScope (config_of f)
  pub noted : ToldOnChannels old new (end_told w false outcome)

abbrev pub ScopeWaitAnswer : WaitId → SeenOnChannels → SeenOnChannels → Frame → Frame → Result (Unit {0}) Memory → Type 0
ScopeWaitAnswer w old new f g (Ok done) = EndedScopeWait w old new f g
ScopeWaitAnswer w old new f g (Err m) = IsUntouched old new

-- ---- an end is seen

-- the Job has not ended, and nothing was done
pub record NotYetSeen (p : Program) (old new : SeenAtPoll) : Type 0 where
  pub tag : new.frame.tag ≡ old.frame.tag
  pub unmoved : IsUnmoved old.frame new.frame
  pub channels : new.channels ≡ old.channels
  pub looked : Added old.frame.tag [] [] old.jobs new.jobs
  pub again : AsksAgain p old.jobs new.jobs old.frame.tag (config_of old.frame)

-- the end was seen, and the coroutine goes on
pub record HasSeen (p : Program) (old new : SeenAtPoll) : Type 0 where
  pub step : Stepped p old new
  pub row : ℕ
  pub end : End
  pub told_is : step.told ≡ saw_end row end ∷ []
  pub runs : new.frame.stage ≢ Ended

abbrev pub Seen : Program → SeenAtPoll → SeenAtPoll → Type 0
Seen p old new = HasSeen p old new ⊎ NotYetSeen p old new

abbrev pub SeenAnswer : Script → SeenAtPoll → SeenAtPoll → Result (Unit {0}) Memory → Type 0
SeenAnswer s old new (Ok done) = Seen (program_of s) old new
SeenAnswer s old new (Err m) = CutShort (both_of old) (both_of new)

-- ---- after a step

-- what is done after a step: if an end is to be seen it is looked for; else the coroutine is looked at
pub data WentOn (p : Program) (old new : SeenAtPoll) (answer : Turn) : Type 0 where
  seen : is_seeing old.frame.stage ≡ true → answer ≡ turn.Ready → Seen p old new → WentOn p old new answer
  answered : new.frame ≡ old.frame → new.channels ≡ old.channels → AnsweredAfter old.frame old.jobs new.jobs answer
      → WentOn p old new answer

abbrev pub WentOnAnswer : Script → SeenAtPoll → SeenAtPoll → Result Turn Memory → Type 0
WentOnAnswer s old new (Ok answer) = WentOn (program_of s) old new answer
WentOnAnswer s old new (Err m) = CutShort (both_of old) (both_of new)
