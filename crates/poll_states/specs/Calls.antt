-- The calls of lines on channels: what each tells, and where a coroutine goes on by what it came to.
use Rattle.std.specs.Prelude.{◌≡◌, ℕ, Bool, true, false, ◌&&◌, not, List, Some, is_some, unwrap_or, Result, Ok, Err}
use Rattle.co_base.specs.declared.names.Memory.{Memory}
use Rattle.channel_model.specs.Floors.{Floor}
use Rattle.call_meaning.specs.Telling.{Told}
use Rattle.call_meaning.specs.ChannelCalls.{Answer as AnswerMeant, sends, receives, PlainCall, TryCall, Closes, CancelsChannel}
use Rattle.call_meaning.specs.ChannelCalls as told_of
use Rattle.call_meaning.specs.Seen.{SeenOnChannels}
use Rattle.call_meaning.specs.Calls.{ToldOnChannels}
use Rattle.channel_calls.specs.declared.caller.SendAnswer.{SendAnswer}
use Rattle.channel_calls.specs.declared.caller.SendAnswer.TheVariants as send
use Rattle.channel_calls.specs.declared.caller.TrySendAnswer.{TrySendAnswer}
use Rattle.channel_calls.specs.declared.caller.TrySendAnswer.TheVariants as try_send
use Rattle.channel_calls.specs.declared.caller.ReceiveAnswer.{ReceiveAnswer}
use Rattle.channel_calls.specs.declared.caller.ReceiveAnswer.TheVariants as receive
use Rattle.channel_calls.specs.declared.caller.TryReceiveAnswer.{TryReceiveAnswer}
use Rattle.channel_calls.specs.declared.caller.TryReceiveAnswer.TheVariants as try_receive
use Rattle.channel_calls.specs.Calls.{ToldPart}
use Rattle.script_grammar.specs.declared.instructions.Instruction.{Instruction}
use Rattle.script_grammar.specs.declared.instructions.Instruction.TheVariants as line
use Rattle.script_grammar.specs.Blocks.{channel_of, is_clause}
use Rattle.script_grammar.specs.Programs.{Program}
use Rattle.script_meaning.specs.declared.stage.Stage.TheVariants.{Waiting, Unwinding}
use Rattle.script_meaning.specs.Configs.{Config, operand, at_stage}
use Rattle.script_meaning.specs.Polls.{HasStood}
use Rattle.script_meaning.specs.WaitEnds.{after_sent, after_value, after_closed}
use Rattle.poll_states.specs.declared.answers.Answer.{Answer}
use Rattle.poll_states.specs.declared.answers.Answer.TheVariants as came

-- ---- the call of a line

-- the line calls a channel: it names one, and is no clause of a select
abbrev pub does_call : Instruction → Bool
does_call i = is_some (channel_of i) && not (is_clause i)

-- the channel that it names, or 0
abbrev pub channel_in : Instruction → ℕ
channel_in i = unwrap_or (channel_of i) 0

-- the element that it sends from here, or 0
abbrev pub element_of : Config → Instruction → ℕ
element_of x (line.Send c o) = operand x o
element_of x (line.TrySend c o) = operand x o
element_of x other = 0

-- ---- what it came to

abbrev pub answer_of_send : SendAnswer → Answer
answer_of_send send.Sent = came.Done
answer_of_send (send.Waits w) = came.Waits w
answer_of_send (send.Closed v) = came.Done
answer_of_send send.Spent = came.NoPlace

abbrev pub answer_of_try_send : TrySendAnswer → Answer
answer_of_try_send try_send.Sent = came.Done
answer_of_try_send try_send.Full = came.Done
answer_of_try_send (try_send.Closed v) = came.Done
answer_of_try_send try_send.Spent = came.NoPlace

abbrev pub answer_of_receive : ReceiveAnswer → Answer
answer_of_receive (receive.Value v) = came.Got v
answer_of_receive (receive.Waits w) = came.Waits w
answer_of_receive (receive.Closed v) = came.Closed v
answer_of_receive receive.Spent = came.NoPlace

abbrev pub answer_of_try_receive : TryReceiveAnswer → Answer
answer_of_try_receive (try_receive.Value v) = came.Got v
answer_of_try_receive try_receive.Empty = came.Done
answer_of_try_receive (try_receive.Closed v) = came.Done

-- the same answer, as the meaning of calls has it
abbrev pub meant : Answer → AnswerMeant
meant came.Done = told_of.Done
meant (came.Got v) = told_of.Got v
meant (came.Closed v) = told_of.Closed v
meant (came.Waits w) = told_of.Waits w
meant came.NoPlace = told_of.NoPlace

-- it is done, and brought no element
abbrev pub is_done : Answer → Bool
is_done came.Done = true
is_done other = false

-- it brought an element
abbrev pub is_got : Answer → Bool
is_got (came.Got v) = true
is_got other = false

-- nothing was left to receive
abbrev pub is_closed : Answer → Bool
is_closed (came.Closed v) = true
is_closed other = false

-- a send may come to this
abbrev pub IsSendEnd : Answer → Type 0
IsSendEnd a = (is_got a ≡ false) × (is_closed a ≡ false)

-- what the call of this line with this element tells that came to this
abbrev pub CallTells : ℕ → Instruction → Answer → List Told → Type 0
CallTells v (line.Send c o) a told = IsSendEnd a × PlainCall (sends c v) told (meant a)
CallTells v (line.TrySend c o) a told = IsSendEnd a × TryCall (sends c v) told (meant a)
CallTells v (line.Receive c) a told = (is_done a ≡ false) × PlainCall (receives c) told (meant a)
CallTells v (line.TryReceive c) a told = (is_closed a ≡ false) × TryCall (receives c) told (meant a)
CallTells v (line.Each c) a told = (is_done a ≡ false) × PlainCall (receives c) told (meant a)
CallTells v (line.Close c) a told = (a ≡ came.Done) × Closes c 0 told
CallTells v (line.CancelChannel c) a told = (a ≡ came.Done) × CancelsChannel c told
CallTells v other a told = ⊥

-- or what it may come to
abbrev pub CallTellsSomehow : ℕ → Instruction → List Told → Type 0
CallTellsSomehow v i told = (a : Answer) × CallTells v i a told

-- a wait that it left stood at a moment
abbrev pub LeftWaiting : Answer → Floor → Floor → Type 0
LeftWaiting (came.Waits w) c c' = HasStood c c' w
LeftWaiting other c c' = Unit {0}

-- what the call told is noted, and was so
pub record Made (v : ℕ) (i : Instruction) (old new : SeenOnChannels) (a : Answer) : Type 0 where
  pub told : List Told
  pub goes : CallTells v i a told
  pub left : ToldOnChannels old new told
  pub stood : LeftWaiting a old.floor new.floor

abbrev pub MadeAnswer : ℕ → Instruction → SeenOnChannels → SeenOnChannels → Result Answer Memory → Type 0
MadeAnswer v i old new (Ok a) = Made v i old new a
MadeAnswer v i old new (Err m) = ToldPart (CallTellsSomehow v i) old new

-- ---- where its coroutine goes on

-- the line enters its block with an element
abbrev pub enters : Instruction → Bool
enters (line.Each c) = true
enters other = false

abbrev pub after_call : Program → ℕ → Config → Instruction → Answer → Config
after_call p k x i came.Done = after_sent p k x i
after_call p k x i (came.Got v) = after_value p k x v i
after_call p k x i (came.Closed v) = after_closed p k x i
after_call p k x i (came.Waits w) = at_stage (Waiting w) x
after_call p k x i came.NoPlace = at_stage (Unwinding (Some k)) x
