-- What one move of a coroutine leaves, and what a poll does.
use Rattle.std.specs.Prelude.{◌≡◌, ◌<◌, ◌≤◌, ◌+◌, ◌⊎◌, ℕ, Bool, true, false, List, [], ◌∷◌, ◌++◌, length, Some, None, Result, Ok, Err, OnOk}
use Rattle.co_base.specs.declared.names.Memory.{Memory}
use Rattle.co_base.specs.declared.names.WaitId.{WaitId}
use Rattle.channel_model.specs.declared.acts.Settled.{Settled}
use Rattle.channel_model.specs.Histories.{acts_of as channel_acts_of}
use Rattle.channel_model.specs.Floors.{Floor as ChannelFloor, Added as AddedToChannels, Looked as LookedAtChannels}
use Rattle.channel_model.specs.Answers.{IsReady, outcome_at}
use Rattle.job_model.specs.Trees.{Tree, state_of, is_among}
use Rattle.job_model.specs.declared.acts.JobState.TheVariants as states
use Rattle.job_model.specs.declared.acts.JobAct.TheVariants.{Attach}
use Rattle.job_model.specs.declared.acts.JobNote.TheVariants as known
use Rattle.job_model.specs.Histories.{acts_of}
use Rattle.job_model.specs.Floors.{Floor, Added, Looked, AtStep, is_claimed_by}
use Rattle.note_book.specs.declared.book.Item.{Item}
use Rattle.note_book.specs.declared.book.Item.TheVariants as item
use Rattle.note_book.specs.Items.{channel_acts_in, job_acts_in}
use Rattle.call_meaning.specs.Telling.{Told, items_in, did}
use Rattle.call_meaning.specs.Facts.{IsRunning}
use Rattle.call_meaning.specs.ChannelCalls.{GivesUp}
use Rattle.call_meaning.specs.JobCalls.{child_kind, NotAttached}
use Rattle.call_meaning.specs.Seen.{SeenOnChannels, SeenOnJobs, SeenOnBoth, state_in}
use Rattle.call_meaning.specs.Calls.{ToldOnChannels, ToldOnJobs, ToldOnBoth, rows_in}
use Rattle.channel_calls.specs.Calls.{IsUntouched, ToldPart, end_told}
use Rattle.scope_builders.specs.Dones.{KeepsDones}
use Rattle.script_grammar.specs.declared.instructions.Instruction.{Instruction}
use Rattle.script_grammar.specs.declared.instructions.Instruction.TheVariants.{Select}
use Rattle.script_grammar.specs.Programs.{Program}
use Rattle.script_grammar.specs.Nesting.{closing_of}
use Rattle.script_grammar.specs.Tags.{code_of, coroutine_count, size_of}
use Rattle.script_reader.specs.declared.script.Script.{Script}
use Rattle.script_reader.specs.Scripts.{program_of}
use Rattle.script_meaning.specs.declared.stage.Stage.{Stage}
use Rattle.script_meaning.specs.declared.stage.Stage.TheVariants.{Running, Waiting, Unwinding, Leaving, Ended}
use Rattle.script_meaning.specs.declared.turn.Turn.{Turn}
use Rattle.script_meaning.specs.declared.turn.Turn.TheVariants as turn
use Rattle.script_meaning.specs.Shapes.{floor_shape, job_shape, base_of}
use Rattle.script_meaning.specs.Configs.{Config, fresh, at_stage, at_line}
use Rattle.script_meaning.specs.Configs.{past_launch, innermost, LineIs, IsAt}
use Rattle.script_meaning.specs.Bodies.{HasBodyAt}
use Rattle.script_meaning.specs.WaitEnds.{after_wait}
use Rattle.script_meaning.specs.Laws.{wait_of}
use Rattle.script_meaning.specs.Moves.{Move}
use Rattle.script_meaning.specs.Idle.{IsNotStarted}
use Rattle.script_meaning.specs.Polls.{RefusedByClaims, Begun, Polled, TurnAnswer, HasStood, own_rows, is_seeing}
use Rattle.poll_states.specs.declared.jobs.OwnState.{OwnState}
use Rattle.poll_states.specs.declared.jobs.OwnState.TheVariants as own
use Rattle.call_meaning.specs.Orders.{IsToldOfJobs}
use Rattle.poll_states.specs.Heard.{HasHeardOf}
use Rattle.poll_states.specs.Frames.{Frame, config_of, items_of, frame_of, seen_at, SeenAtPoll, both_of, Stands}

-- ---- one move

-- one move of the coroutine, which told this, left it so; where it waits now, or leaves a scope, its wait stood at a moment
pub record Stepped (p : Program) (old new : SeenAtPoll) : Type 0 where
  pub tag : new.frame.tag ≡ old.frame.tag
  pub told : List Told
  pub move : Move p old.frame.tag (config_of old.frame) told (config_of new.frame)
  pub noted : ToldOnBoth (rows_in (job_acts_in (items_in told))) (both_of old) (both_of new) told
  pub refused : RefusedByClaims (config_of old.frame) (items_in told) new.jobs
  pub dones : KeepsDones (base_of p) (both_of old) (both_of new) (items_in told)
  pub stood : (w : WaitId) → wait_of new.frame.stage ≡ Some w → HasStood old.channels new.channels w

-- there was no memory: the entries made so far stand and are noted
pub record CutShort (old new : SeenOnBoth) : Type 0 where
  pub who : new.who ≡ old.who
  pub group : List Item
  pub rows : List ℕ
  pub appended : new.items ≡ old.items ++ group
  pub channels : AddedToChannels old.who (channel_acts_in group) old.channels new.channels
  pub jobs : Added old.who (job_acts_in group) rows old.jobs new.jobs

abbrev pub StepAnswer : Script → SeenAtPoll → SeenAtPoll → Result (Unit {0}) Memory → Type 0
StepAnswer s old new (Ok done) = Stepped (program_of s) old new
StepAnswer s old new (Err m) = CutShort (both_of old) (both_of new)

-- ---- one's own Job

-- the body of this row, which is one of the floor's, is who's, and has not ended
pub record HasBody (who row : ℕ) (jobs : Floor) : Type 0 where
  pub row_in : row < jobs.shape.rows
  pub at : HasBodyAt who row jobs

-- what was so of the Job at a moment
abbrev pub IsSeenAs : OwnState → ℕ → Tree → Type 0
IsSeenAs own.NotStarted k tree = IsNotStarted (tree k)
IsSeenAs own.Cancelling k tree = state_of (tree k) ≡ Some states.Cancelling
IsSeenAs own.MayRun k tree = IsRunning (tree k)

pub record OwnStateSeen (who row : ℕ) (old new : Floor) (state : OwnState) : Type 0 where
  pub looked : Looked who [] old new
  pub was : AtStep old new (IsSeenAs state row)

-- ---- past what a line opens

-- it is past the line that closes what its line opens
abbrev pub GoesPast : Program → ℕ → Config → Config → Type 0
GoesPast p k old new = (e : ℕ) × (closing_of (code_of p k) old.line ≡ Some e) × (new ≡ at_line (e + 1) old)

-- ---- one's own wait

-- the wait was seen resolved, and may be settled; or it stood at a moment
abbrev pub IsSeenSo : ℕ → WaitId → ChannelFloor → ChannelFloor → Bool → Type 0
IsSeenSo who w old new true = IsReady who w new
IsSeenSo who w old new false = HasStood old new w

pub record SeenWait (who : ℕ) (w : WaitId) (old new : ChannelFloor) (resolved : Bool) : Type 0 where
  pub looked : LookedAtChannels who old new
  pub so : IsSeenSo who w old new resolved

-- the wait was looked at, and then the Job of this row; each floor heard what was seen on the other
pub record SeenBoth (who : ℕ) (w : WaitId) (row : ℕ) (c c' : ChannelFloor) (j j' : Floor) (resolved : Bool) (state : OwnState) : Type 0
  where
    pub channels : ChannelFloor
    pub jobs : Floor
    pub wait : SeenWait who w c channels resolved
    pub heard : HasHeardOf who channels j jobs
    pub job : OwnStateSeen who row jobs j' state
    pub told : IsToldOfJobs who channels c' j'

-- the wait was settled as it was resolved, and the coroutine goes on as that says for its line
pub record EndedWait (p : Program) (w : WaitId) (old new : SeenOnChannels) (f g : Frame) : Type 0 where
  pub outcome : Settled
  pub ends : outcome_at false ((state_in old).waits w) ≡ Some outcome
  pub line : Instruction
  pub line_is : LineIs p f.tag (config_of f) line
  pub config : config_of g ≡ after_wait p f.tag (config_of f) line outcome
  pub noted : ToldOnChannels old new (end_told w false outcome)

abbrev pub EndedWaitAnswer : Program → WaitId → SeenOnChannels → SeenOnChannels → Frame → Frame → Result (Unit {0}) Memory → Type 0
EndedWaitAnswer p w old new f g (Ok done) = EndedWait p w old new f g
EndedWaitAnswer p w old new f g (Err m) = IsUntouched old new

-- with the note that the Job of this row was seen Cancelling
abbrev pub with_saw : ℕ → SeenOnChannels → SeenOnChannels
with_saw row seen = record seen { items = seen.items ++ item.Job (known.Saw row) ∷ [] }

-- that was noted, and then the wait was given up
pub record GaveUp (w : WaitId) (row : ℕ) (old new : SeenOnChannels) : Type 0 where
  pub told : List Told
  pub goes : GivesUp w told
  pub noted : ToldOnChannels (with_saw row old) new told

abbrev pub GaveUpAnswer : WaitId → ℕ → SeenOnChannels → SeenOnChannels → Result (Unit {0}) Memory → Type 0
GaveUpAnswer w row old new (Ok done) = GaveUp w row old new
GaveUpAnswer w row old new (Err m) = ToldPart (GivesUp w) (with_saw row old) new

-- ---- the line

-- it runs, and no line is left
pub record IsAtEnd (p : Program) (f : Frame) : Type 0 where
  pub running : f.stage ≡ Running
  pub none_left : f.line ≡ length (code_of p f.tag)

-- ---- polls

-- a poll of f left g and answered so
pub record PolledTo (p : Program) (c c' : ChannelFloor) (j j' : Floor) (f g : Frame) (answer : Turn) : Type 0 where
  pub polled : Polled p c c' j j' (frame_of f) (frame_of g)
  pub turn : TurnAnswer p c c' j j' (frame_of f) (frame_of g) polled.told answer
  pub stands : Stands p c' j' g
  pub dones : KeepsDones (base_of p) (seen_at c j f) (seen_at c' j' g) (items_in polled.told)

abbrev pub HasPolled : Program → SeenAtPoll → SeenAtPoll → Turn → Type 0
HasPolled p old new answer = PolledTo p old.channels new.channels old.jobs new.jobs old.frame new.frame answer

abbrev pub PollAnswer : Script → SeenAtPoll → SeenAtPoll → Result Turn Memory → Type 0
PollAnswer s old new (Ok answer) = HasPolled (program_of s) old new answer
PollAnswer s old new (Err m) = CutShort (both_of old) (both_of new)

-- what a poll answers after a line that left the coroutine so: one that waits is to be polled again where the Job of this row, its
-- innermost, was Cancelling
abbrev pub IsAnswerAt : ℕ → Stage → Floor → Floor → Turn → Type 0
IsAnswerAt row (Waiting w) old new answer =
    ((answer ≡ turn.Ready) × AtStep old new (λ tree. state_of (tree row) ≡ Some states.Cancelling))
    ⊎ ((answer ≡ turn.Waits) × AtStep old new (λ tree. IsRunning (tree row)))
IsAnswerAt row (Leaving w) old new answer = answer ≡ turn.Waits
IsAnswerAt row Ended old new answer = answer ≡ turn.Ended
IsAnswerAt row other old new answer = answer ≡ turn.Ready

pub record AnsweredAfter (f : Frame) (old new : Floor) (answer : Turn) : Type 0 where
  pub looked : Added f.tag [] [] old new
  pub so : IsAnswerAt (innermost f.tag (config_of f)) f.stage old new answer

-- a coroutine at a select has no end to see after it, and alone on its floors it does not look again
abbrev pub MovesOn : Program → ChannelFloor → Frame → Frame → Type 0
MovesOn p c f g =
    IsAt p f.tag (config_of f) Select
    → (is_seeing g.stage ≡ false) × (c.alone ≡ true → config_of g ≡ config_of f → ⊥)

-- so it is after a poll of a coroutine of this script
abbrev pub MovesAnswer : {A : Type 0} → Script → SeenAtPoll → SeenAtPoll → Result A Memory → Type 0
MovesAnswer s old new result = OnOk result (MovesOn (program_of s) old.channels old.frame new.frame)

-- ---- the beginning

-- the frame is main's, as it is made
pub record IsNewRoot (f : Frame) : Type 0 where
  pub tag : f.tag ≡ 0
  pub config : config_of f ≡ fresh 0
  pub book : items_of f ≡ []

-- the channels are those of the script, and main did nothing there yet
pub record IsOnItsChannels (p : Program) (c : ChannelFloor) : Type 0 where
  pub channels : c.shape ≡ floor_shape p
  pub of_channels : c.callers 0 ≡ true
  pub no_channel_acts : channel_acts_of 0 c.seen ≡ []

-- the Jobs are those of the script, and main did nothing there yet
pub record IsOnItsJobs (p : Program) (j : Floor) : Type 0 where
  pub jobs : j.shape ≡ job_shape p
  pub of_jobs : j.callers 0 ≡ true
  pub no_job_acts : acts_of 0 j.seen ≡ []
  pub claims : (r : ℕ) → is_claimed_by 0 (j.claims r) ≡ is_among r (own_rows 0 [])

-- the Jobs of the spawned coroutines were attached, up to one that was refused, and the frame stands; no Job ended
pub record BegunTo (p : Program) (c c' : ChannelFloor) (j j' : Floor) (f g : Frame) : Type 0 where
  pub begun : Begun p j j' (frame_of f) (frame_of g)
  pub stands : Stands p c' j' g
  pub dones : KeepsDones (base_of p) (seen_at c j f) (seen_at c' j' g) (items_of g)

-- so it is beside any channels of the script
abbrev pub BeginAnswer : Program → Floor → Floor → Frame → Frame → Result (Unit {0}) Memory → Type 0
BeginAnswer p j j' f g (Ok done) = (c : ChannelFloor) → IsOnItsChannels p c → BegunTo p c c j j' f g
BeginAnswer p j j' f g (Err m) = (c : ChannelFloor) → CutShort (seen_at c j f) (seen_at c j' g)

-- main may attach an instance of this block to the root, which ended no body
pub record IsForSpawn (p : Program) (block : ℕ) (j : Floor) (f : Frame) : Type 0 where
  pub tag : f.tag ≡ 0
  pub jobs : j.shape ≡ job_shape p
  pub body : HasBody 0 0 j
  pub no_channel_acts : channel_acts_in (items_of f) ≡ []
  pub job_acts : acts_of 0 j.seen ≡ job_acts_in (items_of f)
  pub room : f.free + size_of p block ≤ coroutine_count p

-- the next tag was attached
pub record HasSpawned (p : Program) (block : ℕ) (old new : SeenOnJobs) (f g : Frame) : Type 0 where
  pub config : config_of g ≡ past_launch p block None (config_of f)
  pub now : Bool
  pub noted : ToldOnJobs (f.free ∷ []) old new (did (Attach 0 f.free (child_kind false) f.free now) ∷ [])

-- that was refused, and main fails
pub record IsRefusedSpawn (old new : SeenOnJobs) (f g : Frame) : Type 0 where
  pub config : config_of g ≡ at_stage (Unwinding (Some 0)) (config_of f)
  pub told : List Told
  pub goes : NotAttached 0 false told
  pub noted : ToldOnJobs [] old new told
  pub refused : RefusedByClaims (config_of g) (items_in told) new.floor

abbrev pub SpawnAnswer : Program → ℕ → SeenOnJobs → SeenOnJobs → Frame → Frame → Result Bool Memory → Type 0
SpawnAnswer p block old new f g (Ok true) = HasSpawned p block old new f g
SpawnAnswer p block old new f g (Ok false) = IsRefusedSpawn old new f g
SpawnAnswer p block old new f g (Err m) = (c : ChannelFloor) → CutShort (seen_at c old.floor f) (seen_at c new.floor g)
