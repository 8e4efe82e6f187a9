-- What each call comes to: what it told, and that this is noted and was so.
use Rattle.std.specs.Prelude.{◌≡◌, ℕ, ◌+◌, ◌<◌, ◌≤◌, Bool, true, false, List, []}
use Rattle.std.specs.Prelude.{◌∷◌, ◌++◌, length, map, Option, Some, None, Result, Ok, Err, is_some, slice_get}
use Rattle.co_base.specs.declared.names.Memory.{Memory}
use Rattle.channel_model.specs.declared.acts.Kind.TheVariants.{Signal}
use Rattle.channel_model.specs.Floors.{Floor as ChannelFloor}
use Rattle.job_model.specs.declared.acts.JobAct.{JobAct}
use Rattle.job_model.specs.declared.acts.JobAct.TheVariants.{Attach, Start, EndBody}
use Rattle.job_model.specs.declared.acts.JobNote.TheVariants.{NoRow, Used, ParentEnded}
use Rattle.job_model.specs.declared.acts.End.{End}
use Rattle.job_model.specs.declared.acts.Reason.TheVariants as reasons
use Rattle.job_model.specs.declared.floor.Attached.{Attached}
use Rattle.job_model.specs.declared.floor.Ended.{Ended}
use Rattle.job_model.specs.Trees.{Tree, is_childless}
use Rattle.job_model.specs.Done.{done_channel}
use Rattle.job_model.specs.Answers.{is_owed}
use Rattle.job_model.specs.Needs.{MayEndBody}
use Rattle.job_model.specs.Cancels.{IsAllCancelled, own_cancel, AreCancelsBelow}
use Rattle.job_model.specs.Floors.{Floor, AtStep, AtEntry}
use Rattle.note_book.specs.declared.book.Item.{Item}
use Rattle.note_book.specs.Items.{channel_acts_in, job_acts_in}
use Rattle.call_meaning.specs.Telling.{Told, on_jobs, MayRun, NotNew, IsCancelling, HasEnded, items_in, did, knew, saw, saw_end}
use Rattle.call_meaning.specs.Facts.{IsAlive}
use Rattle.call_meaning.specs.ChannelCalls.{Answer, Closed, Waits, NoPlace, receives, PlainCall}
use Rattle.call_meaning.specs.JobCalls.{child_kind, scope_kind, reason_for, Starts, Passes, Breaks, EndsBody, BreaksOff}
use Rattle.call_meaning.specs.Prefixes.{PrefixOf}
use Rattle.call_meaning.specs.Seen.{SeenOnJobs, SeenOnBoth, seen_jobs, seen_both, channels_of, jobs_of, tree_in}
use Rattle.call_meaning.specs.Calls.{ToldOnJobs, ToldOnBoth}
use Rattle.channel_calls.specs.Calls.{IsLeftWaiting}
use Rattle.job_tree.specs.Failures.{BeginsToFailUp}
use Rattle.scope_builders.specs.declared.builder.Builder.{Builder}
use Rattle.scope_builders.specs.declared.builder.Joined.{Joined}
use Rattle.scope_builders.specs.declared.builder.Joined.TheVariants as joined
use Rattle.scope_builders.specs.declared.builder.LaunchError.{LaunchError}
use Rattle.scope_builders.specs.declared.builder.LaunchError.TheVariants as launch
use Rattle.scope_builders.specs.Dones.{KeepsDones}

-- the caller still holds the same floors, book and wakes, and is the same coroutine
pub record SameBuilder {C J B W A D : Type 0} (channels_anchor : C → A) (jobs_anchor : J → D) (old new : Builder C J B W) : Type 0 where
  pub channels : new.channels.ghost_name ≡ old.channels.ghost_name
  pub jobs : new.jobs.ghost_name ≡ old.jobs.ghost_name
  pub book : new.book.ghost_name ≡ old.book.ghost_name
  pub wakes : new.wakes.ghost_name ≡ old.wakes.ghost_name
  pub who : new.who ≡ old.who
  pub base : new.base ≡ old.base
  pub of_channels : channels_anchor new.channels.now ≡ channels_anchor old.channels.now
  pub of_jobs : jobs_anchor new.jobs.now ≡ jobs_anchor old.jobs.now

-- what a caller sees of both floors and of its book
abbrev pub seen : {C J B W : Type 0} → (C → ChannelFloor) → (J → Floor) → (B → List Item) → Builder C J B W → SeenOnBoth
seen channels_view jobs_view items b = seen_both channels_view jobs_view items b.who b.channels.now b.jobs.now b.book.now

-- of the Jobs alone
abbrev pub seen_on_jobs : {C J B W : Type 0} → (J → Floor) → (B → List Item) → Builder C J B W → SeenOnJobs
seen_on_jobs view items b = seen_jobs view items b.who b.jobs.now b.book.now

-- the row was seen attached
abbrev pub IsAttached : ℕ → SeenOnJobs → Type 0
IsAttached row seen = is_some (tree_in seen row) ≡ true

-- the tag may call both floors, and each row has its done channel, a signal of one place, those of all rows one after the other from the
-- base; a channel's number is below 65,536
pub record MayBuild (base : ℕ) (seen : SeenOnBoth) : Type 0 where
  pub of_channels : seen.channels.callers seen.who ≡ true
  pub of_jobs : seen.jobs.callers seen.who ≡ true
  pub done : base + seen.jobs.shape.rows ≤ length seen.channels.shape
  pub signals : (r : ℕ) → r < seen.jobs.shape.rows → slice_get seen.channels.shape (done_channel base r) ≡ Some (Signal, 1)
  pub few : length seen.channels.shape ≤ 65536

-- ---- launch

-- the Attach, and that its row was claimed; or why there is none: the coroutine's row was seen claimed, or the parent had ended. That
-- of a coroutine is not one of the rows for scopes
abbrev pub LaunchAnswer : ℕ → ℕ → Bool → SeenOnJobs → SeenOnJobs → Result Attached LaunchError → Type 0
LaunchAnswer parent tag lazy old new (Ok a) =
    (a.row ≡ tag) × ToldOnJobs (tag ∷ []) old new (did (Attach parent tag (child_kind lazy) tag a.cancelled) ∷ [])
LaunchAnswer parent tag lazy old new (Err launch.NoRow) = ⊥
LaunchAnswer parent tag lazy old new (Err launch.Used) =
    (is_some (new.floor.claims tag) ≡ true) × ToldOnJobs [] old new (knew Used ∷ [])
LaunchAnswer parent tag lazy old new (Err launch.ParentEnded) =
    ToldOnJobs (tag ∷ []) old new (on_jobs (HasEnded parent) ∷ knew ParentEnded ∷ [])
LaunchAnswer parent tag lazy old new (Err launch.Memory) = ToldOnJobs [] old new []

-- ---- enter

-- the row is one of those for scopes
pub record IsScopeRow (jobs : Floor) (row : ℕ) : Type 0 where
  pub behind : jobs.shape.coroutines ≤ row
  pub within : row < jobs.shape.rows

-- each row for scopes was seen claimed
abbrev pub NoneLeft : Floor → Type 0
NoneLeft jobs = (r : ℕ) → IsScopeRow jobs r → is_some (jobs.claims r) ≡ true

-- the Attach of a scope, whose row was claimed; its body is the caller's, and may end
pub record Entered (parent : ℕ) (supervisor : Bool) (old new : SeenOnJobs) (scope : Attached) : Type 0 where
  pub of_scopes : IsScopeRow old.floor scope.row
  pub noted : ToldOnJobs (scope.row ∷ []) old new
      (did (Attach parent scope.row (scope_kind supervisor) old.who scope.cancelled) ∷ [])
  pub own : MayEndBody old.who (tree_in new scope.row)

-- a row for scopes was claimed, and the parent had ended
pub record EnteredNone (parent : ℕ) (old new : SeenOnJobs) : Type 0 where
  pub row : ℕ
  pub of_scopes : IsScopeRow old.floor row
  pub noted : ToldOnJobs (row ∷ []) old new (on_jobs (HasEnded parent) ∷ knew ParentEnded ∷ [])

abbrev pub EnterAnswer : ℕ → Bool → SeenOnJobs → SeenOnJobs → Result Attached LaunchError → Type 0
EnterAnswer parent supervisor old new (Ok scope) = Entered parent supervisor old new scope
EnterAnswer parent supervisor old new (Err launch.NoRow) = NoneLeft new.floor × ToldOnJobs [] old new (knew NoRow ∷ [])
EnterAnswer parent supervisor old new (Err launch.Used) = ⊥
EnterAnswer parent supervisor old new (Err launch.ParentEnded) = EnteredNone parent old new
EnterAnswer parent supervisor old new (Err launch.Memory) = ToldOnJobs [] old new []

-- ---- start and cancel

-- the Start, if the Job was New; then it is not New
abbrev pub start_told : Bool → ℕ → List Told
start_told true row = did (Start row) ∷ on_jobs (NotNew row) ∷ []
start_told false row = on_jobs (NotNew row) ∷ []

abbrev pub StartedAnswer : ℕ → SeenOnJobs → SeenOnJobs → Result Bool Memory → Type 0
StartedAnswer row old new (Ok now) = ToldOnJobs [] old new (start_told now row)
StartedAnswer row old new (Err m) = ToldOnJobs [] old new []

-- a pass on request, of so many Jobs; in the end the Job and all below it are Cancelling or ended
pub record CancelledAll (row : ℕ) (old new : SeenOnJobs) (count : ℕ) : Type 0 where
  pub newly : Bool
  pub told : List Told
  pub group : Passes row reasons.Request newly told
  pub noted : ToldOnJobs [] old new told
  pub counted : count ≡ length (items_in told)
  pub all : IsAllCancelled (tree_in new) row

-- a part of such a pass: the Job was cancelled, or was not by this call, and some Jobs below it were
pub record CancelledSome (row : ℕ) (old new : SeenOnJobs) : Type 0 where
  pub newly : Bool
  pub below : List JobAct
  pub noted : ToldOnJobs [] old new (map did (own_cancel newly row reasons.Request ++ below))
  pub cancels : AreCancelsBelow (tree_in new) row below

abbrev pub CancelledAllAnswer : ℕ → SeenOnJobs → SeenOnJobs → Result ℕ Memory → Type 0
CancelledAllAnswer row old new (Ok count) = CancelledAll row old new count
CancelledAllAnswer row old new (Err m) = CancelledSome row old new

-- ---- the ends of bodies

-- this was told so
pub record TellsBoth (base : ℕ) (P : List Told → Type 0) (old new : SeenOnBoth) : Type 0 where
  pub told : List Told
  pub goes : P told
  pub noted : ToldOnBoth [] old new told
  pub dones : KeepsDones base old new (items_in told)

-- the body ended, and then what its end brought about; the answer is Owes exactly if no child lived at the end of the body
pub record EndedJob (base row value : ℕ) (old new : SeenOnBoth) (answer : Ended) : Type 0 where
  pub told : List Told
  pub group : EndsBody base row value told
  pub noted : ToldOnBoth [] old new told
  pub owes : AtEntry old.who [] (EndBody row value) old.jobs new.jobs (λ tree. is_childless (tree row) ≡ is_owed answer)
  pub dones : KeepsDones base old new (items_in told)

abbrev pub EndedAnswer : ℕ → ℕ → ℕ → SeenOnBoth → SeenOnBoth → Result Ended Memory → Type 0
EndedAnswer base row value old new (Ok answer) = EndedJob base row value old new answer
EndedAnswer base row value old new (Err m) = TellsBoth base (PrefixOf (EndsBody base row value)) old new

-- the cancellations of a body of k that breaks off were begun
pub data BeginsToBreak (k row : ℕ) (tree : Tree) : Option ℕ → List Told → Type 0 where
  -- its Job was cancelled, or not by this call, and some of those below it
  in_pass : (failure : Option ℕ) (newly : Bool) (below : List JobAct) → AreCancelsBelow tree row below
      → BeginsToBreak k row tree failure (map did (own_cancel newly row (reason_for failure) ++ below))
  -- the coroutine's own Job was cancelled by its failure, with all below it, and the failure began to go up
  going_up : (f : ℕ) (pass : List Told) (up : List JobAct) → row ≡ k → Passes row (reasons.Own f) true pass
      → BeginsToFailUp tree row up → BeginsToBreak k row tree (Some f) (pass ++ map did up)

-- a body of k began to break off: its Job was about to be cancelled, or was Cancelling, and the body ended with a part of what that
-- brought about
pub data BeginsToBreakOff (base k row : ℕ) (failure : Option ℕ) (tree : Tree) : List Told → Type 0 where
  cancels : (told : List Told) → BeginsToBreak k row tree failure told → BeginsToBreakOff base k row failure tree told
  ends : (told end : List Told) → Breaks k row failure told → PrefixOf (EndsBody base row 0) end
      → BeginsToBreakOff base k row failure tree (told ++ on_jobs (IsCancelling row) ∷ end)

-- the body broke off: its Job was cancelled, or seen Cancelling, and the body ended
pub record BrokeJob (base row : ℕ) (failure : Option ℕ) (old new : SeenOnBoth) (answer : Ended) : Type 0 where
  pub told : List Told
  pub group : BreaksOff base old.who row failure told
  pub noted : ToldOnBoth [] old new told
  pub owes : AtEntry old.who (job_acts_in (items_in group.cancels)) (EndBody row 0) old.jobs new.jobs
      (λ tree. is_childless (tree row) ≡ is_owed answer)
  pub dones : KeepsDones base old new (items_in told)

abbrev pub BrokenAnswer : ℕ → ℕ → Option ℕ → SeenOnBoth → SeenOnBoth → Result Ended Memory → Type 0
BrokenAnswer base row failure old new (Ok answer) = BrokeJob base row failure old new answer
BrokenAnswer base row failure old new (Err m) =
    TellsBoth base (BeginsToBreakOff base old.who row failure (tree_in (jobs_of new))) old new

-- ---- join, await and the end of a scope

-- the done channel of the row is received from
abbrev pub ReceivesDone : ℕ → ℕ → Answer → List Told → Type 0
ReceivesDone base row a told = PlainCall (receives (done_channel base row)) told a

-- the Job is started, if it is New, and then its done channel is received from
pub record AwaitsEnd (base row : ℕ) (a : Answer) (told : List Told) : Type 0 where
  pub starts : List Told
  pub group : List Told
  pub is_started : Starts row starts
  pub received : ReceivesDone base row a group
  pub all : told ≡ starts ++ group

-- the caller's own Job may run, and then the same
pub record JoinsJob (base own row : ℕ) (a : Answer) (told : List Told) : Type 0 where
  pub group : List Told
  pub awaits : AwaitsEnd base row a group
  pub all : told ≡ on_jobs (MayRun own) ∷ group

-- nothing is told before such a receive; or what starts the Job; or also that the caller's own Job may run
abbrev pub IsNothing : List Told → Type 0
IsNothing told = told ≡ []

abbrev pub JoinStarts : ℕ → ℕ → List Told → Type 0
JoinStarts own row told = (starts : List Told) × Starts row starts × (told ≡ on_jobs (MayRun own) ∷ starts)

-- what such a receive told, by its answer; an element is never received. Without memory no wait was placed: a beginning of what comes
-- before the receive was told
abbrev pub DoneAnswer : ℕ → (Answer → List Told → Type 0) → (List Told → Type 0) → SeenOnBoth → SeenOnBoth → Result Joined Memory → Type 0
DoneAnswer base P before old new (Ok (joined.Closed v)) = TellsBoth base (P (Closed v)) old new
DoneAnswer base P before old new (Ok (joined.Waits w)) =
    (t : TellsBoth base (P (Waits w)) old new)
    × IsLeftWaiting w (channel_acts_in (items_in t.told)) (channels_of old) (channels_of new)
DoneAnswer base P before old new (Ok joined.Cancelled) = ⊥
DoneAnswer base P before old new (Ok joined.Spent) = TellsBoth base (P NoPlace) old new
DoneAnswer base P before old new (Err m) = TellsBoth base (PrefixOf before) old new

-- a join, whose caller's own Job may be seen Cancelling
abbrev pub JoinAnswer : ℕ → ℕ → ℕ → SeenOnBoth → SeenOnBoth → Result Joined Memory → Type 0
JoinAnswer base own row old new (Ok joined.Cancelled) = TellsBoth base (λ told. told ≡ saw own ∷ []) old new
JoinAnswer base own row old new other = DoneAnswer base (JoinsJob base own row) (JoinStarts own row) old new other

-- how the Job ended, or that it had not
abbrev pub SeenEndAnswer : ℕ → SeenOnJobs → SeenOnJobs → Result (Option End) Memory → Type 0
SeenEndAnswer row old new (Ok (Some end)) = ToldOnJobs [] old new (saw_end row end ∷ [])
SeenEndAnswer row old new (Ok None) = ToldOnJobs [] old new [] × AtStep old.floor new.floor (λ tree. IsAlive (tree row))
SeenEndAnswer row old new (Err m) = ToldOnJobs [] old new []
