-- How a run is left: nobody can go on, and nothing is owed.
use Rattle.std.specs.Prelude.{◌≡◌, ◌≢◌, ℕ, ◌<◌, true, List, [], Option, Some, None}
use Rattle.co_base.specs.declared.names.WaitId.{WaitId}
use Rattle.channel_model.specs.declared.acts.Entry.{Entry}
use Rattle.channel_model.specs.Channels.{State}
use Rattle.channel_model.specs.Answers.{IsUnsettledOf}
use Rattle.channel_model.specs.Needs.{IsOpenOf}
use Rattle.channel_model.specs.Histories.{replay}
use Rattle.channel_model.specs.Owing.{OwesNothing}
use Rattle.job_model.specs.declared.acts.End.{End}
use Rattle.job_model.specs.declared.acts.JobState.TheVariants.{New, Cancelling}
use Rattle.job_model.specs.declared.acts.JobEntry.{JobEntry}
use Rattle.job_model.specs.Acts.{ends_body}
use Rattle.job_model.specs.Trees.{Job, state_of}
use Rattle.job_model.specs.Laws.{has}
use Rattle.job_model.specs.Histories.{replay as replay_jobs}
use Rattle.note_book.specs.declared.book.Item.{Item}
use Rattle.call_meaning.specs.Facts.{end_at}
use Rattle.script_grammar.specs.Programs.{Program}
use Rattle.script_grammar.specs.Tags.{coroutine_count}
use Rattle.script_meaning.specs.declared.stage.Stage.{Stage}
use Rattle.script_meaning.specs.declared.stage.Stage.TheVariants.{Fresh, Running, Waiting, SeesJob, Unwinding, Leaving, SeesScope, Ended}
use Rattle.script_meaning.specs.Shapes.{floor_shape}
use Rattle.script_meaning.specs.Configs.{Config, innermost}
use Rattle.script_meaning.specs.Books.{book_at, BooksOf}
use Rattle.script_meaning.specs.Rest.{AtRest}

-- ---- waits

-- the wait is k's, nobody resolved it, and no other wait of k's is unsettled
pub record WaitsAlone (k : ℕ) (w : WaitId) (s : State) : Type 0 where
  pub open_now : IsOpenOf k (s.waits w)
  pub only : (v : WaitId) → IsUnsettledOf k (s.waits v) → v ≡ w

-- each wait of k's is settled
abbrev pub HasNoWait : ℕ → State → Type 0
HasNoWait k s = (v : WaitId) → IsUnsettledOf k (s.waits v) → ⊥

-- ---- coroutines

-- not attached, or New
abbrev pub IsNotStarted : Option Job → Type 0
IsNotStarted None = Unit {0}
IsNotStarted (Some j) = j.state ≡ New

-- how a coroutine is left that is here: not attached or New, with an empty book; or with one unsettled wait, which is
-- open, at a scope's end, or else while its innermost Job is not Cancelling; or its body has ended
abbrev pub IsLeft : ℕ → Config → List Item → State → List JobEntry → Stage → Type 0
IsLeft k x book s jobs Fresh = IsNotStarted (replay_jobs jobs k) × (book ≡ [])
IsLeft k x book s jobs Running = ⊥
IsLeft k x book s jobs (Waiting w) = WaitsAlone k w s × (state_of (replay_jobs jobs (innermost k x)) ≢ Some Cancelling)
IsLeft k x book s jobs SeesJob = ⊥
IsLeft k x book s jobs (Unwinding failure) = ⊥
IsLeft k x book s jobs (Leaving w) = WaitsAlone k w s
IsLeft k x book s jobs SeesScope = ⊥
IsLeft k x book s jobs Ended = (has ends_body k jobs ≡ true) × HasNoWait k s

-- ---- the run

-- the run of these books came to rest; the root has ended so, if it has
pub record IsIdle (p : Program) (books : List (List Item)) (channels : List Entry) (jobs : List JobEntry)
    (of : BooksOf p books channels jobs) (root : Option End) : Type 0 where
  pub left : (k : ℕ) → k < coroutine_count p
      → IsLeft k (of.ends_at k) (book_at k books) (replay channels) jobs (of.ends_at k).stage
  -- follows from `of`: the law `nothing_is_owed_at_the_end` of `script_laws`
  pub nothing_owed : OwesNothing (floor_shape p) (replay channels)
  -- follows from `of`: the law `a_run_is_at_rest` of `script_laws`
  pub rest : AtRest (replay_jobs jobs)
  pub ended : end_at (replay_jobs jobs 0) ≡ root
