-- What is said of a note, and of the next line of a history.
use Rattle.std.specs.Prelude.{◌≡◌, ℕ, ◌==◌, ◌&&◌, Bool, true, false, List, [], ◌∷◌, ◌++◌, Option, Some, None, is_none}
use Rattle.channel_model.specs.declared.acts.Act.{Act}
use Rattle.channel_model.specs.declared.acts.Act.TheVariants.{Hand}
use Rattle.channel_model.specs.declared.acts.ChannelNote.{ChannelNote}
use Rattle.channel_model.specs.declared.acts.Entry.{Entry}
use Rattle.channel_model.specs.declared.acts.Kind.{Kind}
use Rattle.channel_model.specs.Channels.{is_full, suspends}
use Rattle.channel_model.specs.Floors.{Floor}
use Rattle.channel_model.specs.Histories.{Legal, replay}
use Rattle.call_meaning.specs.Facts.{ChannelNoteHolds, JobNoteHolds}
use Rattle.one_thread_floor.specs.declared.list_snapshot.Snapshot.{Snapshot}
use Rattle.job_model.specs.declared.acts.End.{End}
use Rattle.job_model.specs.declared.acts.End.TheVariants as ends
use Rattle.job_model.specs.declared.acts.JobAct.{JobAct}
use Rattle.job_model.specs.declared.acts.JobNote.{JobNote}
use Rattle.job_model.specs.declared.acts.JobNote.TheVariants as of_job
use Rattle.job_model.specs.declared.acts.JobState.{JobState}
use Rattle.job_model.specs.declared.acts.JobState.TheVariants as states
use Rattle.job_model.specs.Effects.{after}
use Rattle.job_model.specs.Steps.{may_make}
use Rattle.job_model.specs.Trees.{Tree, is_cancelling}
use Rattle.job_replay.specs.declared.calls.JobLook.{JobLook}
use Rattle.job_replay.specs.declared.replay.JobReplay.{JobReplay}
use Rattle.job_replay.specs.Replays.{IsTree}
use Rattle.job_replay.specs.Sizes.{shape_of as job_shape}
use Rattle.note_book.specs.declared.book.Item.{Item}
use Rattle.note_book.specs.declared.book.Item.TheVariants as item
use Rattle.history_text.specs.declared.line.Line.{Line}
use Rattle.history_check.specs.declared.verdict.Step.{Step}
use Rattle.history_check.specs.declared.verdict.Step.TheVariants as step
use Rattle.history_check.specs.Histories.{entry_by}

-- ---- notes, by a snapshot of their channel

-- there is a value, and it is v
abbrev pub is_value : ℕ → Option ℕ → Bool
is_value v None = false
is_value v (Some x) = x == v

-- closed with v
abbrev pub shows_closed : ℕ → Snapshot → Bool
shows_closed v shown = is_value v shown.closed

-- closed with v, and nothing is left to receive
abbrev pub shows_drained : ℕ → Snapshot → Bool
shows_drained v shown = is_value v shown.closed && (shown.queued == 0)

-- open, and nothing is there to receive
abbrev pub shows_empty : Snapshot → Bool
shows_empty shown = is_none shown.closed && (shown.queued == 0)

-- open, and a send would wait
abbrev pub shows_full : Kind → Snapshot → Bool
shows_full kind shown = suspends kind && (is_none shown.closed && (is_none shown.first_receiver && is_full kind shown.queued))

-- open, and all places are given out
abbrev pub shows_spent : ℕ → Snapshot → Bool
shows_spent places shown = is_none shown.closed && (shown.next == places)

-- the channel at which an act hands an element
abbrev pub handed_at : Act → Option ℕ
handed_at (Hand c p v) = Some c
handed_at other = None

-- what is there, as a list
abbrev pub listed : Option Act → List Act
listed None = []
listed (Some act) = act ∷ []

-- ---- channels

-- this is so if the line was good
abbrev pub IfGood : Step → Type 0 → Type 0
IfGood step.Good P = P
IfGood other P = Unit {0}

-- the floor has this history more, and is else as it was
pub record Grows (entries : List Entry) (old new : Floor) : Type 0 where
  pub shape : new.shape ≡ old.shape
  pub seen : new.seen ≡ old.seen ++ entries

-- no legal history has these entries as its next
abbrev pub NoneHas : List Entry → Floor → Type 0
NoneHas entries floor = (more : List Entry) → Legal floor.shape ((floor.seen ++ entries) ++ more) → ⊥

-- what became of an act, of which it is said whether what it says holds
abbrev pub IsMade : Step → Bool → ℕ → Act → Floor → Floor → Type 0
IsMade step.Good so who act old new = (so ≡ true) × Grows (record { who = who; act = act } ∷ []) old new
IsMade step.MayNotCome so who act old new = NoneHas (record { who = who; act = act } ∷ []) old
IsMade step.NotSo so who act old new = so ≡ false

-- what became of what who noted of a channel
abbrev pub IsChannelStep : Step → ℕ → ChannelNote → Floor → Floor → Type 0
IsChannelStep step.Good who note old new =
    ChannelNoteHolds old.shape note (replay old.seen) × Grows (entry_by who (item.Channel note)) old new
IsChannelStep step.MayNotCome who note old new = NoneHas (entry_by who (item.Channel note)) old
IsChannelStep step.NotSo who note old new = ChannelNoteHolds old.shape note (replay old.seen) → ⊥

-- ---- Jobs

-- a Job that is seen so is Cancelling
abbrev pub shows_cancelling : Option JobLook → Bool
shows_cancelling None = false
shows_cancelling (Some look) = is_cancelling look.state

abbrev pub end_shown_by : JobState → JobLook → Option End
end_shown_by states.New look = None
end_shown_by states.Active look = None
end_shown_by states.Completing look = None
end_shown_by states.Cancelling look = None
end_shown_by states.Cancelled look = Some (ends.Cancelled look.cause)
end_shown_by states.Completed look = Some (ends.Completed look.value)

-- how a Job that is seen so has ended, if it has
abbrev pub end_shown : Option JobLook → Option End
end_shown None = None
end_shown (Some look) = end_shown_by look.state look

-- what is there, as a list
abbrev pub listed_job : Option JobAct → List JobAct
listed_job None = []
listed_job (Some act) = act ∷ []

-- what became of an act on a Job that who makes of this tree
abbrev pub IsJobMade : Step → ℕ → JobAct → Tree → JobReplay → JobReplay → Type 0
IsJobMade step.Good who act tree old new = (may_make (job_shape old.size) tree who act ≡ true) × IsTree (after tree who act) new
IsJobMade step.MayNotCome who act tree old new = may_make (job_shape old.size) tree who act ≡ false
IsJobMade step.NotSo who act tree old new = ⊥

-- what became of a note that is no act
abbrev pub IsJobTold : Step → JobNote → Tree → JobReplay → JobReplay → Type 0
IsJobTold step.Good note tree old new = JobNoteHolds note tree × (new ≡ old)
IsJobTold step.MayNotCome note tree old new = ⊥
IsJobTold step.NotSo note tree old new = JobNoteHolds note tree → ⊥

-- what became of what who noted of a Job
abbrev pub IsJobNoted : Step → ℕ → JobNote → Tree → JobReplay → JobReplay → Type 0
IsJobNoted step who (of_job.Made act) tree old new = IsJobMade step who act tree old new
IsJobNoted step who other tree old new = IsJobTold step other tree old new

-- the same, whatever tree it is
abbrev pub IsJobStep : Step → ℕ → JobNote → JobReplay → JobReplay → Type 0
IsJobStep step who note old new = (tree : Tree) → IsTree tree old → IsJobNoted step who note tree old new

-- ---- the next line

-- what became of the next line: the Jobs are as they were if it is of a channel, and the channels if it is of a Job
abbrev pub IsItemStep : Step → ℕ → Item → Floor → Floor → JobReplay → JobReplay → Type 0
IsItemStep step who (item.Channel note) old new tree tree' = IsChannelStep step who note old new × (tree' ≡ tree)
IsItemStep step who (item.Job note) old new tree tree' = (new ≡ old) × (tree'.size ≡ tree.size) × IsJobStep step who note tree tree'

abbrev pub IsStep : Step → Line → Floor → Floor → JobReplay → JobReplay → Type 0
IsStep step line old new tree tree' = IsItemStep step line.who line.item old new tree tree'
