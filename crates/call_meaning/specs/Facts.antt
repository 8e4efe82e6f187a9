-- What each note says of the moment at which it was made, and what else may be told of a moment.
use Rattle.std.specs.Prelude.{◌≡◌, ℕ, ◌==◌, ◌⊎◌, Bool, true, false, ◌||◌, [], Option, Some, None}
use Rattle.std.specs.List.{list_any}
use Rattle.channel_model.specs.declared.acts.Act.{Act}
use Rattle.channel_model.specs.declared.acts.Act.TheVariants.{Hand}
use Rattle.channel_model.specs.declared.acts.ChannelNote.{ChannelNote}
use Rattle.channel_model.specs.declared.acts.ChannelNote.TheVariants as heard
use Rattle.channel_model.specs.declared.standing.Resolution.{Resolution}
use Rattle.channel_model.specs.declared.standing.Resolution.TheVariants.{Withdrawn, Voided}
use Rattle.channel_model.specs.Channels.{Shape, State, Channel, Wait, kind_at, places_at, drops}
use Rattle.channel_model.specs.Answers.{IsSpentForOffers, IsSpentForReceives, IsFullToTry, IsEmptyToTry, IsFullAt, IsResolvedWait}
use Rattle.channel_model.specs.Owing.{owes_admission_below, owes_spurn_at, offers_up_to}
use Rattle.job_model.specs.declared.acts.End.{End}
use Rattle.job_model.specs.declared.acts.End.TheVariants as ends
use Rattle.job_model.specs.declared.acts.JobState.{JobState}
use Rattle.job_model.specs.declared.acts.JobState.TheVariants as states
use Rattle.job_model.specs.declared.acts.JobNote.{JobNote}
use Rattle.job_model.specs.declared.acts.JobNote.TheVariants as known
use Rattle.job_model.specs.Trees.{Job, Tree, is_active, is_ended, state_of, parent_of}
use Rattle.job_model.specs.Families.{IsEnded}
use Rattle.job_model.specs.Answers.{IsNotNew, IsNotDone}
use Rattle.job_model.specs.Cancels.{AreCancelsBelow, IsAllCancelled}
use Rattle.job_model.specs.Failures.{FailsUp}
use Rattle.note_book.specs.declared.book.Item.{Item}
use Rattle.note_book.specs.declared.book.Item.TheVariants as item
use Rattle.call_meaning.specs.Telling.{ChannelFact, JobFact, Told, note, on_channels, on_jobs, WasFull, SpentForOffers, SpentForReceives, ReceiverAt, OfferAt, NextIs, NoneToAdmit, FitsUpTo, StandsWithRoom, NoReceiver, IsVoided, NothingQueued, IsResolved, TakenBack, MayRun, NotNew, IsCancelling, HasEnded, PassedBelow, FailedUp, ParentIs, OwesNoEnd}

-- ---- notes of channels

abbrev pub IsClosedWith : ℕ → ℕ → State → Type 0
IsClosedWith c v s = (s.channels c).closed ≡ Some v

-- closed with v, and nothing is left to receive
pub record IsDrained (c v : ℕ) (s : State) : Type 0 where
  pub is_closed : IsClosedWith c v s
  pub nothing : (s.channels c).queue ≡ []

-- all places of an open channel are given out
pub record IsSpentNow (shape : Shape) (c : ℕ) (s : State) : Type 0 where
  pub is_open : (s.channels c).closed ≡ None
  pub spent : (s.channels c).next ≡ places_at shape c

abbrev pub stands_receiver : ℕ → Channel → Bool
stands_receiver q ch = list_any (λ r. r.place == q) ch.receivers

abbrev pub stands_offer : ℕ → Channel → Bool
stands_offer q ch = list_any (λ o. o.place == q) ch.queue

-- an element is handed while the channel is open; nothing is said of another act
abbrev pub ActHolds : Act → State → Type 0
ActHolds (Hand c q v) s = (s.channels c).closed ≡ None
ActHolds other s = Unit {0}

abbrev pub ChannelNoteHolds : Shape → ChannelNote → State → Type 0
ChannelNoteHolds shape (heard.Made act) s = ActHolds act s
ChannelNoteHolds shape (heard.SendClosed c value v) s = IsClosedWith c v s
ChannelNoteHolds shape (heard.TrySendClosed c value v) s = IsClosedWith c v s
ChannelNoteHolds shape (heard.ReceiveClosed c v) s = IsDrained c v s
ChannelNoteHolds shape (heard.TryReceiveClosed c v) s = IsDrained c v s
ChannelNoteHolds shape (heard.AlreadyClosed c v) s = IsClosedWith c v s
ChannelNoteHolds shape (heard.Full c value) s = IsFullToTry shape c s
ChannelNoteHolds shape (heard.Empty c) s = IsEmptyToTry c s
ChannelNoteHolds shape (heard.Spent c) s = IsSpentNow shape c s
ChannelNoteHolds shape (heard.Partner c q) s =
    (stands_receiver q (s.channels c) || stands_offer q (s.channels c)) ≡ true
ChannelNoteHolds shape (heard.MainResolved w) s = IsResolvedWait (s.waits w)
ChannelNoteHolds shape (heard.Late w) s = IsResolvedWait (s.waits w)

-- ---- notes of Jobs

abbrev pub end_by : JobState → Job → Option End
end_by states.New j = None
end_by states.Active j = None
end_by states.Completing j = None
end_by states.Cancelling j = None
end_by states.Cancelled j = Some (ends.Cancelled j.cause)
end_by states.Completed j = Some (ends.Completed j.value)

-- how a Job has ended, if it has
abbrev pub end_at : Option Job → Option End
end_at None = None
end_at (Some j) = end_by j.state j

abbrev pub JobNoteHolds : JobNote → Tree → Type 0
JobNoteHolds (known.Made act) tree = Unit {0}
JobNoteHolds (known.Saw row) tree = state_of (tree row) ≡ Some states.Cancelling
JobNoteHolds (known.SawEnd row end) tree = end_at (tree row) ≡ Some end
JobNoteHolds (known.Fail code) tree = Unit {0}
JobNoteHolds known.NoRow tree = Unit {0}
JobNoteHolds known.Used tree = Unit {0}
JobNoteHolds known.ParentEnded tree = Unit {0}

abbrev pub NoteHolds : Shape → Item → State → Tree → Type 0
NoteHolds shape (item.Channel n) s tree = ChannelNoteHolds shape n s
NoteHolds shape (item.Job n) s tree = JobNoteHolds n tree

-- ---- what else is told of the channels

abbrev pub is_withdrawn_or_voided : Option Resolution → Bool
is_withdrawn_or_voided None = false
is_withdrawn_or_voided (Some (Withdrawn why)) = true
is_withdrawn_or_voided (Some Voided) = true
is_withdrawn_or_voided (Some other) = false

abbrev pub IsWithdrawnOrVoided : Option Wait → Type 0
IsWithdrawnOrVoided None = ⊥
IsWithdrawnOrVoided (Some x) = is_withdrawn_or_voided x.resolved ≡ true

abbrev pub ChannelFactHolds : Shape → ChannelFact → State → Type 0
-- at least capacity offers stood
ChannelFactHolds shape (WasFull c) s = IsFullAt shape c s
-- all places of an open channel were given out, and nobody stood to hand to; or nothing stood to take
ChannelFactHolds shape (SpentForOffers c) s = IsSpentForOffers shape c s
ChannelFactHolds shape (SpentForReceives c) s = IsSpentForReceives shape c s
-- a receiver, or an offer, stood at this place
ChannelFactHolds shape (ReceiverAt c q) s = stands_receiver q (s.channels c) ≡ true
ChannelFactHolds shape (OfferAt c q) s = stands_offer q (s.channels c) ≡ true
-- the next place is the mark; no offer below the mark is held with fewer than capacity offers before it
ChannelFactHolds shape (NextIs c mark) s = (s.channels c).next ≡ mark
ChannelFactHolds shape (NoneToAdmit c mark) s = owes_admission_below (kind_at shape c) mark 0 (s.channels c).queue ≡ false
-- a kind that drops has at most capacity offers up to this place
ChannelFactHolds shape (FitsUpTo c q) s = drops (kind_at shape c) (offers_up_to q (s.channels c).queue) ≡ false
-- no offer stands at this place, or fewer than capacity offers before it, if the kind does not keep its latest
ChannelFactHolds shape (StandsWithRoom c q) s = owes_spurn_at (kind_at shape c) q 0 (s.channels c).queue ≡ false
ChannelFactHolds shape (NoReceiver c) s = (s.channels c).receivers ≡ []
ChannelFactHolds shape (IsVoided c) s = (s.channels c).voided ≡ true
ChannelFactHolds shape (NothingQueued c) s = (s.channels c).queue ≡ []
ChannelFactHolds shape (IsResolved w) s = IsResolvedWait (s.waits w)
-- the wait was withdrawn or voided
ChannelFactHolds shape (TakenBack w) s = IsWithdrawnOrVoided (s.waits w)

-- ---- what else is told of the Jobs

abbrev pub IsRunning : Option Job → Type 0
IsRunning None = ⊥
IsRunning (Some j) = is_active j.state ≡ true

-- it is attached and has not ended
abbrev pub IsAlive : Option Job → Type 0
IsAlive None = ⊥
IsAlive (Some j) = is_ended j.state ≡ false

abbrev pub JobFactHolds : JobFact → Tree → Type 0
-- attached, and neither New nor Cancelling nor ended
JobFactHolds (MayRun row) tree = IsRunning (tree row)
JobFactHolds (NotNew row) tree = IsNotNew (tree row)
JobFactHolds (IsCancelling row) tree = state_of (tree row) ≡ Some states.Cancelling
JobFactHolds (HasEnded row) tree = IsEnded (tree row)
-- these are Cancels with reason Parent of Jobs below the row, and it and all below it are Cancelling or ended
JobFactHolds (PassedBelow row acts) tree = AreCancelsBelow tree row acts × IsAllCancelled tree row
-- these acts took the failure of the row up: to each parent until one is a supervisor, or there is none, or it had
-- been cancelled
JobFactHolds (FailedUp row acts) tree = FailsUp tree row acts × IsAlive (tree row)
JobFactHolds (ParentIs row p) tree = parent_of (tree row) ≡ Some p
-- ended, or its body has not ended or a child of it lives
JobFactHolds (OwesNoEnd row) tree = IsEnded (tree row) ⊎ IsNotDone (tree row)

abbrev pub ToldHolds : Shape → Told → State → Tree → Type 0
ToldHolds shape (note i) s tree = NoteHolds shape i s tree
ToldHolds shape (on_channels fact) s tree = ChannelFactHolds shape fact s
ToldHolds shape (on_jobs fact) s tree = JobFactHolds fact tree
