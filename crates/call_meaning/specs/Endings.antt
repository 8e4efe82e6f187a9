-- Right after a Job has ended its done channel is closed.
use Rattle.std.specs.Prelude.{◌≡◌, ℕ, List, [], ◌∷◌, Option, Some, None}
use Rattle.channel_model.specs.declared.acts.Act.TheVariants.{Close}
use Rattle.channel_model.specs.declared.acts.ChannelNote.TheVariants as of_channel
use Rattle.job_model.specs.declared.acts.End.{End}
use Rattle.job_model.specs.declared.acts.JobAct.{JobAct}
use Rattle.job_model.specs.declared.acts.JobAct.TheVariants.{Finish}
use Rattle.job_model.specs.declared.acts.JobNote.{JobNote}
use Rattle.job_model.specs.declared.acts.JobNote.TheVariants as of_job
use Rattle.job_model.specs.Done.{done_channel}
use Rattle.note_book.specs.declared.book.Item.{Item}
use Rattle.note_book.specs.declared.book.Item.TheVariants as item
use Rattle.call_meaning.specs.JobCalls.{value_of}

-- the row and the end of a Finish
abbrev pub finish_in : JobAct → Option (ℕ × End)
finish_in (Finish r end) = Some (r, end)
finish_in other = None

abbrev pub finish_in_note : JobNote → Option (ℕ × End)
finish_in_note (of_job.Made act) = finish_in act
finish_in_note other = None

abbrev pub finish_of : Item → Option (ℕ × End)
finish_of (item.Channel note) = None
finish_of (item.Job note) = finish_in_note note

-- the first of these items is the Close of this Job's done channel, with its result or 0; base is the first done channel
abbrev pub IsClosedNext : ℕ → Option (ℕ × End) → List Item → Type 0
IsClosedNext base None items = Unit {0}
IsClosedNext base (Some x) [] = ⊥
IsClosedNext base (Some x) (i ∷ items) = i ≡ item.Channel (of_channel.Made (Close (done_channel base x.0) (value_of x.1)))

-- right after each Finish comes the Close of the Job's done channel
abbrev pub ClosesAtOnce : ℕ → List Item → Type 0
ClosesAtOnce base [] = Unit {0}
ClosesAtOnce base (i ∷ items) = IsClosedNext base (finish_of i) items × ClosesAtOnce base items
