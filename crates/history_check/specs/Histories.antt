-- Which lists of lines are a history that the rules allow.
use Rattle.std.specs.Prelude.{ℕ, List, [], ◌∷◌, ◌++◌, map}
use Rattle.channel_model.specs.declared.acts.Entry.{Entry}
use Rattle.channel_model.specs.Channels.{Shape}
use Rattle.channel_model.specs.Histories.{Legal, replay}
use Rattle.job_model.specs.declared.acts.JobEntry.{JobEntry}
use Rattle.job_model.specs.Histories as of_jobs
use Rattle.job_model.specs.Trees as trees
use Rattle.note_book.specs.declared.book.Item.{Item}
use Rattle.note_book.specs.declared.book.Item.TheVariants as item
use Rattle.note_book.specs.Items.{channel_act, job_act}
use Rattle.call_meaning.specs.Facts.{NoteHolds}
use Rattle.history_text.specs.declared.line.Line.{Line}

-- the entry on a channel that an item of who is, if it is one
abbrev pub entry_by : ℕ → Item → List Entry
entry_by who (item.Channel note) = map (λ act. record { who = who; act = act }) (channel_act note)
entry_by who (item.Job note) = []

-- the entry on a Job that an item of who is, if it is one
abbrev pub job_entry_by : ℕ → Item → List JobEntry
job_entry_by who (item.Channel note) = []
job_entry_by who (item.Job note) = map (λ act. record { who = who; act = act }) (job_act note)

-- the same of a line
abbrev pub entry_of : Line → List Entry
entry_of line = entry_by line.who line.item

abbrev pub job_entry_of : Line → List JobEntry
job_entry_of line = job_entry_by line.who line.item

-- the entries of the acts on channels, in their order
unfoldable pub entries_of : List Line → List Entry
entries_of [] = []
entries_of (line ∷ lines) = entry_of line ++ entries_of lines

-- the entries of the acts on Jobs, in their order
unfoldable pub job_entries_of : List Line → List JobEntry
job_entries_of [] = []
job_entries_of (line ∷ lines) = job_entry_of line ++ job_entries_of lines

-- what a line says holds behind these
abbrev pub IsSo : Shape → List Line → Line → Type 0
IsSo shape before line = NoteHolds shape line.item (replay (entries_of before)) (of_jobs.replay (job_entries_of before))

-- each of these lines says what holds at its moment, behind those before them
unfoldable pub AreSo : Shape → List Line → List Line → Type 0
AreSo shape before [] = Unit {0}
AreSo shape before (line ∷ lines) = IsSo shape before line × AreSo shape (before ++ line ∷ []) lines

-- each act on a channel and on a Job may come where it comes, and each line says what holds at its moment, as in the report of a run
pub record IsAllowed (shape : Shape) (jobs : trees.Shape) (lines : List Line) : Type 0 where
  pub legal : Legal shape (entries_of lines)
  pub legal_jobs : of_jobs.Legal jobs (job_entries_of lines)
  pub so : AreSo shape [] lines
