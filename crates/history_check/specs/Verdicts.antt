-- What each verdict says of a history.
use Rattle.std.specs.Prelude.{◌≡◌, ℕ, ◌+◌, List, ◌∷◌, ◌++◌, length}
use Rattle.channel_model.specs.declared.acts.Entry.{Entry}
use Rattle.channel_model.specs.Channels.{Shape}
use Rattle.channel_model.specs.Histories.{Legal}
use Rattle.job_model.specs.declared.acts.JobEntry.{JobEntry}
use Rattle.job_model.specs.Histories as of_jobs
use Rattle.job_model.specs.Trees as trees
use Rattle.note_book.specs.declared.book.Item.{Item}
use Rattle.note_book.specs.declared.book.Item.TheVariants as item
use Rattle.history_text.specs.declared.line.Line.{Line}
use Rattle.history_check.specs.declared.verdict.Verdict.{Verdict}
use Rattle.history_check.specs.declared.verdict.Verdict.TheVariants as verdict
use Rattle.history_check.specs.Histories.{IsAllowed, IsSo, entries_of, entry_by, job_entries_of, job_entry_by}

-- the line of this number, from 1, is at fault: those before it are allowed, and no history that begins as far as with it is
pub record StopsAt (number : ℕ) (why : List Line → Line → Type 0) (shape : Shape) (jobs : trees.Shape) (lines : List Line) : Type 0 where
  pub before : List Line
  pub line : Line
  pub rest : List Line
  pub split : lines ≡ before ++ line ∷ rest
  pub numbered : length before + 1 ≡ number
  pub allowed : IsAllowed shape jobs before
  pub fault : why before line
  pub none : (more : List Line) → IsAllowed shape jobs (before ++ line ∷ more) → ⊥

-- of the channels, or of the Jobs: no legal history has these entries, and then that of the item
abbrev pub MayNotComeBy : Shape → trees.Shape → List Line → ℕ → Item → Type 0
MayNotComeBy shape jobs before who (item.Channel note) =
    (more : List Entry) → Legal shape ((entries_of before ++ entry_by who (item.Channel note)) ++ more) → ⊥
MayNotComeBy shape jobs before who (item.Job note) =
    (more : List JobEntry) → of_jobs.Legal jobs ((job_entries_of before ++ job_entry_by who (item.Job note)) ++ more) → ⊥

-- the act of the line may not come behind these lines
abbrev pub MayNotCome : Shape → trees.Shape → List Line → Line → Type 0
MayNotCome shape jobs before line = MayNotComeBy shape jobs before line.who line.item

-- what the line says does not hold behind these
abbrev pub IsNotSo : Shape → List Line → Line → Type 0
IsNotSo shape before line = IsSo shape before line → ⊥

abbrev pub IsVerdict : Shape → trees.Shape → List Line → Verdict → Type 0
IsVerdict shape jobs lines verdict.Legal = IsAllowed shape jobs lines
IsVerdict shape jobs lines (verdict.MayNotCome number) = StopsAt number (MayNotCome shape jobs) shape jobs lines
IsVerdict shape jobs lines (verdict.NotSo number) = StopsAt number (IsNotSo shape) shape jobs lines
