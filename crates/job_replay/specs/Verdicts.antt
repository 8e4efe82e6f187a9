-- What each verdict says of a history of Jobs.
use Rattle.std.specs.Prelude.{◌≡◌, ℕ, ◌+◌, List, ◌∷◌, ◌++◌, length}
use Rattle.job_model.specs.declared.acts.JobEntry.{JobEntry}
use Rattle.job_model.specs.Trees.{Shape}
use Rattle.job_model.specs.Histories.{Legal}
use Rattle.job_replay.specs.declared.history.JobVerdict.{JobVerdict}
use Rattle.job_replay.specs.declared.history.JobVerdict.TheVariants as verdict

-- the entry of this number, from 1, is at fault: those before it are legal, and no history that begins as far as with it is
pub record StopsAt (number : ℕ) (shape : Shape) (entries : List JobEntry) : Type 0 where
  pub before : List JobEntry
  pub entry : JobEntry
  pub rest : List JobEntry
  pub split : entries ≡ before ++ entry ∷ rest
  pub numbered : length before + 1 ≡ number
  pub legal : Legal shape before
  pub none : (more : List JobEntry) → Legal shape (before ++ entry ∷ more) → ⊥

abbrev pub IsVerdict : Shape → List JobEntry → JobVerdict → Type 0
IsVerdict shape entries verdict.Legal = Legal shape entries
IsVerdict shape entries (verdict.MayNotCome number) = StopsAt number shape entries
