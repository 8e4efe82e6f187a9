-- What is printed of Jobs, from the tree that a history leaves.
use Rattle.std.specs.Prelude.{◌≡◌, ℕ, List, [], Option, Some, None}
use Rattle.std.specs.List.{fold, range_with_len}
use lib.Chars.{codes}
use Rattle.job_model.specs.declared.acts.End.{End}
use Rattle.job_model.specs.declared.acts.End.TheVariants as ends
use Rattle.job_model.specs.declared.acts.JobAct.{JobAct}
use Rattle.job_model.specs.declared.acts.JobState.{JobState}
use Rattle.job_model.specs.declared.acts.JobState.TheVariants as states
use Rattle.job_model.specs.Trees.{Job, Tree}
use Rattle.call_meaning.specs.Facts.{end_at}
use Rattle.run_report.specs.JobTexts.{end_text}
use Rattle.run_report.specs.Jobs.{end_noted, job_line, line_of_job}
use Rattle.run_report.specs.Summaries.{no_jobs, with_job, jobs_counted}

-- how far a Job is in this state, or how it ended
abbrev pub state_text : JobState → Job → List ℕ
state_text states.New j = codes "new"
state_text states.Active j = codes "active"
state_text states.Completing j = codes "completing"
state_text states.Cancelling j = codes "cancelling"
state_text states.Cancelled j = end_text (ends.Cancelled j.cause)
state_text states.Completed j = end_text (ends.Completed j.value)

-- the line of a row, if a Job is attached there
abbrev pub row_line : ℕ → Option Job → List ℕ
row_line r None = []
row_line r (Some j) = line_of_job r (state_text j.state j)

-- with the Job of a row added, if one is attached there
abbrev pub with_row_of : {N : Type 0} → (N → Option End → N) → N → Option Job → N
with_row_of add n None = n
with_row_of add n (Some j) = add n (end_at (Some j))

-- what these acts say of Jobs is what the tree says: the line of each row, the counts of the rows below one, and how the root has ended
pub record AreToldOf (acts : List JobAct) (tree : Tree) : Type 0 where
  pub lines : (r : ℕ) → job_line r acts ≡ row_line r (tree r)
  pub counts : (rows : ℕ) → jobs_counted acts rows ≡ fold (λ n r. with_row_of with_job n (tree r)) no_jobs (range_with_len 0 rows)
  pub root : end_noted 0 acts ≡ end_at (tree 0)
