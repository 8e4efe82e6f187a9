-- A tree of Jobs at rest: no end, no word to a parent, no cancellation and no failure is owed.
use Rattle.std.specs.Prelude.{◌≡◌, ◌≢◌, ℕ, ◌⊎◌, true, Option, Some, None}
use Rattle.job_model.specs.Trees.{Job, Tree, is_cancelled, is_done, was_told, parent_row}
use Rattle.job_model.specs.Needs.{IsCancelled, IsFailedChild}
use Rattle.job_model.specs.Families.{IsEnded, AllBelowCancelled}

-- the failure of a child does not cancel this parent, or has
abbrev pub BearsFailures : Option Job → Type 0
BearsFailures None = ⊥
BearsFailures (Some j) = (j.kind.supervisor ≡ true) ⊎ (is_cancelled j.state ≡ true)

pub record AtRest (tree : Tree) : Type 0 where
  -- a Job whose body has ended and no child of which lives has ended
  pub finished : (r : ℕ) → is_done (tree r) ≡ true → IsEnded (tree r)
  -- the parent of each ended Job was told
  pub told : (r : ℕ) → r ≢ 0 → IsEnded (tree r) → was_told r (parent_row tree r) ≡ true
  -- each Job below a cancelled one is Cancelling or ended
  pub below : (r : ℕ) → IsCancelled (tree r) → AllBelowCancelled tree r
  -- the parent of a Job that failed and is no scope is a supervisor, Cancelling or Cancelled
  pub failed : (r parent : ℕ) → IsFailedChild parent (tree r) → BearsFailures (tree parent)
