-- How a failure goes up.
use Rattle.std.specs.Prelude.{◌≡◌, ℕ, Bool, true, false, List, [], ◌∷◌, ◌++◌, Option, Some, None}
use Rattle.job_model.specs.declared.acts.JobAct.{JobAct}
use Rattle.job_model.specs.declared.acts.JobAct.TheVariants.{Cancel}
use Rattle.job_model.specs.declared.acts.Reason.TheVariants as reasons
use Rattle.job_model.specs.Trees.{Job, Tree, parent_of}
use Rattle.job_model.specs.Cancels.{IsAllCancelled, AreCancelsBelow}

-- whether it is a scope
abbrev pub IsScope : Bool → Option Job → Type 0
IsScope b None = ⊥
IsScope b (Some j) = j.kind.scoped ≡ b

-- whether it is a supervisor
abbrev pub IsSupervisor : Bool → Option Job → Type 0
IsSupervisor b None = ⊥
IsSupervisor b (Some j) = j.kind.supervisor ≡ b

-- a failure of this Job cancels no parent
pub data StaysBelow (tree : Tree) : ℕ → Type 0 where
  root : StaysBelow tree 0
  scope : (row : ℕ) → IsScope true (tree row) → StaysBelow tree row
  supervised : (row p : ℕ) → parent_of (tree row) ≡ Some p → IsSupervisor true (tree p) → StaysBelow tree row

-- a failure of this Job cancels this parent
pub record GoesUpTo (tree : Tree) (row p : ℕ) : Type 0 where
  pub parent : parent_of (tree row) ≡ Some p
  pub child : IsScope false (tree row)
  pub above : IsSupervisor false (tree p)

-- these acts took the failure of the row up
pub data FailsUp (tree : Tree) : ℕ → List JobAct → Type 0 where
  -- it cancels no parent
  ends : (row : ℕ) → StaysBelow tree row → FailsUp tree row []
  -- the parent was Cancelling or had ended before: only Jobs below it were cancelled
  stops : (row p : ℕ) (acts : List JobAct)
      → GoesUpTo tree row p → IsAllCancelled tree p → AreCancelsBelow tree p acts → FailsUp tree row acts
  -- the parent was cancelled, then those below it, and its failure went up
  goes_on : (row p : ℕ) (acts more all : List JobAct)
      → GoesUpTo tree row p → IsAllCancelled tree p → AreCancelsBelow tree p acts → FailsUp tree p more
      → all ≡ Cancel p (reasons.Child row) ∷ acts ++ more → FailsUp tree row all
