-- How a failure goes up.
use Rattle.std.specs.Prelude.{◌≡◌, ℕ, Bool, List, [], ◌∷◌, ◌++◌, map, Option, Some, None, Result, Ok, Err}
use Rattle.co_base.specs.declared.names.Memory.{Memory}
use Rattle.job_model.specs.declared.acts.JobAct.{JobAct}
use Rattle.job_model.specs.declared.acts.JobAct.TheVariants.{Cancel}
use Rattle.job_model.specs.declared.acts.Reason.TheVariants as reasons
use Rattle.job_model.specs.Trees.{Tree}
use Rattle.job_model.specs.Cancels.{IsAllCancelled, own_cancel, AreCancelsBelow}
use Rattle.job_model.specs.Failures.{StaysBelow, GoesUpTo, FailsUp}
use Rattle.call_meaning.specs.Telling.{did}
use Rattle.call_meaning.specs.Seen.{SeenOnJobs, tree_in}
use Rattle.call_meaning.specs.Calls.{ToldOnJobs}
use Rattle.job_tree.specs.Notes.{Noted, OnlyLooked}
use Rattle.job_tree.specs.declared.caller.Reserve.{Reserve}
use Rattle.job_tree.specs.declared.caller.Reserve.TheVariants.{AsItGoes}

-- the Cancels that took the failure of the Job up are told and noted
pub record IsFailedUp (row : ℕ) (old new : SeenOnJobs) : Type 0 where
  pub acts : List JobAct
  pub noted : ToldOnJobs [] old new (map did acts)
  pub up : FailsUp (tree_in new) row acts

-- these acts began to take the failure of the row up
pub data BeginsToFailUp (tree : Tree) : ℕ → List JobAct → Type 0 where
  -- the parent was cancelled, or not by this call, and some of those below it
  in_pass : (row p : ℕ) (newly : Bool) (acts : List JobAct)
      → GoesUpTo tree row p → AreCancelsBelow tree p acts → BeginsToFailUp tree row (own_cancel newly p (reasons.Child row) ++ acts)
  -- the parent was cancelled and all below it, and its failure began to go up
  goes_on : (row p : ℕ) (acts more all : List JobAct)
      → GoesUpTo tree row p → IsAllCancelled tree p → AreCancelsBelow tree p acts → BeginsToFailUp tree p more
      → all ≡ Cancel p (reasons.Child row) ∷ acts ++ more → BeginsToFailUp tree row all

-- the Cancels that began to take the failure of the Job up are noted
pub record HasBegunToFailUp (row : ℕ) (old new : SeenOnJobs) : Type 0 where
  pub acts : List JobAct
  pub noted : Noted acts old new
  pub up : BeginsToFailUp (tree_in new) row acts

-- the failure went up, or as far as there was memory
abbrev pub ClimbAnswer : ℕ → Reserve → SeenOnJobs → SeenOnJobs → Result (Unit {0}) Memory → Type 0
ClimbAnswer row reserve old new (Ok done) = IsFailedUp row old new
ClimbAnswer row reserve old new (Err m) = (reserve ≡ AsItGoes) × HasBegunToFailUp row old new

-- the parent that a failure of the Job cancels, if it cancels one
abbrev pub IsParentAnswer : Tree → ℕ → Option ℕ → Type 0
IsParentAnswer tree row None = StaysBelow tree row
IsParentAnswer tree row (Some p) = GoesUpTo tree row p

-- the parent that a failure of the Job cancels
pub record ParentAnswer (row : ℕ) (old new : SeenOnJobs) (result : Option ℕ) : Type 0 where
  pub looked : OnlyLooked old new
  pub is : IsParentAnswer (tree_in new) row result
