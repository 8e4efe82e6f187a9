-- How far a coroutine is with the bodies that are its own, and that one is there on a floor.
use Rattle.std.specs.Prelude.{◌≡◌, ℕ, ◌<◌, Bool, true, false, Some}
use Rattle.std.specs.List.{list_any}
use Rattle.job_model.specs.Acts.{ends_body}
use Rattle.job_model.specs.Trees.{tag_of}
use Rattle.job_model.specs.Histories.{replay, acts_of}
use Rattle.job_model.specs.Floors.{Floor}
use Rattle.script_meaning.specs.declared.stage.Stage.{Stage}
use Rattle.script_meaning.specs.declared.stage.Stage.TheVariants.{Fresh, Leaving, SeesScope, Ended}

-- ---- stages

-- its body has ended
abbrev pub is_over : Stage → Bool
is_over Ended = true
is_over other = false

-- it has not begun
abbrev pub is_fresh : Stage → Bool
is_fresh Fresh = true
is_fresh other = false

-- the body of its innermost scope has ended, and the scope was not left
abbrev pub is_leaving : Stage → Bool
is_leaving (Leaving w) = true
is_leaving SeesScope = true
is_leaving other = false

-- ---- a body on the floor

-- the row is that of the coroutine, or its Job is one of the coroutine's
pub data IsOwnRow (who row : ℕ) (jobs : Floor) : Type 0 where
  own : row ≡ who → who < jobs.shape.coroutines → IsOwnRow who row jobs
  scope : tag_of (replay jobs.seen row) ≡ Some who → IsOwnRow who row jobs

-- who may call, and did not end the body of this row, which is its own
pub record HasBodyAt (who row : ℕ) (jobs : Floor) : Type 0 where
  pub caller : jobs.callers who ≡ true
  pub whose : IsOwnRow who row jobs
  pub not_ended : list_any (ends_body row) (acts_of who jobs.seen) ≡ false
