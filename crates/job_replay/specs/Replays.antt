-- What callers see of a tree that follows acts.
use Rattle.std.specs.Prelude.{◌≡◌, ℕ, Bool, true, false, length}
use Rattle.job_model.specs.declared.acts.JobAct.{JobAct}
use Rattle.job_model.specs.Trees.{Job, Tree, living}
use Rattle.job_model.specs.Effects.{after}
use Rattle.job_model.specs.Steps.{may_make}
use Rattle.job_replay.specs.declared.calls.JobLook.{JobLook}
use Rattle.job_replay.specs.declared.job_row.JobRow.{JobRow}
use Rattle.job_replay.specs.declared.replay.JobReplay.{JobReplay}
use Rattle.job_replay.specs.Rows.{StandsFor}
use Rattle.job_replay.specs.Sizes.{shape_of}

-- it is this tree
abbrev pub IsTree : Tree → JobReplay → Type 0
IsTree tree x = StandsFor x.size.rows tree x.rows.items x.gone.items

-- what became of an act that was told: it was made, or nothing was
abbrev pub IsAfter : Bool → Tree → ℕ → JobAct → JobReplay → Type 0
IsAfter true tree who act new = IsTree (after tree who act) new
IsAfter false tree who act new = IsTree tree new

-- whether the act may come on this tree, and the tree then
pub record IsStep (answer : Bool) (tree : Tree) (who : ℕ) (act : JobAct) (old new : JobReplay) : Type 0 where
  pub may : answer ≡ may_make (shape_of old.size) tree who act
  pub left : IsAfter answer tree who act new

-- what a look shows of a Job
abbrev pub look_of : Job → JobLook
look_of j = record { state = j.state; cause = j.cause; value = j.value; body_ended = j.body_ended; living = length (living j) }

-- the same of its row
abbrev pub look_of_row : JobRow → JobLook
look_of_row x = record { state = x.state; cause = x.cause; value = x.value; body_ended = x.body_ended; living = x.living }
