-- Cancels of a Job and of those below it.
use Rattle.std.specs.Prelude.{◌≡◌, ℕ, Bool, true, false, List, [], ◌∷◌}
use Rattle.job_model.specs.declared.acts.JobAct.{JobAct}
use Rattle.job_model.specs.declared.acts.JobAct.TheVariants.{Attach, Start, EndBody, Cancel, Finish, Gone}
use Rattle.job_model.specs.declared.acts.Reason.{Reason}
use Rattle.job_model.specs.declared.acts.Reason.TheVariants as reasons
use Rattle.job_model.specs.Trees.{Tree}
use Rattle.job_model.specs.Families.{IsBelow, IsCancellingOrEnded, AllBelowCancelled}

-- the Job and each below it is Cancelling or ended
pub record IsAllCancelled (tree : Tree) (row : ℕ) : Type 0 where
  pub here : IsCancellingOrEnded (tree row)
  pub below : AllBelowCancelled tree row

-- the Cancel of a Job, if it was made
abbrev pub own_cancel : Bool → ℕ → Reason → List JobAct
own_cancel true row reason = Cancel row reason ∷ []
own_cancel false row reason = []

-- a Cancel, with reason Parent, of a Job below the row
abbrev pub IsCancelBelow : Tree → ℕ → JobAct → Type 0
IsCancelBelow tree row (Attach p q kind tag cancelled) = ⊥
IsCancelBelow tree row (Start q) = ⊥
IsCancelBelow tree row (EndBody q v) = ⊥
IsCancelBelow tree row (Cancel q reason) = (reason ≡ reasons.Parent) × IsBelow tree row q
IsCancelBelow tree row (Finish q end) = ⊥
IsCancelBelow tree row (Gone q) = ⊥

-- all of these are Cancels of Jobs below the row
abbrev pub AreCancelsBelow : Tree → ℕ → List JobAct → Type 0
AreCancelsBelow tree row [] = Unit {0}
AreCancelsBelow tree row (act ∷ acts) = IsCancelBelow tree row act × AreCancelsBelow tree row acts
