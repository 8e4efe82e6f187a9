-- What stays true of how a failure goes up, and of the Cancels that it makes.
use Rattle.std.specs.Prelude.{◌≡◌, ℕ, Bool, false, List, [], ◌∷◌, Some, None}
use mathlib.Core.List.{IsPrefix}
use Rattle.job_model.specs.declared.acts.JobKind.{JobKind}
use Rattle.job_model.specs.declared.acts.JobAct.{JobAct}
use Rattle.job_model.specs.declared.acts.JobAct.TheVariants.{Cancel}
use Rattle.job_model.specs.declared.acts.JobEntry.{JobEntry}
use Rattle.job_model.specs.Trees.{Shape, kind_of}
use Rattle.job_model.specs.Histories.{replay, Legal}
use Rattle.job_model.specs.Cancels.{IsCancelBelow, AreCancelsBelow}
use Rattle.job_model.specs.Failures.{IsScope, IsSupervisor, GoesUpTo}
use Rattle.job_model.proofs.Lasting.{Lasts, parent_lasts}
use Rattle.job_model.proofs.Own.{prefix_keeps}
use Rattle.job_model.proofs.Below.{below_kept}

-- ---- Cancels of Jobs below a row

cancel_below_kept : (shape : Shape) (xs ys : List JobEntry) (row : ℕ) (act : JobAct) → Legal shape ys → IsPrefix xs ys
    → IsCancelBelow (replay xs) row act → IsCancelBelow (replay ys) row act
cancel_below_kept shape xs ys row (Cancel q reason) l p' h = (h.0, below_kept shape xs ys row q l p' h.1)
cancel_below_kept shape xs ys row other l p' h = absurd h

pub cancels_below_kept : (shape : Shape) (xs ys : List JobEntry) (row : ℕ) (acts : List JobAct) → Legal shape ys → IsPrefix xs ys
    → AreCancelsBelow (replay xs) row acts → AreCancelsBelow (replay ys) row acts
cancels_below_kept shape xs ys row [] l p h = tt
cancels_below_kept shape xs ys row (act ∷ acts) l p h =
    (cancel_below_kept shape xs ys row act l p h.0, cancels_below_kept shape xs ys row acts l p h.1)

-- ---- kinds stay

pub kind_lasts : (k : JobKind) → Lasts (λ x. kind_of x ≡ Some k)
kind_lasts k = record {
  child = λ r j live h. h;
  start = λ j n h. h;
  body = λ v j h. h;
  cancel = λ cause j c h. h;
  finish = λ who end j m h. h;
  told = λ c j h. h;
  attached = λ h x. absurd (none h);
}
  where
    none : None ≡ Some k → ⊥
    none e = cc

pub scope_lasts : (b : Bool) → Lasts (IsScope b)
scope_lasts b = record {
  child = λ r j live h. h;
  start = λ j n h. h;
  body = λ v j h. h;
  cancel = λ cause j c h. h;
  finish = λ who end j m h. h;
  told = λ c j h. h;
  attached = λ h x. absurd h;
}

pub supervisor_lasts : (b : Bool) → Lasts (IsSupervisor b)
supervisor_lasts b = record {
  child = λ r j live h. h;
  start = λ j n h. h;
  body = λ v j h. h;
  cancel = λ cause j c h. h;
  finish = λ who end j m h. h;
  told = λ c j h. h;
  attached = λ h x. absurd h;
}

-- ---- a failure goes on to go as far

pub goes_kept : (shape : Shape) (xs ys : List JobEntry) (row p : ℕ) → Legal shape ys → IsPrefix xs ys → GoesUpTo (replay xs) row p
    → GoesUpTo (replay ys) row p
goes_kept shape xs ys row p l pre h = record {
  parent = prefix_keeps _ (parent_lasts p) shape xs ys row l pre h.parent;
  child = prefix_keeps _ (scope_lasts false) shape xs ys row l pre h.child;
  above = prefix_keeps _ (supervisor_lasts false) shape xs ys p l pre h.above;
}
