-- Who stands below a Job as its history goes on.
use Rattle.std.specs.Prelude.{◌≡◌, ℕ, Bool, true, false, List, Option, Some, None, refl}
use mathlib.Core.List.{IsPrefix}
use Rattle.std.proofs.Common.{sym, ap, ◌∙◌}
use Rattle.job_model.specs.declared.acts.JobState.{JobState}
use Rattle.job_model.specs.declared.acts.JobState.TheVariants.{New, Cancelling, Cancelled, Completed}
use Rattle.job_model.specs.declared.acts.End.{End}
use Rattle.job_model.specs.declared.acts.End.TheVariants as ends
use Rattle.job_model.specs.declared.acts.JobEntry.{JobEntry}
use Rattle.job_model.specs.Trees.{Shape, Job, is_cancellable, is_cancelling, is_ended}
use Rattle.job_model.specs.Effects.{state_after_body, state_of_end}
use Rattle.job_model.specs.Needs.{MayHaveChild}
use Rattle.job_model.specs.Families.{IsBelow, IsCancellingOrEnded}
use Rattle.job_model.specs.Histories.{replay, Legal}
use Rattle.job_model.proofs.Lasting.{Lasts, parent_lasts}
use Rattle.job_model.proofs.Own.{prefix_keeps}

-- ---- what stands below stays below

pub below_kept : (shape : Shape) (xs ys : List JobEntry) (row d : ℕ) → Legal shape ys → IsPrefix xs ys → IsBelow (replay xs) row d
    → IsBelow (replay ys) row d
below_kept shape xs ys row d l p (IsBelow.is_child _ e) = IsBelow.is_child d (prefix_keeps _ (parent_lasts row) shape xs ys d l p e)
below_kept shape xs ys row d l p (IsBelow.is_further c _ b e) =
    IsBelow.is_further c d (below_kept shape xs ys row c l p b) (prefix_keeps _ (parent_lasts c) shape xs ys d l p e)

-- ---- Cancelling or ended

past_new : (s : JobState) → s ≡ New → is_cancellable s ≡ false → ⊥
past_new s e h = let k : is_cancellable New ≡ false = ap is_cancellable (sym e) ∙ h in cc

past_body : (s : JobState) → is_cancellable s ≡ false → is_cancellable (state_after_body s) ≡ false
past_body Cancelling e = refl
past_body Cancelled e = refl
past_body Completed e = refl
past_body other e = cc

past_end : (end : End) → is_cancellable (state_of_end end) ≡ false
past_end (ends.Completed v) = refl
past_end (ends.Cancelled cause) = refl

-- a Job that is Cancelling or ended stays so
pub cancelling_lasts : Lasts IsCancellingOrEnded
cancelling_lasts = record {
  child = λ r j live h. h;
  start = λ j n h. absurd (past_new j.state n h);
  body = λ v j h. past_body j.state h;
  cancel = λ cause j c h. refl;
  finish = λ who end j m h. past_end end;
  told = λ c j h. h;
  attached = λ h x. absurd h;
}

-- ---- children that come later

must_be_cancelled : (s : JobState) (cancelled : Bool) → is_cancellable s ≡ false → is_ended s ≡ false → is_cancelling s ≡ cancelled
    → cancelled ≡ true
must_be_cancelled Cancelling cancelled c e k = sym k
must_be_cancelled other cancelled c e k = cc

-- a child of a Job that is Cancelling or ended is cancelled at once
pub child_cancelled : (x : Option Job) (cancelled : Bool) → IsCancellingOrEnded x → MayHaveChild cancelled x → cancelled ≡ true
child_cancelled None cancelled h m = absurd m
child_cancelled (Some j) cancelled h m = must_be_cancelled j.state cancelled h m.0 m.1
