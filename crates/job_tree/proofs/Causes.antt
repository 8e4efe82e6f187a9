-- A Job that was cancelled for a failure.
use Rattle.std.specs.Prelude.{◌≡◌, ℕ, true, List, [], Option, Some, None, option_map, refl}
use mathlib.Core.List.{IsPrefix}
use Rattle.std.proofs.Common.{sym, ap, ◌∙◌, subst}
use Rattle.job_model.specs.declared.acts.Cause.{Cause}
use Rattle.job_model.specs.declared.acts.Reason.{Reason}
use Rattle.job_model.specs.declared.acts.Reason.TheVariants as reasons
use Rattle.job_model.specs.declared.acts.JobAct.TheVariants.{Cancel}
use Rattle.job_model.specs.declared.acts.JobEntry.{JobEntry}
use Rattle.job_model.specs.Trees.{Shape, Job, Tree, is_failure}
use Rattle.job_model.specs.Effects.{after, cancelled_for, cause_of, cause_of_reason}
use Rattle.job_model.specs.Needs.{IsCancelled, IsFailedChild, MayBeCancelled, Holds}
use Rattle.job_model.specs.Histories.{replay, Legal}
use Rattle.job_model.specs.Floors.{Floor, Made}
use Rattle.job_model.specs.Laws.{IsSoundRow}
use Rattle.job_model.proofs.Histories.{replay_push, Legal-last, Legal-prefix}
use Rattle.job_model.proofs.Lasting.{Lasts}
use Rattle.job_model.proofs.Own.{prefix_keeps}
use Rattle.job_model.proofs.Families.{changed_here, replay_families}
use Rattle.job_model.proofs.Reasons.{new_not_cancelled, cancelled_not_cancellable}
use Rattle.job_model.proofs.Sound.{failure_is_cause, body_cancelled, end_cancelled}
use Rattle.job_tree.specs.Passes.{is_for_failure, IsFailure}

-- a Job whose cause is a failure is cancelled, so that its cause stays
abbrev HasFailed : Option Job → Type 0
HasFailed x = IsFailure x × IsCancelled x

failed_lasts : Lasts HasFailed
failed_lasts = record {
  child = λ c j live h. h;
  start = λ j n h. absurd (new_not_cancelled j.state n h.1);
  body = λ v j h. (h.0, sym (body_cancelled j.state) ∙ h.1);
  cancel = λ cause j c h. absurd (cancelled_not_cancellable j.state c h.1);
  finish = λ who end j m h. (h.0, sym (end_cancelled j.state j end m.2) ∙ h.1);
  told = λ c j h. h;
  attached = λ h x. absurd h.0;
}

failure_cancelled : (x : Option Job) → IsSoundRow x → IsFailure x → IsCancelled x
failure_cancelled None h f = absurd f
failure_cancelled (Some j) h f = sym h.caused ∙ failure_is_cause j.cause f

-- a cause that is a failure stays one
pub failure_later : (shape : Shape) (xs ys : List JobEntry) (r : ℕ) → Legal shape ys → IsPrefix xs ys → IsFailure (replay xs r)
    → IsFailure (replay ys r)
failure_later shape xs ys r l p h =
    let lx = Legal-prefix shape xs p.0 (subst (Legal shape) (sym p.1) l) in
    (prefix_keeps HasFailed failed_lasts shape xs ys r l p (h, failure_cancelled (replay xs r) ((replay_families shape xs lx).rows r) h)).0

child_failed : (r : ℕ) (x : Option Job) → IsFailedChild r x → is_failure (cause_of x) ≡ true
child_failed r None h = absurd h
child_failed r (Some j) h = h.1

-- the reason gives a failure
gives_failure : (shape : Shape) (tree : Tree) (who r : ℕ) (reason : Reason) → Holds shape tree who r reason → is_for_failure reason ≡ true
    → is_failure (cause_of_reason tree reason) ≡ true
gives_failure shape tree who r (reasons.Child c) h e = child_failed r (tree c) h.0
gives_failure shape tree who r (reasons.Own f) h e = refl
gives_failure shape tree who r other h e = cc

is_given : (cause : Cause) (x : Option Job) → MayBeCancelled x → is_failure cause ≡ true → IsFailure (option_map (cancelled_for cause) x)
is_given cause None m e = absurd m
is_given cause (Some j) m e = e

-- after a Cancel for a failure the cause is a failure
pub made_failure : (who r : ℕ) (reason : Reason) (a b c : Floor) → Legal b.shape b.seen → Legal c.shape c.seen
    → Made who (Cancel r reason) [] a b → IsPrefix b.seen c.seen → is_for_failure reason ≡ true → IsFailure (replay c.seen r)
made_failure who r reason a b c l lc m p e =
    let entry : JobEntry = record { who = who; act = Cancel r reason } in
    let parts = Legal-last b.shape m.before entry (subst (Legal b.shape) m.last l) in
    let tree : Tree = replay m.before in
    let given = is_given (cause_of_reason tree reason) (tree r) parts.1.0 (gives_failure b.shape tree who r reason parts.1.1 e) in
    let now : IsFailure (after tree who (Cancel r reason) r) =
    subst IsFailure (sym (changed_here r (cancelled_for (cause_of_reason tree reason)) tree)) given in
    let here : IsFailure (replay b.seen r) = subst (λ (t : Tree). IsFailure (t r)) (sym (ap replay m.last ∙ replay_push m.before entry)) now
    in
    failure_later c.shape b.seen c.seen r lc p here
