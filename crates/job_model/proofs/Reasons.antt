-- A reason that holds goes on to hold.
use Rattle.std.specs.Prelude.{◌≡◌, ℕ, zero, suc, ◌==◌, Bool, true, false, ◌||◌, List, ◌++◌, Option, Some, None, is_some, refl}
use Rattle.std.proofs.Common.{sym, ap, ◌∙◌, subst}
use Rattle.std.proofs.lemmas.Bool.{and_parts, and_from}
use Rattle.job_model.specs.declared.acts.JobState.{JobState}
use Rattle.job_model.specs.declared.acts.JobState.TheVariants.{New}
use Rattle.job_model.specs.declared.acts.Reason.{Reason}
use Rattle.job_model.specs.declared.acts.Reason.TheVariants as reasons
use Rattle.job_model.specs.declared.acts.JobEntry.{JobEntry}
use Rattle.job_model.specs.Trees.{Shape, Job, Tree, is_cancelled, is_cancellable, is_ended, is_failure_of, is_supervisor, parent_of, parent_row, row_of}
use Rattle.job_model.specs.Needs.{IsCancelled, IsFailedChild, Holds, any_below, ended_by_failure}
use Rattle.job_model.specs.Histories.{replay, replay_from, Legal, LegalFrom}
use Rattle.job_model.specs.Laws.{HasFamilies, IsSoundRow}
use Rattle.job_model.proofs.Histories.{replay-append, Legal-append}
use Rattle.job_model.proofs.Lasting.{Lasts, history_keeps, parent_lasts, tag_lasts, ended_body, ended_not_cancellable, new_not_ended, end_ends}
use Rattle.job_model.proofs.Families.{replay_families}
use Rattle.job_model.proofs.Sound.{failure_is_cause, body_cancelled, end_cancelled}
use Rattle.job_model.proofs.RowMarks.{listed_some}

-- ---- the parent is cancelled

pub new_not_cancelled : (s : JobState) → s ≡ New → is_cancelled s ≡ true → ⊥
new_not_cancelled s e h = let k : is_cancelled New ≡ true = ap is_cancelled (sym e) ∙ h in cc

pub cancelled_not_cancellable : (s : JobState) → is_cancellable s ≡ true → is_cancelled s ≡ true → ⊥
cancelled_not_cancellable New c e = cc
cancelled_not_cancellable other c e = cc

cancelled_lasts : Lasts IsCancelled
cancelled_lasts = record {
  child = λ r j live h. h;
  start = λ j n h. absurd (new_not_cancelled j.state n h);
  body = λ v j h. sym (body_cancelled j.state) ∙ h;
  cancel = λ cause j c h. refl;
  finish = λ who end j m h. sym (end_cancelled j.state j end m.2) ∙ h;
  told = λ c j h. h;
  attached = λ h x. absurd h;
}

-- ---- a child failed

-- a failed child is cancelled, so that its cause stays
abbrev HasFailed : ℕ → Option Job → Type 0
HasFailed r x = IsFailedChild r x × IsCancelled x

failed_lasts : (r : ℕ) → Lasts (HasFailed r)
failed_lasts r = record {
  child = λ c j live h. h;
  start = λ j n h. absurd (new_not_cancelled j.state n h.1);
  body = λ v j h. (h.0, sym (body_cancelled j.state) ∙ h.1);
  cancel = λ cause j c h. absurd (cancelled_not_cancellable j.state c h.1);
  finish = λ who end j m h. (h.0, sym (end_cancelled j.state j end m.2) ∙ h.1);
  told = λ c j h. h;
  attached = λ h x. absurd h.0;
}

failed_is_cancelled : (r : ℕ) (x : Option Job) → IsSoundRow x → IsFailedChild r x → IsCancelled x
failed_is_cancelled r None h f = absurd f
failed_is_cancelled r (Some j) h f = sym h.caused ∙ failure_is_cause j.cause f.1

-- an attached row that is no supervisor
abbrev IsPlain : Option Job → Type 0
IsPlain x = (is_some x ≡ true) × (is_supervisor x ≡ false)

plain_lasts : Lasts IsPlain
plain_lasts = record {
  child = λ c j live h. h;
  start = λ j n h. h;
  body = λ v j h. h;
  cancel = λ cause j c h. h;
  finish = λ who end j m h. h;
  told = λ c j h. h;
  attached = λ h x. absurd (none h.0);
}
  where
    none : is_some {T = Job} None ≡ true → ⊥
    none e = cc

failed_parent : (r : ℕ) (x : Option Job) → IsFailedChild r x → parent_of x ≡ Some r
failed_parent r None f = absurd f
failed_parent r (Some j) f = f.0

-- ---- the own body fails

pub failure_lasts : (f : ℕ) → Lasts (λ x. ended_by_failure f x ≡ true)
failure_lasts f = record {
  child = λ c j live h. h;
  start = λ j n h. absurd (new_not_ended j.state n (and_parts (is_ended j.state) (is_failure_of f j.cause) h).0);
  body = λ v j h. and_from _ _ (ended_body j.state (and_parts (is_ended j.state) (is_failure_of f j.cause) h).0)
      (and_parts (is_ended j.state) (is_failure_of f j.cause) h).1;
  cancel = λ cause j c h. absurd (ended_not_cancellable j.state c (and_parts (is_ended j.state) (is_failure_of f j.cause) h).0);
  finish = λ w end j m h. and_from _ _ (end_ends end) (and_parts (is_ended j.state) (is_failure_of f j.cause) h).1;
  told = λ c j h. h;
  attached = λ h x. absurd (none h);
}
  where
    none : ended_by_failure f None ≡ true → ⊥
    none e = cc

or_more : (a b c : Bool) → (b ≡ true → c ≡ true) → (a || b) ≡ true → (a || c) ≡ true
or_more true b c h e = refl
or_more false b c h e = h e

or_both : (a b c d : Bool) → (a ≡ true → c ≡ true) → (b ≡ true → d ≡ true) → (a || b) ≡ true → (c || d) ≡ true
or_both true b c d h k e = ap (λ x. x || d) (h refl)
or_both false b true d h k e = refl
or_both false b false d h k e = k e

any_more : (n : ℕ) (f g : ℕ → Bool) → ((q : ℕ) → f q ≡ true → g q ≡ true) → any_below n f ≡ true → any_below n g ≡ true
any_more zero f g h e = e
any_more (suc n) f g h e = or_both (f n) (any_below n f) (g n) (any_below n g) (h n) (any_more n f g h) e

-- ---- each reason

parent_holds : (shape : Shape) (tree : Tree) (es : List JobEntry) (r : ℕ) → LegalFrom shape tree es → (o : Option ℕ)
    → parent_of (tree r) ≡ o → IsCancelled (row_of tree o) → IsCancelled (parent_row (replay_from tree es) r)
parent_holds shape tree es r l None e h = absurd h
parent_holds shape tree es r l (Some p) e h =
    subst (λ o. IsCancelled (row_of (replay_from tree es) o)) (sym (history_keeps _ (parent_lasts p) shape tree es r l e))
    (history_keeps IsCancelled cancelled_lasts shape tree es p l h)

holds_from : (shape : Shape) (tree : Tree) (es : List JobEntry) (who r : ℕ) (reason : Reason) → HasFamilies tree → LegalFrom shape tree es
    → Holds shape tree who r reason → Holds shape (replay_from tree es) who r reason
holds_from shape tree es who r reasons.Request k l h = tt
holds_from shape tree es who r reasons.Parent k l h = parent_holds shape tree es r l (parent_of (tree r)) refl h
holds_from shape tree es who r (reasons.Child c) k l h =
    let failed = history_keeps (HasFailed r) (failed_lasts r) shape tree es c l (h.0, failed_is_cancelled r (tree c) (k.rows c) h.0) in
    let plain = history_keeps IsPlain plain_lasts shape tree es r l
    (listed_some c (tree r) (k.listed r c (failed_parent r (tree c) h.0)), h.1) in
    (failed.0, plain.1)
holds_from shape tree es who r (reasons.Own f) k l h = (
  history_keeps _ (tag_lasts who) shape tree es r l h.0,
  or_more (f == r) _ _ (or_more (f == who) _ _ (any_more shape.rows (λ q. ended_by_failure f (tree q))
      (λ q. ended_by_failure f (replay_from tree es q)) (λ q e. history_keeps _ (failure_lasts f) shape tree es q l e))) h.1,
)

pub reason_holds_on : (shape : Shape) (xs ys : List JobEntry) (who r : ℕ) (reason : Reason) → Legal shape (xs ++ ys)
    → Holds shape (replay xs) who r reason → Holds shape (replay (xs ++ ys)) who r reason
reason_holds_on shape xs ys who r reason l h =
    let parts = (Legal-append shape xs ys).0 l in
    subst (λ (t : Tree). Holds shape t who r reason) (sym (replay-append xs ys))
    (holds_from shape (replay xs) ys who r reason (replay_families shape xs parts.0) parts.1 h)
