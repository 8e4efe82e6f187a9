-- The marks that the six acts leave.
use Rattle.std.specs.Prelude.{◌≡◌, ℕ, true, false, not, List, Option, Some, None, option_map, is_some, refl}
use Rattle.std.proofs.Common.{sym, ap, ◌∙◌, subst}
use Rattle.std.proofs.lemmas.Bool.{eqb-true}
use Rattle.job_model.specs.declared.acts.JobState.{JobState}
use Rattle.job_model.specs.declared.acts.JobState.TheVariants.{New, Active, Completing, Cancelling, Cancelled, Completed}
use Rattle.job_model.specs.declared.acts.End.{End}
use Rattle.job_model.specs.declared.acts.End.TheVariants as ends
use Rattle.job_model.specs.declared.acts.JobAct.{JobAct}
use Rattle.job_model.specs.declared.acts.JobAct.TheVariants.{Gone}
use Rattle.job_model.specs.declared.acts.JobEntry.{JobEntry}
use Rattle.job_model.specs.Trees.{Shape, Job, Tree, start, is_new, is_ended, is_cancellable, is_among, parent_of, parent_row, row_of, was_told}
use Rattle.job_model.specs.Acts.{attaches, starts, ends_body, cancels, finishes, tells}
use Rattle.job_model.specs.Effects.{after, change_parent, with_told, state_after_body, state_of_end}
use Rattle.job_model.specs.Needs.{Needs, IsFinishedBy, end_of}
use Rattle.job_model.specs.Families.{children_of}
use Rattle.job_model.specs.Histories.{Legal}
use Rattle.job_model.specs.Laws.{HasFamilies, has_ended_body, has_ended, OncePerRow}
use Rattle.job_model.proofs.Steps.{RowStep}
use Rattle.job_model.proofs.Rows.{among_more, among_last}
use Rattle.job_model.proofs.Lasting.{Lasts, act_keeps, parent_lasts, ended_body, ended_not_cancellable, new_not_ended, end_ends}
use Rattle.job_model.proofs.Families.{start_families, changed_here}
use Rattle.job_model.proofs.Marks.{IsMark, row_mark, attach_mark, at_most_once, has_started, is_past_cancelling}

-- ---- start

started_body : (s : JobState) → not (is_new s) ≡ true → not (is_new (state_after_body s)) ≡ true
started_body New e = cc
started_body Active e = refl
started_body other e = refl

started_end : (end : End) → not (is_new (state_of_end end)) ≡ true
started_end (ends.Completed v) = refl
started_end (ends.Cancelled cause) = refl

started_lasts : Lasts (λ x. has_started x ≡ true)
unfolding has_started
started_lasts = record {
  child = λ r j live h. h;
  start = λ j n h. refl;
  body = λ v j h. started_body j.state h;
  cancel = λ cause j c h. refl;
  finish = λ who end j m h. started_end end;
  told = λ c j h. h;
  attached = λ h x. absurd (none h);
}
  where
    none : has_started None ≡ true → ⊥
    none e = cc

start_sets : (shape : Shape) (tree : Tree) (who q : ℕ) (act : JobAct) (x y : Option Job) → RowStep shape tree who q act x y
    → starts q act ≡ true → has_started y ≡ true
unfolding has_started
start_sets shape tree who q _ _ _ (RowStep.is_started j n) e = refl
start_sets shape tree who q _ _ _ (RowStep.stays act x a b c d f) e = cc
start_sets shape tree who q _ _ _ other e = cc

start_unset : (shape : Shape) (tree : Tree) (who q : ℕ) (act : JobAct) (x y : Option Job) → RowStep shape tree who q act x y
    → starts q act ≡ true → has_started x ≡ false
unfolding has_started
start_unset shape tree who q _ _ _ (RowStep.is_attached p kind tag cancelled m i) e = refl
start_unset shape tree who q _ _ _ (RowStep.is_started j n) e = ap (λ s. not (is_new s)) n
start_unset shape tree who q _ _ _ (RowStep.stays act x a b c d f) e = cc
start_unset shape tree who q _ _ _ other e = cc

-- ---- end of the body

bodiless_lasts : Lasts (λ x. has_ended_body x ≡ true)
bodiless_lasts = record {
  child = λ r j live h. h;
  start = λ j n h. h;
  body = λ v j h. refl;
  cancel = λ cause j c h. h;
  finish = λ who end j m h. h;
  told = λ c j h. h;
  attached = λ h x. absurd (none h);
}
  where
    none : has_ended_body None ≡ true → ⊥
    none e = cc

body_sets : (shape : Shape) (tree : Tree) (who q : ℕ) (act : JobAct) (x y : Option Job) → RowStep shape tree who q act x y
    → ends_body q act ≡ true → has_ended_body y ≡ true
body_sets shape tree who q _ _ _ (RowStep.body_ends v j m) e = refl
body_sets shape tree who q _ _ _ (RowStep.stays act x a b c d f) e = cc
body_sets shape tree who q _ _ _ other e = cc

body_unset : (shape : Shape) (tree : Tree) (who q : ℕ) (act : JobAct) (x y : Option Job) → RowStep shape tree who q act x y
    → ends_body q act ≡ true → has_ended_body x ≡ false
body_unset shape tree who q _ _ _ (RowStep.is_attached p kind tag cancelled m i) e = refl
body_unset shape tree who q _ _ _ (RowStep.body_ends v j m) e = m.2
body_unset shape tree who q _ _ _ (RowStep.stays act x a b c d f) e = cc
body_unset shape tree who q _ _ _ other e = cc

-- ---- cancel

past_start : (s : JobState) → s ≡ New → not (is_cancellable s) ≡ true → ⊥
past_start s e h = let k : not (is_cancellable New) ≡ true = ap (λ t. not (is_cancellable t)) (sym e) ∙ h in cc

past_body : (s : JobState) → not (is_cancellable s) ≡ true → not (is_cancellable (state_after_body s)) ≡ true
past_body Cancelling e = refl
past_body Cancelled e = refl
past_body Completed e = refl
past_body other e = cc

past_end : (end : End) → not (is_cancellable (state_of_end end)) ≡ true
past_end (ends.Completed v) = refl
past_end (ends.Cancelled cause) = refl

past_lasts : Lasts (λ x. is_past_cancelling x ≡ true)
unfolding is_past_cancelling
past_lasts = record {
  child = λ r j live h. h;
  start = λ j n h. absurd (past_start j.state n h);
  body = λ v j h. past_body j.state h;
  cancel = λ cause j c h. refl;
  finish = λ who end j m h. past_end end;
  told = λ c j h. h;
  attached = λ h x. absurd (none h);
}
  where
    none : is_past_cancelling None ≡ true → ⊥
    none e = cc

cancel_sets : (shape : Shape) (tree : Tree) (who q : ℕ) (act : JobAct) (x y : Option Job) → RowStep shape tree who q act x y
    → cancels q act ≡ true → is_past_cancelling y ≡ true
unfolding is_past_cancelling
cancel_sets shape tree who q _ _ _ (RowStep.is_cancelled reason j m h) e = refl
cancel_sets shape tree who q _ _ _ (RowStep.stays act x a b c d f) e = cc
cancel_sets shape tree who q _ _ _ other e = cc

cancel_unset : (shape : Shape) (tree : Tree) (who q : ℕ) (act : JobAct) (x y : Option Job) → RowStep shape tree who q act x y
    → cancels q act ≡ true → is_past_cancelling x ≡ false
unfolding is_past_cancelling
cancel_unset shape tree who q _ _ _ (RowStep.is_attached p kind tag cancelled m i) e = refl
cancel_unset shape tree who q _ _ _ (RowStep.is_cancelled reason j m h) e = ap not m
cancel_unset shape tree who q _ _ _ (RowStep.stays act x a b c d f) e = cc
cancel_unset shape tree who q _ _ _ other e = cc

-- ---- finish

end_lasts : Lasts (λ x. has_ended x ≡ true)
end_lasts = record {
  child = λ r j live h. h;
  start = λ j n h. absurd (new_not_ended j.state n h);
  body = λ v j h. ended_body j.state h;
  cancel = λ cause j c h. absurd (ended_not_cancellable j.state c h);
  finish = λ who end j m h. end_ends end;
  told = λ c j h. h;
  attached = λ h x. absurd (none h);
}
  where
    none : has_ended None ≡ true → ⊥
    none e = cc

finish_sets : (shape : Shape) (tree : Tree) (who q : ℕ) (act : JobAct) (x y : Option Job) → RowStep shape tree who q act x y
    → finishes q act ≡ true → has_ended y ≡ true
finish_sets shape tree who q _ _ _ (RowStep.ends end j m) e = end_ends end
finish_sets shape tree who q _ _ _ (RowStep.stays act x a b c d f) e = cc
finish_sets shape tree who q _ _ _ other e = cc

pub live_before : (s : JobState) (j : Job) (end : End) → end_of s j ≡ Some end → is_ended s ≡ false
live_before Completing j end e = refl
live_before Cancelling j end e = refl
live_before other j end e = cc

finish_unset : (shape : Shape) (tree : Tree) (who q : ℕ) (act : JobAct) (x y : Option Job) → RowStep shape tree who q act x y
    → finishes q act ≡ true → has_ended x ≡ false
finish_unset shape tree who q _ _ _ (RowStep.is_attached p kind tag cancelled m i) e = refl
finish_unset shape tree who q _ _ _ (RowStep.ends end j m) e = live_before j.state j end m.2
finish_unset shape tree who q _ _ _ (RowStep.stays act x a b c d f) e = cc
finish_unset shape tree who q _ _ _ other e = cc

-- ---- gone

told_lasts : (c : ℕ) → Lasts (λ x. was_told c x ≡ true)
told_lasts c = record {
  child = λ r j live h. h;
  start = λ j n h. h;
  body = λ v j h. h;
  cancel = λ cause j d h. h;
  finish = λ who end j m h. h;
  told = λ d j h. among_more c d j.told h;
  attached = λ h x. absurd (none h);
}
  where
    none : was_told c None ≡ true → ⊥
    none e = cc

told_kept : (shape : Shape) (tree : Tree) (who : ℕ) (act : JobAct) (r : ℕ) → Needs shape tree who act → (o : Option ℕ)
    → parent_of (tree r) ≡ o → was_told r (row_of tree o) ≡ true → was_told r (parent_row (after tree who act) r) ≡ true
told_kept shape tree who act r n None e h = cc
told_kept shape tree who act r n (Some p) e h =
    ap (λ o. was_told r (row_of (after tree who act) o)) (act_keeps _ (parent_lasts p) shape tree who act r n e)
    ∙ act_keeps _ (told_lasts r) shape tree who act p n h

told_now : (r : ℕ) (x : Option Job) → is_some x ≡ true → was_told r (option_map (with_told r) x) ≡ true
told_now r None e = cc
told_now r (Some j) e = among_last r j.told

pub listed_some : (r : ℕ) (x : Option Job) → is_among r (children_of x) ≡ true → is_some x ≡ true
listed_some r None e = cc
listed_some r (Some j) e = refl

pub finished_some : (who : ℕ) (x : Option Job) → IsFinishedBy who x → is_some x ≡ true
finished_some who None f = absurd f
finished_some who (Some j) f = refl

told_set : (shape : Shape) (tree : Tree) (who r : ℕ) → HasFamilies tree → Needs shape tree who (Gone r) → (o : Option ℕ)
    → parent_of (tree r) ≡ o → was_told r (parent_row (change_parent o (with_told r) tree) r) ≡ true
told_set shape tree who r h n None e = absurd (n.2 (h.root r (finished_some who (tree r) n.0) e))
told_set shape tree who r h n (Some p) e =
    let after_gone : change_parent (parent_of (tree r)) (with_told r) tree ≡ change_parent (Some p) (with_told r) tree =
    ap (λ o. change_parent o (with_told r) tree) e in
    let kept : parent_of (change_parent (Some p) (with_told r) tree r) ≡ Some p = ap (λ t. parent_of (t r)) (sym after_gone)
    ∙ act_keeps _ (parent_lasts p) shape tree who (Gone r) r n e in
    ap (λ o. was_told r (row_of (change_parent (Some p) (with_told r) tree) o)) kept
    ∙ ap (was_told r) (changed_here p (with_told r) tree)
    ∙ told_now r (tree p) (listed_some r (tree p) (h.listed p r e))

pub tell_mark : IsMark tells (λ tree r. was_told r (parent_row tree r))
tell_mark = record {
  kept = λ shape tree who act r n m. told_kept shape tree who act r n (parent_of (tree r)) refl m;
  sets = λ shape tree who act r h n e. sets_told shape tree who act r h n e;
  unset = λ shape tree who act r n e. unset_told shape tree who act r n e;
}
  where
    sets_told : (shape : Shape) (tree : Tree) (who : ℕ) (act : JobAct) (r : ℕ) → HasFamilies tree → Needs shape tree who act
        → tells r act ≡ true → was_told r (parent_row (after tree who act) r) ≡ true
    sets_told shape tree who (Gone q) r h n e =
        let k : r ≡ q = eqb-true r q e in
        subst (λ u. was_told r (parent_row (after tree who (Gone u)) r) ≡ true) k
        (told_set shape tree who r h (subst (λ u. Needs shape tree who (Gone u)) (sym k) n) (parent_of (tree r)) refl)
    sets_told shape tree who other r h n e = cc

    unset_told : (shape : Shape) (tree : Tree) (who : ℕ) (act : JobAct) (r : ℕ) → Needs shape tree who act → tells r act ≡ true
        → was_told r (parent_row tree r) ≡ false
    unset_told shape tree who (Gone q) r n e = subst (λ u. was_told u (parent_row tree u) ≡ false) (sym (eqb-true r q e)) n.1
    unset_told shape tree who other r n e = cc

-- ---- at most once

pub start_mark : IsMark starts (λ tree r. has_started (tree r))
start_mark = row_mark starts has_started (record { lasts = started_lasts; sets = start_sets; unset = start_unset })

pub body_mark : IsMark ends_body (λ tree r. has_ended_body (tree r))
body_mark = row_mark ends_body has_ended_body (record { lasts = bodiless_lasts; sets = body_sets; unset = body_unset })

pub cancel_mark : IsMark cancels (λ tree r. is_past_cancelling (tree r))
cancel_mark = row_mark cancels is_past_cancelling (record { lasts = past_lasts; sets = cancel_sets; unset = cancel_unset })

pub finish_mark : IsMark finishes (λ tree r. has_ended (tree r))
finish_mark = row_mark finishes has_ended (record { lasts = end_lasts; sets = finish_sets; unset = finish_unset })

pub each_once : (shape : Shape) (history : List JobEntry) (r : ℕ) → Legal shape history → OncePerRow r history
each_once shape history r l = record {
  attach = at_most_once attaches _ attach_mark shape start history r start_families l;
  start = at_most_once starts _ start_mark shape start history r start_families l;
  body = at_most_once ends_body _ body_mark shape start history r start_families l;
  cancel = at_most_once cancels _ cancel_mark shape start history r start_families l;
  finish = at_most_once finishes _ finish_mark shape start history r start_families l;
  gone = at_most_once tells _ tell_mark shape start history r start_families l;
}
