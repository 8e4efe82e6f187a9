-- What no act takes away from a row.
use Rattle.std.specs.Prelude.{◌≡◌, ℕ, true, false, List, [], ◌∷◌, Option, Some, None, is_some, refl}
use Rattle.std.proofs.Common.{sym, ap, ◌∙◌}
use Rattle.job_model.specs.declared.acts.JobState.{JobState}
use Rattle.job_model.specs.declared.acts.JobState.TheVariants.{New, Active, Cancelled, Completed}
use Rattle.job_model.specs.declared.acts.Cause.{Cause}
use Rattle.job_model.specs.declared.acts.End.{End}
use Rattle.job_model.specs.declared.acts.End.TheVariants as ends
use Rattle.job_model.specs.declared.acts.JobAct.{JobAct}
use Rattle.job_model.specs.declared.acts.JobEntry.{JobEntry}
use Rattle.job_model.specs.Trees.{Shape, Job, Tree, parent_of, tag_of, is_among, is_new, is_ended, is_cancellable}
use Rattle.job_model.specs.Effects.{after, with_child, started, without_body, state_after_body, cancelled_for, ended_by, with_told, state_of_end}
use Rattle.job_model.specs.Needs.{Needs, MayFinish}
use Rattle.job_model.specs.Families.{IsEnded, children_of}
use Rattle.job_model.specs.Histories.{replay_from, LegalFrom}
use Rattle.job_model.specs.Answers.{IsNotNew}
use Rattle.job_model.proofs.Steps.{RowStep, row_step}
use Rattle.job_model.proofs.Rows.{among_more}

-- a fact of an attached row that no change of the row takes away
pub record Lasts (P : Option Job → Type 0) : Type 0 where
  pub child : (r : ℕ) (j : Job) → is_ended j.state ≡ false → P (Some j) → P (Some (with_child r j))
  pub start : (j : Job) → j.state ≡ New → P (Some j) → P (Some (started j))
  pub body : (v : ℕ) (j : Job) → P (Some j) → P (Some (without_body v j))
  pub cancel : (cause : Cause) (j : Job) → is_cancellable j.state ≡ true → P (Some j) → P (Some (cancelled_for cause j))
  pub finish : (who : ℕ) (end : End) (j : Job) → MayFinish end (Some j) → P (Some j) → P (Some (ended_by who end j))
  pub told : (c : ℕ) (j : Job) → P (Some j) → P (Some (with_told c j))
  pub attached : P None → (x : Option Job) → P x

pub step_keeps : (P : Option Job → Type 0) → Lasts P → (shape : Shape) (tree : Tree) (who q : ℕ) (act : JobAct) (x y : Option Job)
    → RowStep shape tree who q act x y → P x → P y
step_keeps P k shape tree who q _ _ _ (RowStep.is_attached p kind tag cancelled m i) h = k.attached h _
step_keeps P k shape tree who q _ _ _ (RowStep.has_child r kind tag cancelled j none m) h = k.child r j m.0 h
step_keeps P k shape tree who q _ _ _ (RowStep.is_started j n) h = k.start j n h
step_keeps P k shape tree who q _ _ _ (RowStep.body_ends v j m) h = k.body v j h
step_keeps P k shape tree who q _ _ _ (RowStep.is_cancelled reason j m o) h = k.cancel _ j m h
step_keeps P k shape tree who q _ _ _ (RowStep.ends end j m) h = k.finish who end j m h
step_keeps P k shape tree who q _ _ _ (RowStep.is_told c j m p) h = k.told c j h
step_keeps P k shape tree who q _ _ _ (RowStep.stays act x a b c d f) h = h

-- what lasts is kept by every act, and by every history that goes on
pub act_keeps : (P : Option Job → Type 0) → Lasts P → (shape : Shape) (tree : Tree) (who : ℕ) (act : JobAct) (q : ℕ)
    → Needs shape tree who act → P (tree q) → P (after tree who act q)
act_keeps P k shape tree who act q n h = step_keeps P k shape tree who q act (tree q) (after tree who act q)
    (row_step shape tree who act q n) h

pub history_keeps : (P : Option Job → Type 0) → Lasts P → (shape : Shape) (tree : Tree) (es : List JobEntry) (q : ℕ)
    → LegalFrom shape tree es → P (tree q) → P (replay_from tree es q)
unfolding LegalFrom replay_from
history_keeps P k shape tree [] q l h = h
history_keeps P k shape tree (e ∷ es) q l h = history_keeps P k shape (after tree e.who e.act) es q l.1
    (act_keeps P k shape tree e.who e.act q l.0 h)

-- ---- facts that last

-- its tag
pub tag_lasts : (t : ℕ) → Lasts (λ x. tag_of x ≡ Some t)
tag_lasts t = record {
  child = λ r j live h. h;
  start = λ j n h. h;
  body = λ v j h. h;
  cancel = λ cause j c h. h;
  finish = λ who end j m h. h;
  told = λ c j h. h;
  attached = λ h x. absurd (no_tag h);
}
  where
    no_tag : tag_of None ≡ Some t → ⊥
    no_tag e = cc

none_ended : IsEnded None → (x : Option Job) → IsEnded x
none_ended h x = absurd h

pub ended_body : (s : JobState) → is_ended s ≡ true → is_ended (state_after_body s) ≡ true
ended_body Cancelled e = refl
ended_body Completed e = refl
ended_body other e = cc

pub ended_not_cancellable : (s : JobState) → is_cancellable s ≡ true → is_ended s ≡ true → ⊥
ended_not_cancellable New c e = cc
ended_not_cancellable other c e = cc

pub new_not_ended : (s : JobState) → s ≡ New → is_ended s ≡ true → ⊥
new_not_ended s e f = let k : is_ended New ≡ true = ap is_ended (sym e) ∙ f in cc

pub end_ends : (end : End) → is_ended (state_of_end end) ≡ true
end_ends (ends.Completed v) = refl
end_ends (ends.Cancelled cause) = refl

-- an ended Job stays ended
pub ended_lasts : Lasts IsEnded
ended_lasts = record {
  child = λ r j live h. h;
  start = λ j n h. absurd (new_not_ended j.state n h);
  body = λ v j h. ended_body j.state h;
  cancel = λ cause j c h. absurd (ended_not_cancellable j.state c h);
  finish = λ who end j m h. end_ends end;
  told = λ c j h. h;
  attached = none_ended;
}

-- a Job that is not New never is
past_start : (s : JobState) → is_new s ≡ false → is_new (state_after_body s) ≡ false
past_start New e = cc
past_start Active e = refl
past_start other e = refl

end_not_new : (end : End) → is_new (state_of_end end) ≡ false
end_not_new (ends.Completed v) = refl
end_not_new (ends.Cancelled cause) = refl

pub not_new_lasts : Lasts IsNotNew
not_new_lasts = record {
  child = λ r j live h. h;
  start = λ j n h. refl;
  body = λ v j h. past_start j.state h;
  cancel = λ cause j c h. refl;
  finish = λ who end j m h. end_not_new end;
  told = λ c j h. h;
  attached = λ h x. absurd h;
}

-- an attached row stays attached
abbrev IsAttached : Option Job → Type 0
IsAttached x = is_some x ≡ true

pub attached_lasts : Lasts IsAttached
attached_lasts = record {
  child = λ r j live h. refl;
  start = λ j n h. refl;
  body = λ v j h. refl;
  cancel = λ cause j c h. refl;
  finish = λ who end j m h. refl;
  told = λ c j h. refl;
  attached = λ h x. absurd (no_none h);
}
  where
    no_none : IsAttached None → ⊥
    no_none e = cc

-- a child keeps its parent
pub parent_lasts : (p : ℕ) → Lasts (λ x. parent_of x ≡ Some p)
parent_lasts p = record {
  child = λ r j live h. h;
  start = λ j n h. h;
  body = λ v j h. h;
  cancel = λ cause j c h. h;
  finish = λ who end j m h. h;
  told = λ c j h. h;
  attached = λ h x. absurd (no_parent h);
}
  where
    no_parent : parent_of None ≡ Some p → ⊥
    no_parent e = cc

-- a child stays in its parent's list
pub listed_lasts : (c : ℕ) → Lasts (λ x. is_among c (children_of x) ≡ true)
listed_lasts c = record {
  child = λ r j live h. among_more c r j.children h;
  start = λ j n h. h;
  body = λ v j h. h;
  cancel = λ cause j d h. h;
  finish = λ who end j m h. h;
  told = λ d j h. h;
  attached = λ h x. absurd (no_child h);
}
  where
    no_child : is_among c [] ≡ true → ⊥
    no_child e = cc
