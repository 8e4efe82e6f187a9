-- A Job has a value in Completing and Completed alone.
use Rattle.std.specs.Prelude.{◌≡◌, ℕ, false, List, [], ◌∷◌, Option, Some, refl}
use Rattle.std.proofs.Common.{sym, ap, ◌∙◌}
use Rattle.job_model.specs.declared.acts.JobState.{JobState}
use Rattle.job_model.specs.declared.acts.JobState.TheVariants.{Active, Completing, Cancelling, Cancelled, Completed}
use Rattle.job_model.specs.declared.acts.End.{End}
use Rattle.job_model.specs.declared.acts.End.TheVariants as ends
use Rattle.job_model.specs.declared.acts.JobAct.{JobAct}
use Rattle.job_model.specs.declared.acts.JobEntry.{JobEntry}
use Rattle.job_model.specs.Trees.{Shape, Job, Tree, start}
use Rattle.job_model.specs.Effects.{after, state_after_body, value_after_body, state_of_end}
use Rattle.job_model.specs.Needs.{end_of}
use Rattle.job_model.specs.Histories.{replay, replay_from, Legal, LegalFrom}
use Rattle.job_model.specs.Laws.{has_result, HasNoOtherValue}
use Rattle.job_model.proofs.Steps.{RowStep, row_step}
use Rattle.job_model.proofs.Families.{at_start}

body_value : (s : JobState) (v x : ℕ) → (has_result s ≡ false → x ≡ 0) → has_result (state_after_body s) ≡ false
    → value_after_body s v x ≡ 0
body_value Active v x h e = cc
body_value Completing v x h e = cc
body_value Completed v x h e = cc
body_value other v x h e = h e

end_value : (s : JobState) (j : Job) (end : End) → end_of s j ≡ Some end → has_result (state_of_end end) ≡ has_result s
end_value Completing j end e = let k : ends.Completed j.value ≡ end = cc in ap (λ x. has_result (state_of_end x)) (sym k)
end_value Cancelling j end e = let k : ends.Cancelled j.cause ≡ end = cc in ap (λ x. has_result (state_of_end x)) (sym k)
end_value other j end e = cc

step_value : (shape : Shape) (tree : Tree) (who q : ℕ) (act : JobAct) (x y : Option Job) → RowStep shape tree who q act x y
    → HasNoOtherValue x → HasNoOtherValue y
step_value shape tree who q _ _ _ (RowStep.is_attached p kind tag cancelled m i) h = λ e. refl
step_value shape tree who q _ _ _ (RowStep.is_started j n) h = λ e. h (ap has_result n)
step_value shape tree who q _ _ _ (RowStep.body_ends v j m) h = λ e. body_value j.state v j.value h e
step_value shape tree who q _ _ _ (RowStep.is_cancelled reason j m o) h = λ e. refl
step_value shape tree who q _ _ _ (RowStep.ends end j m) h = λ e. h (sym (end_value j.state j end m.2) ∙ e)
step_value shape tree who q _ _ _ other h = h

value_from : (shape : Shape) (tree : Tree) (es : List JobEntry) (r : ℕ) → LegalFrom shape tree es → HasNoOtherValue (tree r)
    → HasNoOtherValue (replay_from tree es r)
unfolding LegalFrom replay_from
value_from shape tree [] r l h = h
value_from shape tree (e ∷ es) r l h = value_from shape (after tree e.who e.act) es r l.1
    (step_value shape tree e.who r e.act _ _ (row_step shape tree e.who e.act r l.0) h)

pub no_other_value : (shape : Shape) (history : List JobEntry) (r : ℕ) → Legal shape history → HasNoOtherValue (replay history r)
no_other_value shape history r l = value_from shape start history r l (at_start HasNoOtherValue (λ e. refl) tt r)
