-- States go forward.
use Rattle.std.specs.Prelude.{◌≡◌, ℕ, true, List, [], ◌∷◌, ◌++◌, Option, Some, None, refl}
use Rattle.std.proofs.Common.{sym, ap, ◌∙◌, subst}
use Rattle.job_model.specs.declared.acts.JobState.{JobState}
use Rattle.job_model.specs.declared.acts.JobState.TheVariants.{New, Active, Completing, Cancelling, Cancelled, Completed}
use Rattle.job_model.specs.declared.acts.End.{End}
use Rattle.job_model.specs.declared.acts.End.TheVariants as ends
use Rattle.job_model.specs.declared.acts.JobAct.{JobAct}
use Rattle.job_model.specs.declared.acts.JobEntry.{JobEntry}
use Rattle.job_model.specs.Trees.{Shape, Job, Tree, is_ended, is_cancellable, state_of}
use Rattle.job_model.specs.Effects.{after, state_after_body, state_of_end}
use Rattle.job_model.specs.Needs.{end_of}
use Rattle.job_model.specs.Histories.{replay, replay_from, Legal, LegalFrom}
use Rattle.job_model.specs.Families.{IsEnded}
use Rattle.job_model.specs.Laws.{is_step, GoesTo, RowGoesTo}
use Rattle.job_model.proofs.Steps.{RowStep, row_step}
use Rattle.job_model.proofs.Histories.{replay-append, Legal-append}

goes_through : (s t u : JobState) → GoesTo s t → GoesTo t u → GoesTo s u
goes_through s t _ g GoesTo.stays = g
goes_through s t _ g (GoesTo.goes_on v w h e) = GoesTo.goes_on v w (goes_through s t v g h) e

goes_once : (s t : JobState) → is_step s t ≡ true → GoesTo s t
goes_once s t e = GoesTo.goes_on s t GoesTo.stays e

body_goes : (s : JobState) → GoesTo s (state_after_body s)
body_goes New = GoesTo.stays
body_goes Active = goes_once Active Completing refl
body_goes Completing = GoesTo.stays
body_goes other = GoesTo.stays

cancel_goes : (s : JobState) → is_cancellable s ≡ true → GoesTo s Cancelling
cancel_goes New e = goes_once New Cancelling refl
cancel_goes Active e = goes_once Active Cancelling refl
cancel_goes Completing e = goes_once Completing Cancelling refl
cancel_goes other e = cc

end_goes : (s : JobState) (j : Job) (end : End) → end_of s j ≡ Some end → GoesTo s (state_of_end end)
end_goes Completing j end e = let k : ends.Completed j.value ≡ end = cc
    in subst (λ x. GoesTo Completing (state_of_end x)) k (goes_once Completing Completed refl)
end_goes Cancelling j end e = let k : ends.Cancelled j.cause ≡ end = cc
    in subst (λ x. GoesTo Cancelling (state_of_end x)) k (goes_once Cancelling Cancelled refl)
end_goes other j end e = cc

step_goes : (shape : Shape) (tree : Tree) (who q : ℕ) (act : JobAct) (x y : Option Job) → RowStep shape tree who q act x y → RowGoesTo x y
step_goes shape tree who q _ _ _ (RowStep.is_attached p kind tag cancelled m i) = tt
step_goes shape tree who q _ _ _ (RowStep.is_started j n) = subst (λ s. GoesTo s Active) (sym n) (goes_once New Active refl)
step_goes shape tree who q _ _ _ (RowStep.body_ends v j m) = body_goes j.state
step_goes shape tree who q _ _ _ (RowStep.is_cancelled reason j m h) = cancel_goes j.state m
step_goes shape tree who q _ _ _ (RowStep.ends end j m) = end_goes j.state j end m.2
step_goes shape tree who q _ _ _ (RowStep.stays act x a b c d f) = no_change x
  where
    no_change : (x : Option Job) → RowGoesTo x x
    no_change None = tt
    no_change (Some j) = GoesTo.stays
step_goes shape tree who q _ _ _ other = GoesTo.stays

row_goes_through : (x y z : Option Job) → RowGoesTo x y → RowGoesTo y z → RowGoesTo x z
row_goes_through None y z g h = tt
row_goes_through (Some j) None z g h = absurd g
row_goes_through (Some j) (Some k) None g h = h
row_goes_through (Some j) (Some k) (Some l) g h = goes_through j.state k.state l.state g h

no_history : (x : Option Job) → RowGoesTo x x
no_history None = tt
no_history (Some j) = GoesTo.stays

goes_from : (shape : Shape) (tree : Tree) (es : List JobEntry) (r : ℕ) → LegalFrom shape tree es
    → RowGoesTo (tree r) (replay_from tree es r)
unfolding LegalFrom replay_from
goes_from shape tree [] r l = no_history (tree r)
goes_from shape tree (e ∷ es) r l = row_goes_through (tree r) (after tree e.who e.act r) _
    (step_goes shape tree e.who r e.act _ _ (row_step shape tree e.who e.act r l.0)) (goes_from shape (after tree e.who e.act) es r l.1)

pub states_go_on : (shape : Shape) (xs ys : List JobEntry) (r : ℕ) → Legal shape (xs ++ ys) → RowGoesTo (replay xs r) (replay (xs ++ ys) r)
states_go_on shape xs ys r l = subst (λ (t : Tree). RowGoesTo (replay xs r) (t r)) (sym (replay-append xs ys))
    (goes_from shape (replay xs) ys r ((Legal-append shape xs ys).0 l).1)

-- ---- the two final states

from_ended : (s t : JobState) → is_ended s ≡ true → is_step s t ≡ true → ⊥
from_ended New t e f = cc
from_ended other t e f = cc

ended_goes : (s t : JobState) → GoesTo s t → is_ended s ≡ true → t ≡ s
ended_goes s _ GoesTo.stays e = refl
ended_goes s _ (GoesTo.goes_on v w h f) e = absurd (from_ended v w (ap is_ended (ended_goes s v h e) ∙ e) f)

ended_row : (x y : Option Job) → RowGoesTo x y → IsEnded x → state_of y ≡ state_of x
ended_row None y g e = absurd e
ended_row (Some j) None g e = absurd g
ended_row (Some j) (Some k) g e = ap (λ s. Some s) (ended_goes j.state k.state g e)

pub ended_stays : (shape : Shape) (xs ys : List JobEntry) (r : ℕ) → Legal shape (xs ++ ys) → IsEnded (replay xs r)
    → state_of (replay (xs ++ ys) r) ≡ state_of (replay xs r)
ended_stays shape xs ys r l e = ended_row (replay xs r) (replay (xs ++ ys) r) (states_go_on shape xs ys r l) e
