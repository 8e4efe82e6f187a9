-- Every act keeps each row sound.
use Rattle.std.specs.Prelude.{◌≡◌, ℕ, Bool, true, false, Option, Some, None, is_some, refl}
use Rattle.std.proofs.Common.{sym, ap, ◌∙◌}
use Rattle.job_model.specs.declared.acts.JobState.{JobState}
use Rattle.job_model.specs.declared.acts.JobState.TheVariants.{New, Completing, Cancelling, Cancelled, Completed}
use Rattle.job_model.specs.declared.acts.Cause.{Cause}
use Rattle.job_model.specs.declared.acts.Cause.TheVariants as because
use Rattle.job_model.specs.declared.acts.Reason.{Reason}
use Rattle.job_model.specs.declared.acts.Reason.TheVariants as reasons
use Rattle.job_model.specs.declared.acts.End.{End}
use Rattle.job_model.specs.declared.acts.End.TheVariants as ends
use Rattle.job_model.specs.declared.acts.JobAct.{JobAct}
use Rattle.job_model.specs.Trees.{Shape, Job, Tree, is_new, is_ended, is_cancelled, is_cancellable, is_failure}
use Rattle.job_model.specs.Effects.{state_after_body, first_state, first_cause, cause_of, cause_of_reason, state_of_end}
use Rattle.job_model.specs.Needs.{IsFailedChild, Holds, end_of}
use Rattle.job_model.specs.Laws.{is_cause, is_running, is_bodiless, IsSoundRow}
use Rattle.job_model.proofs.Steps.{RowStep}
use Rattle.job_model.proofs.Rows.{none_left_of_less, not_among_more}

sound_child : (cancelled lazy : Bool) → false ≡ is_ended (first_state cancelled lazy)
sound_child true lazy = refl
sound_child false true = refl
sound_child false false = refl

finisher_is : (who : ℕ) (end : End) → is_some (Some who) ≡ is_ended (state_of_end end)
finisher_is who (ends.Completed v) = refl
finisher_is who (ends.Cancelled cause) = refl

body_ended_is : (s : JobState) → is_ended s ≡ is_ended (state_after_body s)
body_ended_is New = refl
body_ended_is other = refl

pub not_ended : (s : JobState) → is_cancellable s ≡ true → is_ended s ≡ false
not_ended Cancelling e = cc
not_ended Cancelled e = cc
not_ended Completed e = cc
not_ended other e = refl

not_running : (s : JobState) → is_new s ≡ false → is_running (state_after_body s) ≡ true → ⊥
not_running New n e = cc
not_running other n e = cc

first_running : (cancelled lazy : Bool) → is_bodiless (first_state cancelled lazy) ≡ true → ⊥
first_running true lazy e = cc
first_running false true e = cc
first_running false false e = cc

end_not_running : (end : End) → is_running (state_of_end end) ≡ true → ⊥
end_not_running (ends.Completed v) e = cc
end_not_running (ends.Cancelled cause) e = cc

first_caused : (cancelled lazy : Bool) → is_cause (first_cause cancelled) ≡ is_cancelled (first_state cancelled lazy)
first_caused true lazy = refl
first_caused false true = refl
first_caused false false = refl

pub failure_is_cause : (c : Cause) → is_failure c ≡ true → is_cause c ≡ true
failure_is_cause (because.Failure f) e = refl
failure_is_cause other e = cc

child_cause : (q : ℕ) (x : Option Job) → IsFailedChild q x → is_cause (cause_of x) ≡ true
child_cause q None h = absurd h
child_cause q (Some j) h = failure_is_cause j.cause h.1

-- each reason gives a cause
reason_caused : (shape : Shape) (tree : Tree) (who q : ℕ) (reason : Reason) → Holds shape tree who q reason
    → is_cause (cause_of_reason tree reason) ≡ true
reason_caused shape tree who q (reasons.Child c) h = child_cause q (tree c) h.0
reason_caused shape tree who q other h = refl

pub body_cancelled : (s : JobState) → is_cancelled s ≡ is_cancelled (state_after_body s)
body_cancelled New = refl
body_cancelled other = refl

pub end_cancelled : (s : JobState) (j : Job) (end : End) → end_of s j ≡ Some end → is_cancelled s ≡ is_cancelled (state_of_end end)
end_cancelled Completing j end e = let k : ends.Completed j.value ≡ end = cc in ap (λ x. is_cancelled (state_of_end x)) k
end_cancelled Cancelling j end e = let k : ends.Cancelled j.cause ≡ end = cc in ap (λ x. is_cancelled (state_of_end x)) k
end_cancelled other j end e = cc

pub step_sound : (shape : Shape) (tree : Tree) (who q : ℕ) (act : JobAct) (x y : Option Job) → RowStep shape tree who q act x y
    → IsSoundRow x → IsSoundRow y
step_sound shape tree who q _ _ _ (RowStep.is_attached p kind tag cancelled m i) h =
    record {
      finished = sound_child cancelled kind.lazy;
      running = λ f. refl;
      bodiless = λ f. absurd (first_running cancelled kind.lazy f);
      childless = λ f. refl;
      caused = first_caused cancelled kind.lazy;
    }
step_sound shape tree who q _ _ _ (RowStep.has_child r kind tag cancelled j none m) h =
    record {
      finished = h.finished;
      running = h.running;
      bodiless = h.bodiless;
      childless =
          λ f. absurd (let k : false ≡ true = sym m.0 ∙ f in cc);
      caused = h.caused;
    }
step_sound shape tree who q _ _ _ (RowStep.is_started j n) h =
    let e : is_ended j.state ≡ false = ap is_ended n in
    record {
      finished = h.finished ∙ e;
      running = λ f. h.running (ap is_running n);
      bodiless = λ f. cc;
      childless = λ f. cc;
      caused =
          h.caused ∙ ap is_cancelled n;
    }
step_sound shape tree who q _ _ _ (RowStep.body_ends v j m) h =
    record {
      finished = h.finished ∙ body_ended_is j.state;
      running = λ f. absurd (not_running j.state m.1 f);
      bodiless = λ f. refl;
      childless = λ f. h.childless (body_ended_is j.state ∙ f);
      caused = h.caused ∙ body_cancelled j.state;
    }
step_sound shape tree who q _ _ _ (RowStep.is_cancelled reason j m o) h =
    record {
      finished = h.finished ∙ not_ended j.state m;
      running = λ f. cc;
      bodiless = λ f. cc;
      childless = λ f. cc;
      caused =
          reason_caused shape tree who q reason o;
    }
step_sound shape tree who q _ _ _ (RowStep.ends end j m) h =
    record {
      finished = finisher_is who end;
      running = λ f. absurd (end_not_running end f);
      bodiless = λ f. m.0;
      childless = λ f. m.1;
      caused = h.caused ∙ end_cancelled j.state j end m.2;
    }
step_sound shape tree who q _ _ _ (RowStep.is_told c j m p) h =
    record {
      finished = h.finished;
      running = h.running;
      bodiless = h.bodiless;
      childless =
          λ f. none_left_of_less _ _ j.children (λ d. not_among_more d c j.told) (h.childless f);
      caused = h.caused;
    }
step_sound shape tree who q _ _ _ (RowStep.stays act x a b c d f) h = h
