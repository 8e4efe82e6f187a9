-- A Job keeps the cause that it was given first.
use Rattle.std.specs.Prelude.{◌≡◌, ℕ, ◌==◌, Bool, true, false, List, [], ◌∷◌, Option, Some, None, if◌then◌else◌, refl}
use Rattle.std.specs.Option.{option_or}
use Rattle.std.proofs.Common.{sym, ap, ◌∙◌}
use Rattle.std.proofs.lemmas.Bool.{eqb-true}
use Rattle.job_model.specs.declared.acts.JobState.{JobState}
use Rattle.job_model.specs.declared.acts.JobState.TheVariants.{New, Active, Completing, Cancelling, Cancelled, Completed}
use Rattle.job_model.specs.declared.acts.Cause.{Cause}
use Rattle.job_model.specs.declared.acts.Cause.TheVariants as because
use Rattle.job_model.specs.declared.acts.End.{End}
use Rattle.job_model.specs.declared.acts.End.TheVariants as ends
use Rattle.job_model.specs.declared.acts.JobAct.{JobAct}
use Rattle.job_model.specs.declared.acts.JobAct.TheVariants.{Attach, Cancel}
use Rattle.job_model.specs.declared.acts.JobEntry.{JobEntry}
use Rattle.job_model.specs.Trees.{Shape, Job, Tree, start, is_cancelled, is_cancellable}
use Rattle.job_model.specs.Acts.{attaches, cancels}
use Rattle.job_model.specs.Effects.{after, first_state, first_cause, state_after_body, state_of_end, cause_of_reason}
use Rattle.job_model.specs.Needs.{end_of}
use Rattle.job_model.specs.Histories.{replay, replay_from, Legal, LegalFrom}
use Rattle.job_model.specs.Laws.{cause_given, cause_given_from, cause_given_in, cause_kept}
use Rattle.job_model.proofs.Steps.{RowStep, row_step}
use Rattle.job_model.proofs.Rows.{same}
use Rattle.job_model.proofs.Families.{at_start}

first_given : (cancelled lazy : Bool) → (if is_cancelled (first_state cancelled lazy) then Some (first_cause cancelled) else None) ≡
    (if cancelled then Some because.Request else None)
first_given true lazy = refl
first_given false true = refl
first_given false false = refl

body_keeps : (s : JobState) → is_cancelled (state_after_body s) ≡ is_cancelled s
body_keeps New = refl
body_keeps other = refl

not_cancelled : (s : JobState) → is_cancellable s ≡ true → is_cancelled s ≡ false
not_cancelled Cancelling e = cc
not_cancelled Cancelled e = cc
not_cancelled Completed e = cc
not_cancelled other e = refl

end_keeps : (s : JobState) (j : Job) (end : End) → end_of s j ≡ Some end → is_cancelled (state_of_end end) ≡ is_cancelled s
end_keeps Completing j end e = let k : ends.Completed j.value ≡ end = cc in ap (λ x. is_cancelled (state_of_end x)) (sym k)
end_keeps Cancelling j end e = let k : ends.Cancelled j.cause ≡ end = cc in ap (λ x. is_cancelled (state_of_end x)) (sym k)
end_keeps other j end e = cc

or_none : (x : Option Cause) → x ≡ option_or x None
or_none None = refl
or_none (Some c) = refl

keeps_state : (b c : Bool) (cause : Cause) → b ≡ c → (if b then Some cause else None) ≡ option_or (if c then Some cause else None) None
keeps_state b c cause e = ap (λ d. if d then Some cause else None) e ∙ or_none (if c then Some cause else None)

nothing_given : (q : ℕ) (tree : Tree) (act : JobAct) → attaches q act ≡ false → cancels q act ≡ false → cause_given q tree act ≡ None
nothing_given q tree (Attach p r kind tag cancelled) a c =
    ap (λ b. if b then (if cancelled then Some because.Request else None) else None) a
nothing_given q tree (Cancel r reason) a c = ap (λ b. if b then Some (cause_of_reason tree reason) else None) c
nothing_given q tree other a c = refl

-- the new child is another row
other_row : (tree : Tree) (q r : ℕ) (j : Job) → tree q ≡ Some j → tree r ≡ None → (q == r) ≡ false
other_row tree q r j e none = by_test (q == r) refl
  where
    by_test : (b : Bool) → (q == r) ≡ b → (q == r) ≡ false
    by_test true k = absurd (let m : Some j ≡ None = sym e ∙ ap tree (eqb-true q r k) ∙ none in cc)
    by_test false k = k

step_cause : (shape : Shape) (tree : Tree) (who q : ℕ) (act : JobAct) (x y : Option Job) → tree q ≡ x → RowStep shape tree who q act x y
    → cause_kept y ≡ option_or (cause_kept x) (cause_given q tree act)
step_cause shape tree who q _ _ _ at (RowStep.is_attached p kind tag cancelled m i) =
    first_given cancelled kind.lazy ∙ sym (ap (λ b. if b then (if cancelled then Some because.Request else None) else None) (same q))
step_cause shape tree who q _ _ _ at (RowStep.has_child r kind tag cancelled j none m) =
    or_none (cause_kept (Some j))
    ∙ sym (ap (λ b. option_or (cause_kept (Some j)) (if b then (if cancelled then Some because.Request else None) else None))
    (other_row tree q r j at none))
step_cause shape tree who q _ _ _ at (RowStep.is_started j n) =
    keeps_state (is_cancelled Active) (is_cancelled j.state) j.cause (sym (ap is_cancelled n))
step_cause shape tree who q _ _ _ at (RowStep.body_ends v j m) =
    keeps_state (is_cancelled (state_after_body j.state)) (is_cancelled j.state) j.cause (body_keeps j.state)
step_cause shape tree who q _ _ _ at (RowStep.is_cancelled reason j m h) =
    sym (ap (λ b. option_or (if b then Some j.cause else None) (if q == q then Some (cause_of_reason tree reason) else None))
    (not_cancelled j.state m)
    ∙ ap (λ b. if b then Some (cause_of_reason tree reason) else None) (same q))
step_cause shape tree who q _ _ _ at (RowStep.ends end j m) =
    keeps_state (is_cancelled (state_of_end end)) (is_cancelled j.state) j.cause (end_keeps j.state j end m.2)
step_cause shape tree who q _ _ _ at (RowStep.is_told d j m p) = or_none (cause_kept (Some j))
step_cause shape tree who q _ _ _ at (RowStep.stays act x a b c d f) = or_none (cause_kept x)
    ∙ sym (ap (option_or (cause_kept x)) (nothing_given q tree act a d))

or_assoc : (x y z : Option Cause) → option_or x (option_or y z) ≡ option_or (option_or x y) z
or_assoc None y z = refl
or_assoc (Some c) y z = refl

cause_from : (shape : Shape) (tree : Tree) (es : List JobEntry) (r : ℕ) → LegalFrom shape tree es
    → cause_kept (replay_from tree es r) ≡ option_or (cause_kept (tree r)) (cause_given_from r tree es)
unfolding LegalFrom replay_from cause_given_from
cause_from shape tree [] r l = or_none (cause_kept (tree r))
cause_from shape tree (e ∷ es) r l =
    cause_from shape (after tree e.who e.act) es r l.1
    ∙ ap (λ x. option_or x (cause_given_from r (after tree e.who e.act) es))
    (step_cause shape tree e.who r e.act _ _ refl (row_step shape tree e.who e.act r l.0))
    ∙ sym (or_assoc (cause_kept (tree r)) (cause_given r tree e.act) (cause_given_from r (after tree e.who e.act) es))

start_cause : (r : ℕ) → cause_kept (start r) ≡ None
start_cause r = at_start (λ x. cause_kept x ≡ None) refl refl r

pub cause_is_first : (shape : Shape) (history : List JobEntry) (r : ℕ) → Legal shape history
    → cause_kept (replay history r) ≡ cause_given_in r history
cause_is_first shape history r l = cause_from shape start history r l
    ∙ ap (λ x. option_or x (cause_given_from r start history)) (start_cause r)
