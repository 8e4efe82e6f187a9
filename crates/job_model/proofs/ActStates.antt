-- What each act makes of the state of its Job.
use Rattle.std.specs.Prelude.{◌≡◌, ◌≢◌, ℕ, ◌==◌, Bool, true, false, List, [], ◌∷◌, ◌++◌, Option, Some, None, option_map, if◌then◌else◌, refl}
use Rattle.std.proofs.Common.{sym, ap, ◌∙◌, subst}
use Rattle.std.proofs.lemmas.Bool.{eqb-true}
use Rattle.job_model.specs.declared.acts.JobState.{JobState}
use Rattle.job_model.specs.declared.acts.JobState.TheVariants.{New, Active, Completing, Cancelling, Cancelled, Completed}
use Rattle.job_model.specs.declared.acts.End.{End}
use Rattle.job_model.specs.declared.acts.End.TheVariants as ends
use Rattle.job_model.specs.declared.acts.Cause.{Cause}
use Rattle.job_model.specs.declared.acts.Reason.{Reason}
use Rattle.job_model.specs.declared.acts.JobAct.{JobAct}
use Rattle.job_model.specs.declared.acts.JobAct.TheVariants.{Attach, Start, EndBody, Cancel, Finish, Gone}
use Rattle.job_model.specs.declared.acts.JobEntry.{JobEntry}
use Rattle.job_model.specs.Trees.{Shape, Job, Tree, is_new, state_of, parent_of}
use Rattle.job_model.specs.Effects.{after, change, change_parent, new_child, started, without_body, cancelled_for, cause_of_reason, ended_by, with_told, with_child, state_after_body, state_of_end}
use Rattle.job_model.specs.Needs.{Needs, MayEndBody, MayBeCancelled, MayFinish, end_of}
use Rattle.job_model.specs.Families.{IsEnded}
use Rattle.job_model.specs.Histories.{replay, Legal}
use Rattle.job_model.specs.Laws.{IsSoundRow, is_bodiless, row_of_act, EndsBodyFrom, FinishesFrom, ActTakes, HasFamilies}
use Rattle.job_model.proofs.Histories.{replay_push, Legal-last}
use Rattle.job_model.proofs.Families.{attached_now, changed_here, finished_ended, replay_families}

body_goes : (s : JobState) → is_new s ≡ false → (is_bodiless s ≡ true → true ≡ false) → EndsBodyFrom s (state_after_body s)
body_goes New n b = cc
body_goes Active n b = refl
body_goes Cancelling n b = refl
body_goes other n b = let k : true ≡ false = b refl in cc

end_goes : (s : JobState) (j : Job) (end : End) → end_of s j ≡ Some end → FinishesFrom end s (state_of_end end)
end_goes Completing j end e = let k : ends.Completed j.value ≡ end = cc
    in subst (λ x. FinishesFrom x Completing (state_of_end x)) k (refl, refl)
end_goes Cancelling j end e = let k : ends.Cancelled j.cause ≡ end = cc
    in subst (λ x. FinishesFrom x Cancelling (state_of_end x)) k (refl, refl)
end_goes other j end e = cc

start_takes : (r : ℕ) (x : Option Job) → state_of x ≡ Some New → ActTakes (Start r) (state_of x) (state_of (option_map started x))
start_takes r None e = cc
start_takes r (Some j) e = (let k : j.state ≡ New = cc in k, refl)

body_takes : (who r v : ℕ) (x : Option Job) → MayEndBody who x → IsSoundRow x
    → ActTakes (EndBody r v) (state_of x) (state_of (option_map (without_body v) x))
body_takes who r v None m s = absurd m
body_takes who r v (Some j) m s = body_goes j.state m.1 (λ b. sym (s.bodiless b) ∙ m.2)

cancel_takes : (r : ℕ) (reason : Reason) (cause : Cause) (x : Option Job) → MayBeCancelled x
    → ActTakes (Cancel r reason) (state_of x) (state_of (option_map (cancelled_for cause) x))
cancel_takes r reason cause None m = absurd m
cancel_takes r reason cause (Some j) m = (m, refl)

finish_takes : (who r : ℕ) (end : End) (x : Option Job) → MayFinish end x
    → ActTakes (Finish r end) (state_of x) (state_of (option_map (ended_by who end) x))
finish_takes who r end None m = absurd m
finish_takes who r end (Some j) m = end_goes j.state j end m.2

-- a change of another part of a row leaves its state
kept_at : (f : Job → Job) → ((j : Job) → (f j).state ≡ j.state) → (p q : ℕ) (tree : Tree) → state_of (change p f tree q) ≡ state_of (tree q)
kept_at f k p q tree = by_test (p == q) refl
  where
    kept : (x : Option Job) → state_of (option_map f x) ≡ state_of x
    kept None = refl
    kept (Some j) = ap (λ s. Some s) (k j)

    by_test : (b : Bool) → (p == q) ≡ b → state_of (if b then option_map f (tree p) else tree q) ≡ state_of (tree q)
    by_test true e = kept (tree p) ∙ ap (λ u. state_of (tree u)) (eqb-true p q e)
    by_test false e = refl

kept_told : (c q : ℕ) (o : Option ℕ) (tree : Tree) → state_of (change_parent o (with_told c) tree q) ≡ state_of (tree q)
kept_told c q None tree = refl
kept_told c q (Some p) tree = kept_at (with_told c) (λ j. refl) p q tree

tell_takes : (r : ℕ) (x : Option Job) → IsEnded x → ActTakes (Gone r) (state_of x) (state_of x)
tell_takes r None e = absurd e
tell_takes r (Some j) e = (e, refl)

-- at the row of the act
act_takes : (shape : Shape) (tree : Tree) (who : ℕ) (act : JobAct) → HasFamilies tree → Needs shape tree who act
    → ActTakes act (state_of (tree (row_of_act act))) (state_of (after tree who act (row_of_act act)))
act_takes shape tree who (Attach p r kind tag cancelled) h n = (ap state_of n.0, ap state_of (attached_now tree who p r kind tag cancelled))
act_takes shape tree who (Start r) h n = subst (λ x. ActTakes (Start r) (state_of (tree r)) (state_of x))
    (sym (changed_here r started tree)) (start_takes r (tree r) n)
act_takes shape tree who (EndBody r v) h n = subst (λ x. ActTakes (EndBody r v) (state_of (tree r)) (state_of x))
    (sym (changed_here r (without_body v) tree)) (body_takes who r v (tree r) n (h.rows r))
act_takes shape tree who (Cancel r reason) h n =
    let cause = cause_of_reason tree reason in
    subst (λ x. ActTakes (Cancel r reason) (state_of (tree r)) (state_of x)) (sym (changed_here r (cancelled_for cause) tree))
    (cancel_takes r reason cause (tree r) n.0)
act_takes shape tree who (Finish r end) h n = subst (λ x. ActTakes (Finish r end) (state_of (tree r)) (state_of x))
    (sym (changed_here r (ended_by who end) tree)) (finish_takes who r end (tree r) n)
act_takes shape tree who (Gone r) h n =
    subst (λ s. ActTakes (Gone r) (state_of (tree r)) s) (sym (kept_told r r (parent_of (tree r)) tree))
    (tell_takes r (tree r) (finished_ended who (tree r) n.0 (h.rows r)))

-- at any other row
other_stays : (tree : Tree) (who : ℕ) (act : JobAct) (q : ℕ) → (row_of_act act == q) ≡ false
    → state_of (after tree who act q) ≡ state_of (tree q)
other_stays tree who (Attach p r kind tag cancelled) q e =
    ap (λ b. state_of (if b then Some (new_child p kind tag cancelled) else change p (with_child r) tree q)) e
    ∙ kept_at (with_child r) (λ j. refl) p q tree
other_stays tree who (Start r) q e = ap (λ b. state_of (if b then option_map started (tree r) else tree q)) e
other_stays tree who (EndBody r v) q e = ap (λ b. state_of (if b then option_map (without_body v) (tree r) else tree q)) e
other_stays tree who (Cancel r reason) q e = ap (λ b. state_of
    (if b then option_map (cancelled_for (cause_of_reason tree reason)) (tree r) else tree q)) e
other_stays tree who (Finish r end) q e = ap (λ b. state_of (if b then option_map (ended_by who end) (tree r) else tree q)) e
other_stays tree who (Gone r) q e = kept_told r q (parent_of (tree r)) tree

pub entry_takes : (shape : Shape) (xs : List JobEntry) (e : JobEntry) → Legal shape (xs ++ e ∷ [])
    → ActTakes e.act (state_of (replay xs (row_of_act e.act))) (state_of (replay (xs ++ e ∷ []) (row_of_act e.act)))
entry_takes shape xs e l =
    let parts = Legal-last shape xs e l in
    subst (λ (t : Tree). ActTakes e.act (state_of (replay xs (row_of_act e.act))) (state_of (t (row_of_act e.act))))
    (sym (replay_push xs e))
    (act_takes shape (replay xs) e.who e.act (replay_families shape xs parts.0) parts.1)

apart : (a b : ℕ) → b ≢ a → (a == b) ≡ false
apart a b n = by_test (a == b) refl
  where
    by_test : (t : Bool) → (a == b) ≡ t → (a == b) ≡ false
    by_test true e = absurd (n (sym (eqb-true a b e)))
    by_test false e = e

pub entry_leaves : (xs : List JobEntry) (e : JobEntry) (q : ℕ) → q ≢ row_of_act e.act
    → state_of (replay (xs ++ e ∷ []) q) ≡ state_of (replay xs q)
entry_leaves xs e q n = ap (λ (t : Tree). state_of (t q)) (replay_push xs e)
    ∙ other_stays (replay xs) e.who e.act q (apart (row_of_act e.act) q n)
