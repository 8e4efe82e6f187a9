-- What an act makes of one row.
use Rattle.std.specs.Prelude.{◌≡◌, ℕ, ◌==◌, Bool, true, false, Option, Some, None, option_map, if◌then◌else◌, refl}
use Rattle.std.proofs.Common.{sym, ap, ◌∙◌, subst, arith}
use Rattle.std.proofs.lemmas.Bool.{eqb-true}
use Rattle.std.proofs.lemmas.Bool.Decides.{nat_tests}
use Rattle.job_model.specs.declared.acts.JobState.TheVariants.{New}
use Rattle.job_model.specs.declared.acts.JobKind.{JobKind}
use Rattle.job_model.specs.declared.acts.Reason.{Reason}
use Rattle.job_model.specs.declared.acts.End.{End}
use Rattle.job_model.specs.declared.acts.JobAct.{JobAct}
use Rattle.job_model.specs.declared.acts.JobAct.TheVariants.{Attach, Start, EndBody, Cancel, Finish, Gone}
use Rattle.job_model.specs.Trees.{Shape, Job, Tree, parent_of, state_of}
use Rattle.job_model.specs.Acts.{attaches, starts, ends_body, cancels, finishes}
use Rattle.job_model.specs.Effects.{after, change_parent, new_child, with_child, started, without_body, cancelled_for, cause_of_reason, ended_by, with_told}
use Rattle.job_model.specs.Needs.{Needs, IsRowFor, MayHaveChild, MayEndBody, MayBeCancelled, MayFinish, MayTell, Holds}

-- an act of who, allowed on the tree, makes y of what x was at row q
pub data RowStep (shape : Shape) (tree : Tree) (who q : ℕ) : JobAct → Option Job → Option Job → Type 0 where
  is_attached : (p : ℕ) (kind : JobKind) (tag : ℕ) (cancelled : Bool) → MayHaveChild cancelled (tree p) → IsRowFor shape who kind tag q
      → RowStep shape tree who q (Attach p q kind tag cancelled) None (Some (new_child p kind tag cancelled))
  has_child : (r : ℕ) (kind : JobKind) (tag : ℕ) (cancelled : Bool) (j : Job) → tree r ≡ None → MayHaveChild cancelled (Some j)
      → RowStep shape tree who q (Attach q r kind tag cancelled) (Some j) (Some (with_child r j))
  is_started : (j : Job) → j.state ≡ New → RowStep shape tree who q (Start q) (Some j) (Some (started j))
  body_ends : (v : ℕ) (j : Job) → MayEndBody who (Some j) → RowStep shape tree who q (EndBody q v) (Some j) (Some (without_body v j))
  is_cancelled : (reason : Reason) (j : Job) → MayBeCancelled (Some j) → Holds shape tree who q reason
      → RowStep shape tree who q (Cancel q reason) (Some j) (Some (cancelled_for (cause_of_reason tree reason) j))
  ends : (end : End) (j : Job) → MayFinish end (Some j) → RowStep shape tree who q (Finish q end) (Some j) (Some (ended_by who end j))
  is_told : (c : ℕ) (j : Job) → MayTell who c tree → parent_of (tree c) ≡ Some q
      → RowStep shape tree who q (Gone c) (Some j) (Some (with_told c j))
  stays : (act : JobAct) (x : Option Job) → attaches q act ≡ false → starts q act ≡ false → ends_body q act ≡ false → cancels q act ≡ false
      → finishes q act ≡ false → RowStep shape tree who q act x x

-- ---- each act

attach_at : (shape : Shape) (tree : Tree) (who q p : ℕ) (kind : JobKind) (tag : ℕ) (cancelled : Bool) → tree q ≡ None
    → MayHaveChild cancelled (tree p) → IsRowFor shape who kind tag q
    → RowStep shape tree who q (Attach p q kind tag cancelled) (tree q) (Some (new_child p kind tag cancelled))
attach_at shape tree who q p kind tag cancelled none m i =
    subst (λ x. RowStep shape tree who q (Attach p q kind tag cancelled) x (Some (new_child p kind tag cancelled))) (sym none)
    (is_attached p kind tag cancelled m i)

child_at : (shape : Shape) (tree : Tree) (who q r : ℕ) (kind : JobKind) (tag : ℕ) (cancelled : Bool) (x : Option Job) → tree r ≡ None
    → MayHaveChild cancelled x → RowStep shape tree who q (Attach q r kind tag cancelled) x (option_map (with_child r) x)
child_at shape tree who q r kind tag cancelled None none m = absurd m
child_at shape tree who q r kind tag cancelled (Some j) none m = has_child r kind tag cancelled j none m

pub not_named : (r q : ℕ) → (r == q) ≡ false → (q == r) ≡ false
not_named r q e = grind (arith, nat_tests)

attach_step : (shape : Shape) (tree : Tree) (who q p r : ℕ) (kind : JobKind) (tag : ℕ) (cancelled : Bool) → tree r ≡ None
    → MayHaveChild cancelled (tree p) → IsRowFor shape who kind tag r
    → RowStep shape tree who q (Attach p r kind tag cancelled) (tree q) (after tree who (Attach p r kind tag cancelled) q)
attach_step shape tree who q p r kind tag cancelled none m i = by_row (r == q) refl
  where
    by_parent : (b : Bool) → (r == q) ≡ false → (p == q) ≡ b
        → RowStep shape tree who q (Attach p r kind tag cancelled) (tree q) (if b then option_map (with_child r) (tree p) else tree q)
    by_parent true f e =
        let k : q ≡ p = sym (eqb-true p q e) in
        subst (λ u. RowStep shape tree who q (Attach u r kind tag cancelled) (tree q) (option_map (with_child r) (tree u))) k
        (child_at shape tree who q r kind tag cancelled (tree q) none (subst (λ u. MayHaveChild cancelled (tree u)) (sym k) m))
    by_parent false f e = stays (Attach p r kind tag cancelled) (tree q) (not_named r q f) refl refl refl refl

    by_row : (b : Bool) → (r == q) ≡ b → RowStep shape tree who q (Attach p r kind tag cancelled) (tree q)
        (if b then Some (new_child p kind tag cancelled) else (if p == q then option_map (with_child r) (tree p) else tree q))
    by_row true e =
        let k : q ≡ r = sym (eqb-true r q e) in
        subst (λ u. RowStep shape tree who q (Attach p u kind tag cancelled) (tree q) (Some (new_child p kind tag cancelled))) k
        (attach_at shape tree who q p kind tag cancelled (ap tree k ∙ none) m (subst (λ u. IsRowFor shape who kind tag u) (sym k) i))
    by_row false e = by_parent (p == q) e refl

start_at : (shape : Shape) (tree : Tree) (who q : ℕ) (x : Option Job) → state_of x ≡ Some New
    → RowStep shape tree who q (Start q) x (option_map started x)
start_at shape tree who q None e = cc
start_at shape tree who q (Some j) e = is_started j (let k : j.state ≡ New = cc in k)

body_at : (shape : Shape) (tree : Tree) (who q v : ℕ) (x : Option Job) → MayEndBody who x
    → RowStep shape tree who q (EndBody q v) x (option_map (without_body v) x)
body_at shape tree who q v None m = absurd m
body_at shape tree who q v (Some j) m = body_ends v j m

cancel_at : (shape : Shape) (tree : Tree) (who q : ℕ) (reason : Reason) (x : Option Job) → MayBeCancelled x → Holds shape tree who q reason
    → RowStep shape tree who q (Cancel q reason) x (option_map (cancelled_for (cause_of_reason tree reason)) x)
cancel_at shape tree who q reason None m h = absurd m
cancel_at shape tree who q reason (Some j) m h = is_cancelled reason j m h

finish_at : (shape : Shape) (tree : Tree) (who q : ℕ) (end : End) (x : Option Job) → MayFinish end x
    → RowStep shape tree who q (Finish q end) x (option_map (ended_by who end) x)
finish_at shape tree who q end None m = absurd m
finish_at shape tree who q end (Some j) m = ends end j m

told_at : (shape : Shape) (tree : Tree) (who q c : ℕ) (x : Option Job) → tree q ≡ x → MayTell who c tree → parent_of (tree c) ≡ Some q
    → RowStep shape tree who q (Gone c) x (option_map (with_told c) x)
told_at shape tree who q c None e m p = stays (Gone c) None refl refl refl refl refl
told_at shape tree who q c (Some j) e m p = is_told c j m p

tell_step : (shape : Shape) (tree : Tree) (who q c : ℕ) (o : Option ℕ) → parent_of (tree c) ≡ o → MayTell who c tree
    → RowStep shape tree who q (Gone c) (tree q) (change_parent o (with_told c) tree q)
tell_step shape tree who q c None e m = stays (Gone c) (tree q) refl refl refl refl refl
tell_step shape tree who q c (Some p) e m = by_parent (p == q) refl
  where
    by_parent : (b : Bool) → (p == q) ≡ b → RowStep shape tree who q (Gone c) (tree q)
        (if b then option_map (with_told c) (tree p) else tree q)
    by_parent true f =
        let k : q ≡ p = sym (eqb-true p q f) in
        subst (λ u. RowStep shape tree who q (Gone c) (tree q) (option_map (with_told c) (tree u))) k
        (told_at shape tree who q c (tree q) refl m (e ∙ ap (λ u. Some u) (sym k)))
    by_parent false f = stays (Gone c) (tree q) refl refl refl refl refl

pub row_step : (shape : Shape) (tree : Tree) (who : ℕ) (act : JobAct) (q : ℕ) → Needs shape tree who act
    → RowStep shape tree who q act (tree q) (after tree who act q)
row_step shape tree who (Attach p r kind tag cancelled) q n = attach_step shape tree who q p r kind tag cancelled n.0 n.1 n.3
row_step shape tree who (Start r) q n = by_row (r == q) refl
  where
    by_row : (b : Bool) → (r == q) ≡ b → RowStep shape tree who q (Start r) (tree q) (if b then option_map started (tree r) else tree q)
    by_row true e = let k : q ≡ r = sym (eqb-true r q e) in
        subst (λ u. RowStep shape tree who q (Start u) (tree q) (option_map started (tree u))) k
        (start_at shape tree who q (tree q) (ap (λ u. state_of (tree u)) k ∙ n))
    by_row false e = stays (Start r) (tree q) refl (not_named r q e) refl refl refl
row_step shape tree who (EndBody r v) q n = by_row (r == q) refl
  where
    by_row : (b : Bool) → (r == q) ≡ b → RowStep shape tree who q (EndBody r v) (tree q)
        (if b then option_map (without_body v) (tree r) else tree q)
    by_row true e = let k : q ≡ r = sym (eqb-true r q e) in
        subst (λ u. RowStep shape tree who q (EndBody u v) (tree q) (option_map (without_body v) (tree u))) k
        (body_at shape tree who q v (tree q) (subst (λ u. MayEndBody who (tree u)) (sym k) n))
    by_row false e = stays (EndBody r v) (tree q) refl refl (not_named r q e) refl refl
row_step shape tree who (Cancel r reason) q n = by_row (r == q) refl
  where
    by_row : (b : Bool) → (r == q) ≡ b → RowStep shape tree who q (Cancel r reason) (tree q)
        (if b then option_map (cancelled_for (cause_of_reason tree reason)) (tree r) else tree q)
    by_row true e = let k : q ≡ r = sym (eqb-true r q e) in
        subst (λ u. RowStep shape tree who q (Cancel u reason) (tree q) (option_map (cancelled_for (cause_of_reason tree reason)) (tree u)))
        k (cancel_at shape tree who q reason (tree q) (subst (λ u. MayBeCancelled (tree u)) (sym k) n.0)
        (subst (λ u. Holds shape tree who u reason) (sym k) n.1))
    by_row false e = stays (Cancel r reason) (tree q) refl refl refl (not_named r q e) refl
row_step shape tree who (Finish r end) q n = by_row (r == q) refl
  where
    by_row : (b : Bool) → (r == q) ≡ b → RowStep shape tree who q (Finish r end) (tree q)
        (if b then option_map (ended_by who end) (tree r) else tree q)
    by_row true e = let k : q ≡ r = sym (eqb-true r q e) in
        subst (λ u. RowStep shape tree who q (Finish u end) (tree q) (option_map (ended_by who end) (tree u))) k
        (finish_at shape tree who q end (tree q) (subst (λ u. MayFinish end (tree u)) (sym k) n))
    by_row false e = stays (Finish r end) (tree q) refl refl refl refl (not_named r q e)
row_step shape tree who (Gone c) q n = tell_step shape tree who q c (parent_of (tree c)) refl n
