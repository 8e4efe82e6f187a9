-- Every act keeps families in order.
use Rattle.std.specs.Prelude.{◌≡◌, ℕ, ◌==◌, Bool, true, false, List, [], ◌∷◌, Option, Some, None, option_map, is_some, if◌then◌else◌, refl}
use Rattle.std.specs.List.{IsDistinct}
use Rattle.std.specs.Cmp.{IsEquivalence}
use Rattle.std.proofs.Common.{sym, ap, ◌∙◌, subst, arith}
use Rattle.std.proofs.lemmas.Bool.{eqb-true, cond_both}
use Rattle.std.proofs.lemmas.Bool.Decides.{nat_tests}
use Rattle.std.proofs.lemmas.Map.Keys.{IsDistinct-push}
use Rattle.job_model.specs.declared.acts.JobKind.{JobKind}
use Rattle.job_model.specs.declared.acts.JobAct.{JobAct}
use Rattle.job_model.specs.declared.acts.JobAct.TheVariants.{Attach, Gone}
use Rattle.job_model.specs.declared.acts.JobEntry.{JobEntry}
use Rattle.job_model.specs.Trees.{Shape, Job, Tree, root, start, parent_of, is_among, was_told}
use Rattle.job_model.specs.Effects.{after, new_child, with_child, change}
use Rattle.job_model.specs.Needs.{Needs, MayHaveChild, IsFinishedBy}
use Rattle.job_model.specs.Families.{IsEnded, children_of}
use Rattle.job_model.specs.Histories.{replay, replay_from, Legal, LegalFrom}
use Rattle.job_model.specs.Laws.{IsSoundRow, HasFamilies}
use Rattle.job_model.proofs.Steps.{RowStep, row_step}
use Rattle.job_model.proofs.Rows.{same, among_last, among_before}
use Rattle.job_model.proofs.Lasting.{act_keeps, ended_lasts, parent_lasts, listed_lasts}
use Rattle.job_model.proofs.Sound.{step_sound}

-- where a row has a child more, that child is attached by this act
pub child_was : (shape : Shape) (tree : Tree) (who q c : ℕ) (act : JobAct) (x y : Option Job) (P : Type 0)
    → RowStep shape tree who q act x y → is_among c (children_of y) ≡ true
    → (is_among c (children_of x) ≡ true → P)
    → ((kind : JobKind) (tag : ℕ) (cancelled : Bool) → act ≡ Attach q c kind tag cancelled → P) → P
child_was shape tree who q c _ _ _ P (RowStep.is_attached p kind tag cancelled m i) h old new = cc
child_was shape tree who q c _ _ _ P (RowStep.has_child r kind tag cancelled j none m) h old new =
    among_before P c r j.children h old (λ e. new kind tag cancelled (ap (λ u. Attach q u kind tag cancelled) (sym e)))
child_was shape tree who q c _ _ _ P (RowStep.is_started j n) h old new = old h
child_was shape tree who q c _ _ _ P other h old new = old h

-- where a row has a parent, it had that parent before, or this act attaches it there
pub parent_was : (shape : Shape) (tree : Tree) (who q p : ℕ) (act : JobAct) (x y : Option Job) (P : Type 0)
    → RowStep shape tree who q act x y → parent_of y ≡ Some p
    → (parent_of x ≡ Some p → P)
    → ((kind : JobKind) (tag : ℕ) (cancelled : Bool) → act ≡ Attach p q kind tag cancelled → P) → P
parent_was shape tree who q p _ _ _ P (RowStep.is_attached r kind tag cancelled m i) h old new =
    new kind tag cancelled (let k : r ≡ p = cc in ap (λ u. Attach u q kind tag cancelled) k)
parent_was shape tree who q p _ _ _ P (RowStep.has_child r kind tag cancelled j none m) h old new = old h
parent_was shape tree who q p _ _ _ P other h old new = old h

-- where a child was told gone, it was before, or this act tells it
pub told_was : (shape : Shape) (tree : Tree) (who q c : ℕ) (act : JobAct) (x y : Option Job) (P : Type 0) → RowStep shape tree who q act x y
    → was_told c y ≡ true
    → (was_told c x ≡ true → P)
    → (act ≡ Gone c → IsFinishedBy who (tree c) → P) → P
told_was shape tree who q c _ _ _ P (RowStep.is_attached p kind tag cancelled m i) h old new = cc
told_was shape tree who q c _ _ _ P (RowStep.has_child r kind tag cancelled j none m) h old new = old h
told_was shape tree who q c _ _ _ P (RowStep.is_started j n) h old new = old h
told_was shape tree who q c _ _ _ P (RowStep.body_ends v j m) h old new = old h
told_was shape tree who q c _ _ _ P (RowStep.is_cancelled reason j m o) h old new = old h
told_was shape tree who q c _ _ _ P (RowStep.ends end j m) h old new = old h
told_was shape tree who q c _ _ _ P (RowStep.is_told d j m p) h old new =
    among_before P c d j.told h old (λ e. new (ap (λ u. Gone u) (sym e)) (subst (λ u. IsFinishedBy who (tree u)) (sym e) m.0))
told_was shape tree who q c _ _ _ P (RowStep.stays act x a b d e f) h old new = old h

nat_equivalence : IsEquivalence (λ (c : ℕ) (d : ℕ). c == d)
nat_equivalence = record {
  refl = λ x. same x;
  symm = λ x y. grind (arith, nat_tests);
  congr = λ x y z e. ap (λ u. u == z) (eqb-true x y e);
}

once_step : (shape : Shape) (tree : Tree) (who q : ℕ) (act : JobAct) (x y : Option Job) → RowStep shape tree who q act x y
    → ((c : ℕ) → is_among c (children_of x) ≡ true → parent_of (tree c) ≡ Some q) → IsDistinct (λ c d. c == d) (children_of x)
    → IsDistinct (λ c d. c == d) (children_of y)
unfolding IsDistinct
once_step shape tree who q _ _ _ (RowStep.is_attached p kind tag cancelled m i) h k = k
once_step shape tree who q _ _ _ (RowStep.has_child r kind tag cancelled j none m) h k =
    IsDistinct-push nat_equivalence j.children r k (not_yet (is_among r j.children) refl)
  where
    not_yet : (b : Bool) → is_among r j.children ≡ b → is_among r j.children ≡ false
    not_yet true e = absurd (let u : None ≡ Some q = sym (ap parent_of none) ∙ h r e in cc)
    not_yet false e = e
once_step shape tree who q _ _ _ (RowStep.is_started j n) h k = k
once_step shape tree who q _ _ _ other h k = k

root_step : (shape : Shape) (tree : Tree) (who q : ℕ) (act : JobAct) (x y : Option Job) → RowStep shape tree who q act x y
    → (is_some x ≡ true → parent_of x ≡ None → q ≡ 0) → is_some y ≡ true → parent_of y ≡ None → q ≡ 0
root_step shape tree who q _ _ _ (RowStep.is_attached p kind tag cancelled m i) h a e = cc
root_step shape tree who q _ _ _ (RowStep.has_child r kind tag cancelled j none m) h a e = h a e
root_step shape tree who q _ _ _ other h a e = h a e

-- what a change of one row leaves there
pub changed_here : (r : ℕ) (f : Job → Job) (tree : Tree) → change r f tree r ≡ option_map f (tree r)
changed_here r f tree = ap (λ b. if b then option_map f (tree r) else tree r) (same r)

pub finished_ended : (who : ℕ) (x : Option Job) → IsFinishedBy who x → IsSoundRow x → IsEnded x
finished_ended who None f h = absurd f
finished_ended who (Some j) f h = sym h.finished ∙ ap is_some f

-- the new child
pub attached_now : (tree : Tree) (who p c : ℕ) (kind : JobKind) (tag : ℕ) (cancelled : Bool)
    → after tree who (Attach p c kind tag cancelled) c ≡ Some (new_child p kind tag cancelled)
attached_now tree who p c kind tag cancelled = ap (λ b. if b then Some (new_child p kind tag cancelled) else change p (with_child c) tree c)
    (same c)

-- the new child's parent
pub attached_parent : (tree : Tree) (who p c : ℕ) (kind : JobKind) (tag : ℕ) (cancelled : Bool)
    → parent_of (after tree who (Attach p c kind tag cancelled) c) ≡ Some p
attached_parent tree who p c kind tag cancelled = ap (λ b. parent_of
    (if b then Some (new_child p kind tag cancelled) else change p (with_child c) tree c)) (same c)

-- a row that is attached and one that is not are two
pub apart_rows : (tree : Tree) (c p : ℕ) (cancelled : Bool) → tree c ≡ None → MayHaveChild cancelled (tree p) → (c == p) ≡ false
apart_rows tree c p cancelled none m = by_test (c == p) refl
  where
    by_test : (b : Bool) → (c == p) ≡ b → (c == p) ≡ false
    by_test true e = absurd (subst (MayHaveChild cancelled) (ap tree (sym (eqb-true c p e)) ∙ none) m)
    by_test false e = e

listed_last : (c : ℕ) (cancelled : Bool) (x : Option Job) → MayHaveChild cancelled x
    → is_among c (children_of (option_map (with_child c) x)) ≡ true
listed_last c cancelled None m = absurd m
listed_last c cancelled (Some j) m = among_last c j.children

-- the new child stands in its parent's list
attached_listed : (tree : Tree) (who p c : ℕ) (kind : JobKind) (tag : ℕ) (cancelled : Bool) → tree c ≡ None
    → MayHaveChild cancelled (tree p) → is_among c (children_of (after tree who (Attach p c kind tag cancelled) p)) ≡ true
attached_listed tree who p c kind tag cancelled none m =
    ap (λ b. is_among c (children_of (if b then Some (new_child p kind tag cancelled) else change p (with_child c) tree p)))
    (apart_rows tree c p cancelled none m)
    ∙ ap (λ b. is_among c (children_of (if b then option_map (with_child c) (tree p) else tree p))) (same p)
    ∙ listed_last c cancelled (tree p) m

pub after_families : (shape : Shape) (tree : Tree) (who : ℕ) (act : JobAct) → Needs shape tree who act → HasFamilies tree
    → HasFamilies (after tree who act)
after_families shape tree who act n h = record {
  rows = λ r. step_sound shape tree who r act _ _ (row_step shape tree who act r n) (h.rows r);
  parents = λ p c e. child_was shape tree who p c act _ _ _ (row_step shape tree who act p n) e
      (λ o. act_keeps _ (parent_lasts p) shape tree who act c n (h.parents p c o))
      (λ kind tag cancelled f. subst (λ a. parent_of (after tree who a c) ≡ Some p) (sym f)
      (attached_parent tree who p c kind tag cancelled));
  listed = λ p c e. parent_was shape tree who c p act _ _ _ (row_step shape tree who act c n) e
      (λ o. act_keeps _ (listed_lasts c) shape tree who act p n (h.listed p c o))
      (λ kind tag cancelled f.
      let m : Needs shape tree who (Attach p c kind tag cancelled) = subst (Needs shape tree who) f n in
      subst (λ a. is_among c (children_of (after tree who a p)) ≡ true) (sym f) (attached_listed tree who p c kind tag cancelled m.0 m.1));
  once = λ p. once_step shape tree who p act _ _ (row_step shape tree who act p n) (h.parents p) (h.once p);
  root = λ r a e. root_step shape tree who r act _ _ (row_step shape tree who act r n) (h.root r) a e;
  gone = λ p c e. told_was shape tree who p c act _ _ _ (row_step shape tree who act p n) e
      (λ o. act_keeps IsEnded ended_lasts shape tree who act c n (h.gone p c o))
      (λ f by. act_keeps IsEnded ended_lasts shape tree who act c n (finished_ended who (tree c) by (h.rows c)));
}

-- ---- the start

-- what holds of the root and of a row that is not attached
pub at_start : (P : Option Job → Type 0) → P (Some root) → P None → (r : ℕ) → P (start r)
at_start P h k r = cond_both (r == 0) (Some root) None P (λ e. h) (λ e. k)

pub start_root : (r : ℕ) → is_some (start r) ≡ true → r ≡ 0
start_root r a = by_test (r == 0) refl a
  where
    by_test : (b : Bool) → (r == 0) ≡ b → is_some (if b then Some root else None) ≡ true → r ≡ 0
    by_test true e f = eqb-true r 0 e
    by_test false e f = cc

pub start_families : HasFamilies start
unfolding IsDistinct
start_families = record {
  rows = λ r. at_start IsSoundRow (record {
    finished = refl;
    running = λ f. refl;
    bodiless = λ f. cc;
    childless = λ f. refl;
    caused =
        refl;
  }) tt r;
  parents = λ p c e. absurd (at_start (λ x. is_among c (children_of x) ≡ true → ⊥) (λ f. cc) (λ f. cc) p e);
  listed = λ p c e. absurd (at_start (λ x. parent_of x ≡ Some p → ⊥) (λ f. cc) (λ f. cc) c e);
  once = λ p. at_start (λ x. IsDistinct (λ c d. c == d) (children_of x)) tt tt p;
  root = λ r a e. start_root r a;
  gone = λ p c e. absurd (at_start (λ x. was_told c x ≡ true → ⊥) (λ f. cc) (λ f. cc) p e);
}

pub from_families : (shape : Shape) (tree : Tree) (es : List JobEntry) → LegalFrom shape tree es → HasFamilies tree
    → HasFamilies (replay_from tree es)
unfolding LegalFrom replay_from
from_families shape tree [] l h = h
from_families shape tree (e ∷ es) l h = from_families shape (after tree e.who e.act) es l.1 (after_families shape tree e.who e.act l.0 h)

pub replay_families : (shape : Shape) (es : List JobEntry) → Legal shape es → HasFamilies (replay es)
replay_families shape es l = from_families shape start es l start_families
