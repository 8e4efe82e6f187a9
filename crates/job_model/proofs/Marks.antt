-- Each act is done with a row at most once, and the tree says whether it was.
use Rattle.std.specs.Prelude.{◌≡◌, ℕ, ◌+◌, ◌≤◌, Bool, true, false, not, List, [], ◌∷◌, Option, Some, None, is_some, if◌then◌else◌, refl}
use Rattle.std.proofs.Common.{sym, ap, ◌∙◌, subst, arith}
use Rattle.std.proofs.lemmas.List.Sums.{sum_by-cons}
use Rattle.std.proofs.lemmas.Bool.{eqb-true}
use Rattle.job_model.specs.declared.acts.JobKind.{JobKind}
use Rattle.job_model.specs.declared.acts.JobAct.{JobAct}
use Rattle.job_model.specs.declared.acts.JobAct.TheVariants.{Attach, Start}
use Rattle.job_model.specs.declared.acts.JobEntry.{JobEntry}
use Rattle.job_model.specs.Trees.{Shape, Job, Tree, is_new, is_cancellable}
use Rattle.job_model.specs.Acts.{attaches}
use Rattle.job_model.specs.Effects.{after, change, with_child, new_child}
use Rattle.job_model.specs.Needs.{Needs}
use Rattle.job_model.specs.Histories.{LegalFrom}
use Rattle.job_model.specs.Laws.{HasFamilies, count_of}
use Rattle.job_model.proofs.Steps.{RowStep, row_step}
use Rattle.job_model.proofs.Rows.{same}
use Rattle.job_model.proofs.Lasting.{Lasts, act_keeps, attached_lasts}
use Rattle.job_model.proofs.Families.{after_families}

-- ---- marks in general

-- the test is passed from the first of these acts on, and not before
pub record IsMark (acts : ℕ → JobAct → Bool) (mark : Tree → ℕ → Bool) : Type 0 where
  pub kept : (shape : Shape) (tree : Tree) (who : ℕ) (act : JobAct) (r : ℕ) → Needs shape tree who act → mark tree r ≡ true
      → mark (after tree who act) r ≡ true
  pub sets : (shape : Shape) (tree : Tree) (who : ℕ) (act : JobAct) (r : ℕ) → HasFamilies tree → Needs shape tree who act
      → acts r act ≡ true → mark (after tree who act) r ≡ true
  pub unset : (shape : Shape) (tree : Tree) (who : ℕ) (act : JobAct) (r : ℕ) → Needs shape tree who act → acts r act ≡ true
      → mark tree r ≡ false

pub count-cons : (acts : ℕ → JobAct → Bool) (r : ℕ) (e : JobEntry) (es : List JobEntry) (b : Bool) → acts r e.act ≡ b
    → count_of acts r (e ∷ es) ≡ (if b then 1 else 0) + count_of acts r es
count-cons acts r e es b h = sum_by-cons (λ (x : JobEntry). if acts r x.act then 1 else 0) e es
    ∙ ap (λ c. (if c then 1 else 0) + count_of acts r es) h

pub none_later : (acts : ℕ → JobAct → Bool) (mark : Tree → ℕ → Bool) → IsMark acts mark
    → (shape : Shape) (tree : Tree) (es : List JobEntry) (r : ℕ) → LegalFrom shape tree es → mark tree r ≡ true → count_of acts r es ≡ 0
unfolding LegalFrom
none_later acts mark k shape tree [] r l m = refl
none_later acts mark k shape tree (e ∷ es) r l m = by_test (acts r e.act) refl
    (none_later acts mark k shape (after tree e.who e.act) es r l.1 (k.kept shape tree e.who e.act r l.0 m))
  where
    by_test : (b : Bool) → acts r e.act ≡ b → count_of acts r es ≡ 0 → count_of acts r (e ∷ es) ≡ 0
    by_test true f n = absurd (let u : true ≡ false = sym m ∙ k.unset shape tree e.who e.act r l.0 f in cc)
    by_test false f n = let v : count_of acts r (e ∷ es) ≡ 0 + count_of acts r es = count-cons acts r e es false f in omega arith

pub at_most_once : (acts : ℕ → JobAct → Bool) (mark : Tree → ℕ → Bool) → IsMark acts mark
    → (shape : Shape) (tree : Tree) (es : List JobEntry) (r : ℕ) → HasFamilies tree → LegalFrom shape tree es → count_of acts r es ≤ 1
unfolding LegalFrom
at_most_once acts mark k shape tree [] r h l = omega arith
at_most_once acts mark k shape tree (e ∷ es) r h l = by_test (acts r e.act) refl
    (at_most_once acts mark k shape (after tree e.who e.act) es r (after_families shape tree e.who e.act l.0 h) l.1)
  where
    by_test : (b : Bool) → acts r e.act ≡ b → count_of acts r es ≤ 1 → count_of acts r (e ∷ es) ≤ 1
    by_test true f n =
        let u = none_later acts mark k shape (after tree e.who e.act) es r l.1 (k.sets shape tree e.who e.act r h l.0 f) in
        let v : count_of acts r (e ∷ es) ≡ 1 + count_of acts r es = count-cons acts r e es true f in
        omega arith
    by_test false f n =
        let v : count_of acts r (e ∷ es) ≡ 0 + count_of acts r es = count-cons acts r e es false f in
        omega arith

-- ---- marks of one row

unfoldable pub has_started : Option Job → Bool
has_started None = false
has_started (Some j) = not (is_new j.state)

unfoldable pub is_past_cancelling : Option Job → Bool
is_past_cancelling None = false
is_past_cancelling (Some j) = not (is_cancellable j.state)

attached_new : (tree : Tree) (who p c : ℕ) (kind : JobKind) (tag : ℕ) (cancelled : Bool)
    → is_some (after tree who (Attach p c kind tag cancelled) c) ≡ true
attached_new tree who p c kind tag cancelled = ap (λ b. is_some
    (if b then Some (new_child p kind tag cancelled) else change p (with_child c) tree c)) (same c)

pub attach_mark : IsMark attaches (λ tree r. is_some (tree r))
attach_mark = record {
  kept = λ shape tree who act r n m. act_keeps _ attached_lasts shape tree who act r n m;
  sets = λ shape tree who act r h n e. sets_attached shape tree who act r n e;
  unset = λ shape tree who act r n e. unset_attached shape tree who act r n e;
}
  where
    sets_attached : (shape : Shape) (tree : Tree) (who : ℕ) (act : JobAct) (r : ℕ) → Needs shape tree who act → attaches r act ≡ true
        → is_some (after tree who act r) ≡ true
    sets_attached shape tree who (Attach p q kind tag cancelled) r n e =
        subst (λ u. is_some (after tree who (Attach p u kind tag cancelled) r) ≡ true) (eqb-true r q e)
        (attached_new tree who p r kind tag cancelled)
    sets_attached shape tree who (Start q) r n e = cc
    sets_attached shape tree who other r n e = cc

    unset_attached : (shape : Shape) (tree : Tree) (who : ℕ) (act : JobAct) (r : ℕ) → Needs shape tree who act → attaches r act ≡ true
        → is_some (tree r) ≡ false
    unset_attached shape tree who (Attach p q kind tag cancelled) r n e = ap (λ u. is_some (tree u)) (eqb-true r q e) ∙ ap is_some n.0
    unset_attached shape tree who (Start q) r n e = cc
    unset_attached shape tree who other r n e = cc

-- a test of a row that an act of this kind changes
pub record IsRowMark (acts : ℕ → JobAct → Bool) (test : Option Job → Bool) : Type 0 where
  pub lasts : Lasts (λ x. test x ≡ true)
  pub sets : (shape : Shape) (tree : Tree) (who q : ℕ) (act : JobAct) (x y : Option Job) → RowStep shape tree who q act x y
      → acts q act ≡ true → test y ≡ true
  pub unset : (shape : Shape) (tree : Tree) (who q : ℕ) (act : JobAct) (x y : Option Job) → RowStep shape tree who q act x y
      → acts q act ≡ true → test x ≡ false

pub row_mark : (acts : ℕ → JobAct → Bool) (test : Option Job → Bool) → IsRowMark acts test → IsMark acts (λ tree r. test (tree r))
row_mark acts test k = record {
  kept = λ shape tree who act r n m. act_keeps _ k.lasts shape tree who act r n m;
  sets = λ shape tree who act r h n e. k.sets shape tree who r act _ _ (row_step shape tree who act r n) e;
  unset = λ shape tree who act r n e. k.unset shape tree who r act _ _ (row_step shape tree who act r n) e;
}
