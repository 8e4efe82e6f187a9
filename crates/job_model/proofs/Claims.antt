-- Who attached a row.
use Rattle.std.specs.Prelude.{◌≡◌, ℕ, Bool, true, false, List, [], ◌∷◌, ◌++◌, Option, Some, None, is_some, if◌then◌else◌, refl}
use Rattle.std.proofs.Common.{ap, ◌∙◌}
use Rattle.job_model.specs.declared.acts.JobAct.{JobAct}
use Rattle.job_model.specs.declared.acts.JobEntry.{JobEntry}
use Rattle.job_model.specs.Trees.{Shape, Job, Tree, start}
use Rattle.job_model.specs.Acts.{attaches}
use Rattle.job_model.specs.Effects.{after}
use Rattle.job_model.specs.Histories.{replay, replay_from, Legal, LegalFrom}
use Rattle.job_model.specs.Floors.{attacher}
use Rattle.job_model.proofs.Steps.{RowStep, row_step}
use Rattle.job_model.proofs.Families.{start_root}
use Rattle.job_model.proofs.Rows.{same}

-- who attached a row did so before the last entry, or by it
pub attacher_was : (P : Type 0) (r t : ℕ) (es : List JobEntry) (e : JobEntry) → attacher r (es ++ e ∷ []) ≡ Some t
    → (attacher r es ≡ Some t → P) → (attaches r e.act ≡ true → e.who ≡ t → P) → P
attacher_was P r t [] e h old new = by_test (attaches r e.act) refl h
  where
    by_test : (b : Bool) → attaches r e.act ≡ b → (if b then Some e.who else None) ≡ Some t → P
    by_test true k h = new k (let m : e.who ≡ t = cc in m)
    by_test false k h = cc
attacher_was P r t (x ∷ xs) e h old new = by_test (attaches r x.act) refl h (λ k. attacher_was P r t xs e k)
  where
    by_test : (b : Bool) → attaches r x.act ≡ b → (if b then Some x.who else attacher r (xs ++ e ∷ [])) ≡ Some t
        → (attacher r (xs ++ e ∷ []) ≡ Some t → (attacher r xs ≡ Some t → P) → (attaches r e.act ≡ true → e.who ≡ t → P) → P) → P
    by_test true k h rest = old (ap (λ b. if b then Some x.who else attacher r xs) k ∙ h)
    by_test false k h rest = rest h (λ m. old (ap (λ b. if b then Some x.who else attacher r xs) k ∙ m)) new

-- where a row is attached, it was before, or this act attaches it
pub attached_was : (shape : Shape) (tree : Tree) (who q : ℕ) (act : JobAct) (x y : Option Job) (P : Type 0)
    → RowStep shape tree who q act x y → is_some y ≡ true → (is_some x ≡ true → P) → (attaches q act ≡ true → P) → P
attached_was shape tree who q _ _ _ P (RowStep.is_attached p kind tag cancelled m i) h old new = new (same q)
attached_was shape tree who q _ _ _ P (RowStep.has_child r kind tag cancelled j none m) h old new = old refl
attached_was shape tree who q _ _ _ P (RowStep.is_started j n) h old new = old refl
attached_was shape tree who q _ _ _ P (RowStep.body_ends v j m) h old new = old refl
attached_was shape tree who q _ _ _ P (RowStep.is_cancelled reason j m o) h old new = old refl
attached_was shape tree who q _ _ _ P (RowStep.ends end j m) h old new = old refl
attached_was shape tree who q _ _ _ P (RowStep.is_told d j m p) h old new = old refl
attached_was shape tree who q _ _ _ P (RowStep.stays act x a b d e f) h old new = old h

attached_from : (shape : Shape) (tree : Tree) (es : List JobEntry) (r : ℕ) (P : Type 0) → LegalFrom shape tree es
    → is_some (replay_from tree es r) ≡ true → (is_some (tree r) ≡ true → P) → ((t : ℕ) → attacher r es ≡ Some t → P) → P
unfolding LegalFrom replay_from
attached_from shape tree [] r P l a old new = old a
attached_from shape tree (e ∷ es) r P l a old new = attached_from shape (after tree e.who e.act) es r P l.1 a
    (λ h. attached_was shape tree e.who r e.act _ _ P (row_step shape tree e.who e.act r l.0) h old
    (λ k. new e.who (ap (λ b. if b then Some e.who else attacher r es) k))) (λ t h. later (attaches r e.act) refl t h)
  where
    later : (b : Bool) → attaches r e.act ≡ b → (t : ℕ) → attacher r es ≡ Some t → P
    later true k t h = new e.who (ap (λ b. if b then Some e.who else attacher r es) k)
    later false k t h = new t (ap (λ b. if b then Some e.who else attacher r es) k ∙ h)

-- an attached row is the root, or somebody attached it
pub attached_by : (shape : Shape) (es : List JobEntry) (r : ℕ) (P : Type 0) → Legal shape es → is_some (replay es r) ≡ true → (r ≡ 0 → P)
    → ((t : ℕ) → attacher r es ≡ Some t → P) → P
attached_by shape es r P l a old new = attached_from shape start es r P l a (λ h. old (start_root r h)) new

some_is : {A : Type 0} (x : Option A) (a : A) → x ≡ Some a → is_some x ≡ true
some_is x a e = ap is_some e
