-- Where all below a Job is Cancelling or ended, it stays so.
use Rattle.std.specs.Prelude.{◌≡◌, ℕ, Bool, true, List, [], ◌∷◌, Option, Some, None}
use mathlib.Core.List.{IsPrefix}
use Rattle.std.proofs.Common.{sym, ap, ◌∙◌, subst}
use Rattle.job_model.specs.declared.acts.JobKind.{JobKind}
use Rattle.job_model.specs.declared.acts.JobAct.{JobAct}
use Rattle.job_model.specs.declared.acts.JobAct.TheVariants.{Attach}
use Rattle.job_model.specs.declared.acts.JobEntry.{JobEntry}
use Rattle.job_model.specs.Trees.{Shape, Job, Tree, is_cancellable, parent_of, is_among}
use Rattle.job_model.specs.Effects.{after, first_state}
use Rattle.job_model.specs.Needs.{Needs, MayHaveChild}
use Rattle.job_model.specs.Families.{IsBelow, IsCancellingOrEnded, AllBelowCancelled, children_of}
use Rattle.job_model.specs.Histories.{replay, replay_from, Legal, LegalFrom}
use Rattle.job_model.specs.Laws.{HasFamilies}
use Rattle.job_model.proofs.Histories.{replay-append, Legal-append}
use Rattle.job_model.proofs.Steps.{row_step}
use Rattle.job_model.proofs.Lasting.{act_keeps}
use Rattle.job_model.proofs.Families.{parent_was, attached_now, after_families, replay_families}
use Rattle.job_model.specs.Cancels.{IsAllCancelled}
use Rattle.job_model.proofs.Below.{cancelling_lasts, child_cancelled}

-- a row that is not attached has no children
unattached_childless : (tree : Tree) (c d : ℕ) (P : Type 0) → HasFamilies tree → tree c ≡ None → parent_of (tree d) ≡ Some c → P
unattached_childless tree c d P h none e =
    absurd (let k : is_among d [] ≡ true = ap (λ x. is_among d (children_of x)) (sym none) ∙ h.listed c d e in cc)

nobody_has_child : (cancelled : Bool) (x : Option Job) → x ≡ None → MayHaveChild cancelled x → ⊥
nobody_has_child cancelled x e m = subst (MayHaveChild cancelled) e m

-- whoever stands below after an act stood there before, or is attached by it
below_was : (shape : Shape) (tree : Tree) (who top : ℕ) (act : JobAct) (d : ℕ) (P : Type 0) → HasFamilies tree → Needs shape tree who act
    → IsCancellingOrEnded (tree top) → AllBelowCancelled tree top
    → IsBelow (after tree who act) top d
    → (IsBelow tree top d → P)
    → ((p : ℕ) (kind : JobKind) (tag : ℕ) (cancelled : Bool) → act ≡ Attach p d kind tag cancelled → IsCancellingOrEnded (tree p) → P) → P
below_was shape tree who top act d P h n here all (IsBelow.is_child _ e) old new =
    parent_was shape tree who d top act _ _ P (row_step shape tree who act d n) e (λ q. old (IsBelow.is_child d q))
    (λ kind tag cancelled f. new top kind tag cancelled f here)
below_was shape tree who top act d P h n here all (IsBelow.is_further c _ b e) old new =
    below_was shape tree who top act c P h n here all b
    (λ k. parent_was shape tree who d c act _ _ P (row_step shape tree who act d n) e (λ q. old (IsBelow.is_further c d k q))
    (λ kind tag cancelled f. new c kind tag cancelled f (all c k)))
    (λ p kind tag cancelled f i.
    let need : Needs shape tree who (Attach p c kind tag cancelled) = subst (Needs shape tree who) f n in
    parent_was shape tree who d c act _ _ P (row_step shape tree who act d n) e (λ q. unattached_childless tree c d P h need.0 q)
    (λ kind' tag' cancelled' f'.
    let need' : Needs shape tree who (Attach c d kind' tag' cancelled') = subst (Needs shape tree who) f' n in
    absurd (nobody_has_child cancelled' (tree c) need.0 need'.1)))

-- a child that is attached to a Job that is Cancelling or ended is so at once
attached_cancelled : (shape : Shape) (tree : Tree) (who p d : ℕ) (act : JobAct) (kind : JobKind) (tag : ℕ) (cancelled : Bool)
    → HasFamilies tree → Needs shape tree who act → act ≡ Attach p d kind tag cancelled → IsCancellingOrEnded (tree p)
    → IsCancellingOrEnded (after tree who act d)
attached_cancelled shape tree who p d act kind tag cancelled h n f i =
    let need : Needs shape tree who (Attach p d kind tag cancelled) = subst (Needs shape tree who) f n in
    subst (λ a. IsCancellingOrEnded (after tree who a d)) (sym f)
    (subst IsCancellingOrEnded (sym (attached_now tree who p d kind tag cancelled))
    (ap (λ b. is_cancellable (first_state b kind.lazy)) (child_cancelled (tree p) cancelled i need.1)))

pub act_keeps_all : (shape : Shape) (tree : Tree) (who top : ℕ) (act : JobAct) → HasFamilies tree → Needs shape tree who act
    → IsAllCancelled tree top → IsAllCancelled (after tree who act) top
act_keeps_all shape tree who top act h n a = record {
  here = act_keeps IsCancellingOrEnded cancelling_lasts shape tree who act top n a.here;
  below = λ d b. below_was shape tree who top act d _ h n a.here a.below b
      (λ k. act_keeps IsCancellingOrEnded cancelling_lasts shape tree who act d n (a.below d k))
      (λ p kind tag cancelled f i. attached_cancelled shape tree who p d act kind tag cancelled h n f i);
}

from_keeps_all : (shape : Shape) (tree : Tree) (es : List JobEntry) (top : ℕ) → HasFamilies tree → LegalFrom shape tree es
    → IsAllCancelled tree top → IsAllCancelled (replay_from tree es) top
unfolding LegalFrom replay_from
from_keeps_all shape tree [] top h l a = a
from_keeps_all shape tree (e ∷ es) top h l a = from_keeps_all shape (after tree e.who e.act) es top
    (after_families shape tree e.who e.act l.0 h) l.1 (act_keeps_all shape tree e.who top e.act h l.0 a)

pub prefix_keeps_all : (shape : Shape) (xs ys : List JobEntry) (top : ℕ) → Legal shape ys → IsPrefix xs ys → IsAllCancelled (replay xs) top
    → IsAllCancelled (replay ys) top
prefix_keeps_all shape xs ys top l p a =
    let parts = (Legal-append shape xs p.0).0 (subst (Legal shape) (sym p.1) l) in
    subst (λ es. IsAllCancelled (replay es) top) p.1 (subst (λ (t : Tree). IsAllCancelled t top) (sym (replay-append xs p.0))
    (from_keeps_all shape (replay xs) p.0 top (replay_families shape xs parts.0) parts.1 a))

-- ---- children that come later

-- the child that an act attaches to a Job that is Cancelling or ended has nobody below it
attached_all : (shape : Shape) (tree : Tree) (who p c : ℕ) (act : JobAct) (kind : JobKind) (tag : ℕ) (cancelled : Bool) → HasFamilies tree
    → Needs shape tree who act → act ≡ Attach p c kind tag cancelled → IsCancellingOrEnded (tree p) → IsAllCancelled (after tree who act) c
attached_all shape tree who p c act kind tag cancelled h n f i = record {
  here = attached_cancelled shape tree who p c act kind tag cancelled h n f i;
  below = λ d b. absurd (nobody d b);
}
  where
    need : Needs shape tree who (Attach p c kind tag cancelled)
    need = subst (Needs shape tree who) f n

    no_child : (d : ℕ) → parent_of (after tree who act d) ≡ Some c → ⊥
    no_child d e =
        parent_was shape tree who d c act _ _ ⊥ (row_step shape tree who act d n) e (λ q. unattached_childless tree c d ⊥ h need.0 q)
        (λ kind' tag' cancelled' f'.
        let need' : Needs shape tree who (Attach c d kind' tag' cancelled') = subst (Needs shape tree who) f' n in
        nobody_has_child cancelled' (tree c) need.0 need'.1)

    nobody : (d : ℕ) → IsBelow (after tree who act) c d → ⊥
    nobody d (IsBelow.is_child _ e) = no_child d e
    nobody d (IsBelow.is_further e _ b q) = nobody e b

late_all_from : (shape : Shape) (tree : Tree) (es : List JobEntry) (p c : ℕ) (P : Type 0) → HasFamilies tree → LegalFrom shape tree es
    → IsCancellingOrEnded (tree p) → parent_of (replay_from tree es c) ≡ Some p → (parent_of (tree c) ≡ Some p → P)
    → (IsAllCancelled (replay_from tree es) c → P) → P
unfolding LegalFrom replay_from
late_all_from shape tree [] p c P h l i e old new = old e
late_all_from shape tree (x ∷ es) p c P h l i e old new =
    let h' = after_families shape tree x.who x.act l.0 h in
    late_all_from shape (after tree x.who x.act) es p c P h' l.1
    (act_keeps IsCancellingOrEnded cancelling_lasts shape tree x.who x.act p l.0 i) e
    (λ q. parent_was shape tree x.who c p x.act _ _ P (row_step shape tree x.who x.act c l.0) q old
    (λ kind tag cancelled f. new (from_keeps_all shape (after tree x.who x.act) es c h' l.1
    (attached_all shape tree x.who p c x.act kind tag cancelled h l.0 f i))))
    new

-- whoever is a child of a Job that is Cancelling or ended was its child then, or all below it is Cancelling or ended
pub late_all : (shape : Shape) (xs ys : List JobEntry) (p c : ℕ) (P : Type 0) → Legal shape ys → IsPrefix xs ys
    → IsCancellingOrEnded (replay xs p) → parent_of (replay ys c) ≡ Some p → (parent_of (replay xs c) ≡ Some p → P)
    → (IsAllCancelled (replay ys) c → P) → P
late_all shape xs ys p c P l pre i e old new =
    let rest = pre.0 in
    let parts = (Legal-append shape xs rest).0 (subst (Legal shape) (sym pre.1) l) in
    let is : replay ys ≡ replay_from (replay xs) rest = ap replay (sym pre.1) ∙ replay-append xs rest in
    late_all_from shape (replay xs) rest p c P (replay_families shape xs parts.0) parts.1 i (ap (λ (t : Tree). parent_of (t c)) (sym is)
    ∙ e) old (λ k. new (subst (λ (t : Tree). IsAllCancelled t c) (sym is) k))
