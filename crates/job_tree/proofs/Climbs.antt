-- A failure goes up, step by step.
use Rattle.std.specs.Prelude.{◌≡◌, ℕ, ◌+◌, ◌≤◌, ◌<◌, Bool, true, false, List, [], ◌∷◌, ◌++◌, Option, Some, None, is_some, option_map, refl}
use mathlib.Core.List.{IsPrefix}
use Rattle.std.proofs.Common.{sym, ap, ◌∙◌, subst, arith, append_assoc}
use Rattle.job_model.specs.declared.acts.JobAct.{JobAct}
use Rattle.job_model.specs.declared.acts.JobAct.TheVariants.{Cancel}
use Rattle.job_model.specs.declared.acts.Reason.TheVariants as reasons
use Rattle.job_model.specs.declared.acts.JobEntry.{JobEntry}
use Rattle.job_model.specs.declared.floor.JobView.{JobView}
use Rattle.job_model.specs.declared.floor.Link.{Link}
use Rattle.job_model.specs.Trees.{Shape, IsShape, Job, Tree, is_supervisor, parent_of}
use Rattle.job_model.specs.Cancels.{own_cancel}
use Rattle.job_model.specs.Needs.{IsFailedChild, Holds}
use Rattle.job_model.specs.Histories.{replay, Legal}
use Rattle.job_model.specs.Floors.{Floor, SameSetting, MayCall}
use Rattle.job_model.specs.Answers.{view_of, LookAnswer, LinkAnswer}
use Rattle.job_model.proofs.Spans.{prefix_self, prefix_then, nothing_more}
use Rattle.job_model.proofs.Lasting.{attached_lasts, parent_lasts}
use Rattle.job_model.proofs.Own.{prefix_keeps}
use Rattle.job_model.proofs.Families.{replay_families}
use Rattle.call_meaning.specs.Seen.{SeenOnJobs, tree_in}
use Rattle.job_tree.specs.Notes.{Noted, OnlyLooked}
use Rattle.job_tree.specs.Passes.{IsFailure, IsPass, IsPartOfPass}
use Rattle.job_tree.specs.Failures.{IsFailedUp, BeginsToFailUp, HasBegunToFailUp}
use Rattle.job_model.specs.Failures.{IsScope, IsSupervisor, StaysBelow, GoesUpTo, FailsUp}
use Rattle.job_model.proofs.Covered.{prefix_keeps_all}
use Rattle.job_tree.proofs.Looks.{looked_self, link_is}
use Rattle.job_tree.proofs.Notes.{noted_looked, noted_then}
use Rattle.job_tree.proofs.PassesTold.{told_noted, pass_noted}
use Rattle.job_model.proofs.FailingUp.{scope_lasts, supervisor_lasts, goes_kept, cancels_below_kept}
use Rattle.job_model.proofs.Ranks.{ranks, are_ranks, ranks_stay, has_children}
use Rattle.job_tree.proofs.Causes.{failure_later}
use Rattle.job_tree.proofs.Walks.{legal_as}

-- ---- looks

view_scope : (b : Bool) (x : Option Job) (v : JobView) → option_map view_of x ≡ Some v → v.kind.scoped ≡ b → IsScope b x
view_scope b None v e h = cc
view_scope b (Some j) v e h = let k : view_of j ≡ v = cc in ap (λ (u : JobView). u.kind.scoped) k ∙ h

view_supervisor : (b : Bool) (x : Option Job) (v : JobView) → option_map view_of x ≡ Some v → v.kind.supervisor ≡ b → IsSupervisor b x
view_supervisor b None v e h = cc
view_supervisor b (Some j) v e h = let k : view_of j ≡ v = cc in ap (λ (u : JobView). u.kind.supervisor) k ∙ h

pub seen_scope : (who row : ℕ) (v : JobView) (b : Bool) (x y z : Floor) → Legal z.shape z.seen → LookAnswer who row x y (Some v)
    → IsPrefix y.seen z.seen → v.kind.scoped ≡ b → IsScope b (replay z.seen row)
seen_scope who row v b x y z l k p h =
    let m = k.1 in
    prefix_keeps _ (scope_lasts b) z.shape m.moment z.seen row l (prefix_then m.moment y.seen z.seen m.before p)
    (view_scope b (replay m.moment row) v m.holds h)

pub seen_supervisor : (who row : ℕ) (v : JobView) (b : Bool) (x y : Floor) → Legal y.shape y.seen → LookAnswer who row x y (Some v)
    → v.kind.supervisor ≡ b → IsSupervisor b (replay y.seen row)
seen_supervisor who row v b x y l k h =
    let m = k.1 in
    prefix_keeps _ (supervisor_lasts b) y.shape m.moment y.seen row l m.before (view_supervisor b (replay m.moment row) v m.holds h)

pub linked_parent : (who row : ℕ) (link : Link) (x y z : Floor) → Legal z.shape z.seen → LinkAnswer who row x y link
    → IsPrefix y.seen z.seen → parent_of (replay z.seen row) ≡ Some link.parent
linked_parent who row link x y z l k p =
    let m = k.1 in
    prefix_keeps _ (parent_lasts link.parent) z.shape m.moment z.seen row l (prefix_then m.moment y.seen z.seen m.before p)
    (link_is (replay m.moment) row (replay m.moment row) link m.holds).0

pub parent_attached : (shape : Shape) (history : List JobEntry) (row p : ℕ) → Legal shape history → parent_of (replay history row) ≡ Some p
    → is_some (replay history p) ≡ true
parent_attached shape history row p l e = has_children (replay history p) row ((replay_families shape history l).listed p row e)

pub may_parent : (who row p : ℕ) (a b : Floor) → MayCall who row a → SameSetting a b → Legal b.shape b.seen
    → parent_of (replay b.seen row) ≡ Some p → MayCall who p b
may_parent who row p a b m same l e = record {
  caller = ap (λ (f : ℕ → Bool). f who) same.callers
      ∙ m.caller;
  attached = parent_attached b.shape b.seen row p l e;
}

pub root_stays : (tree : Tree) (row : ℕ) → row ≡ 0 → StaysBelow tree row
root_stays tree row e = subst (StaysBelow tree) (sym e) StaysBelow.root

-- ---- the reason

failed_child : (p : ℕ) (x : Option Job) → parent_of x ≡ Some p → IsFailure x → IsScope false x → IsFailedChild p x
failed_child p None e f s = absurd f
failed_child p (Some j) e f s = (e, f, s)

no_supervisor : (x : Option Job) → IsSupervisor false x → is_supervisor x ≡ false
no_supervisor None h = refl
no_supervisor (Some j) h = h

pub child_holds : (shape : Shape) (tree : Tree) (who row p : ℕ) → GoesUpTo tree row p → IsFailure (tree row)
    → Holds shape tree who p (reasons.Child row)
child_holds shape tree who row p g f = (failed_child p (tree row) g.parent f g.child, no_supervisor (tree p) g.above)

-- ---- the climb so far

pub record IsClimb (row at : ℕ) (a b : SeenOnJobs) : Type 0 where
  pub acts : List JobAct
  pub noted : Noted acts a b
  pub failed : IsFailure (tree_in b at)
  pub attached : is_some (tree_in b at) ≡ true
  pub on : (ys : List JobEntry) (more : List JobAct) → Legal a.floor.shape ys → IsPrefix b.floor.seen ys → FailsUp (replay ys) at more
      → FailsUp (replay ys) row (acts ++ more)
  pub begun : (ys : List JobEntry) (more : List JobAct) → Legal a.floor.shape ys → IsPrefix b.floor.seen ys
      → BeginsToFailUp (replay ys) at more → BeginsToFailUp (replay ys) row (acts ++ more)

pub first_climb : (row : ℕ) (a : SeenOnJobs) → IsFailure (tree_in a row) → is_some (tree_in a row) ≡ true → IsClimb row row a a
first_climb row a f s = record {
  acts = [];
  noted = noted_looked (record { who = refl; items = refl; looked = looked_self a.who a.floor });
  failed = f;
  attached = s;
  on = λ ys more l p h. h;
  begun = λ ys more l p h. h;
}

pub climb_looked : {row at : ℕ} {a b c : SeenOnJobs} → Legal c.floor.shape c.floor.seen → IsClimb row at a b → OnlyLooked b c
    → IsClimb row at a c
climb_looked {row} {at} {a} {b} {c} l h look =
    let xs : List JobEntry = b.floor.seen in
    let longer = look.looked.longer in
    record {
      acts = h.acts ++ [];
      noted = noted_then h.noted (noted_looked look);
      failed = failure_later c.floor.shape xs c.floor.seen at l longer h.failed;
      attached = prefix_keeps _ attached_lasts c.floor.shape xs c.floor.seen at l longer h.attached;
      on = λ ys more ly p u.
          subst (λ x. FailsUp (replay ys) row (x ++ more)) (sym (nothing_more h.acts))
          (h.on ys more ly (prefix_then xs c.floor.seen ys longer p) u);
      begun = λ ys more ly p u.
          subst (λ x. BeginsToFailUp (replay ys) row (x ++ more)) (sym (nothing_more h.acts))
          (h.begun ys more ly (prefix_then xs c.floor.seen ys longer p) u);
    }

-- one pass more
pub climb_up : {row at p : ℕ} {newly : Bool} {a b c : SeenOnJobs} {count : ℕ} → newly ≡ true → Legal c.floor.shape c.floor.seen
    → IsClimb row at a b → GoesUpTo (tree_in b) at p → IsPass p (reasons.Child at) newly b c count → IsClimb row p a c
climb_up {row} {at} {p} {newly = true} {a} {b} {c} f l h g m =
    let shape : Shape = a.floor.shape in
    let xs : List JobEntry = b.floor.seen in
    let below = m.group.below in
    let acts : List JobAct = Cancel p (reasons.Child at) ∷ below in
    let noted : Noted acts b c = pass_noted m in
    let longer = noted.added.longer in
    record {
      acts = h.acts ++ acts;
      noted = noted_then h.noted noted;
      failed = m.failed refl refl;
      attached = parent_attached c.floor.shape c.floor.seen at p l (goes_kept c.floor.shape xs c.floor.seen at p l longer g).parent;
      on = λ ys more ly pre u.
          let goes = goes_kept shape xs ys at p ly (prefix_then xs c.floor.seen ys longer pre) g in
          let all = prefix_keeps_all shape c.floor.seen ys p ly pre m.all in
          let cancels = cancels_below_kept shape c.floor.seen ys p below ly pre m.cancels in
          subst (FailsUp (replay ys) row) (sym (append_assoc h.acts acts more))
          (h.on ys (acts ++ more) ly (prefix_then xs c.floor.seen ys longer pre)
          (FailsUp.goes_on at p below more _ goes all cancels u refl));
      begun = λ ys more ly pre u.
          let goes = goes_kept shape xs ys at p ly (prefix_then xs c.floor.seen ys longer pre) g in
          let all = prefix_keeps_all shape c.floor.seen ys p ly pre m.all in
          let cancels = cancels_below_kept shape c.floor.seen ys p below ly pre m.cancels in
          subst (BeginsToFailUp (replay ys) row) (sym (append_assoc h.acts acts more))
          (h.begun ys (acts ++ more) ly (prefix_then xs c.floor.seen ys longer pre)
          (BeginsToFailUp.goes_on at p below more _ goes all cancels u refl));
    }
climb_up {row} {at} {p} {newly = false} {a} {b} {c} f l h g m = cc

-- the parent was Cancelling or had ended
pub climb_stops : {row at p : ℕ} {newly : Bool} {a b c : SeenOnJobs} {count : ℕ} → newly ≡ false → Legal c.floor.shape c.floor.seen
    → IsClimb row at a b → GoesUpTo (tree_in b) at p → IsPass p (reasons.Child at) newly b c count → IsFailedUp row a c
climb_stops {row} {at} {p} {newly = true} {a} {b} {c} f l h g m = cc
climb_stops {row} {at} {p} {newly = false} {a} {b} {c} f l h g m =
    let below = m.group.below in
    let noted : Noted below b c = pass_noted m in
    let all : Noted (h.acts ++ below) a c = noted_then h.noted noted in
    let longer = noted.added.longer in
    let goes = goes_kept c.floor.shape b.floor.seen c.floor.seen at p l longer g in
    record {
      acts = h.acts ++ below;
      noted = told_noted all;
      up = h.on c.floor.seen below (legal_as a.floor c.floor all.added.same l) longer (FailsUp.stops at p below goes m.all m.cancels);
    }

-- there was no memory in the pass
pub climb_part : {row at p : ℕ} {a b c : SeenOnJobs} → Legal c.floor.shape c.floor.seen → IsClimb row at a b → GoesUpTo (tree_in b) at p
    → IsPartOfPass p (reasons.Child at) b c → HasBegunToFailUp row a c
climb_part {row} {at} {p} {a} {b} {c} l h g m =
    let acts = own_cancel m.newly p (reasons.Child at) ++ m.below in
    let all : Noted (h.acts ++ acts) a c = noted_then h.noted m.noted in
    let longer = m.noted.added.longer in
    let goes = goes_kept c.floor.shape b.floor.seen c.floor.seen at p l longer g in
    record {
      acts = h.acts ++ acts;
      noted = all;
      up = h.begun c.floor.seen acts (legal_as a.floor c.floor all.added.same l) longer
          (BeginsToFailUp.in_pass at p m.newly m.below goes m.cancels);
    }

-- no parent is cancelled
pub climb_ends : {row at : ℕ} {a b : SeenOnJobs} → Legal b.floor.shape b.floor.seen → IsClimb row at a b → StaysBelow (tree_in b) at
    → IsFailedUp row a b
climb_ends {row} {at} {a} {b} l h s =
    let up = h.on b.floor.seen [] (legal_as a.floor b.floor h.noted.added.same l) (prefix_self b.floor.seen) (FailsUp.ends at s) in
    record {
      acts = h.acts;
      noted = told_noted h.noted;
      up = subst (FailsUp (tree_in b) row) (nothing_more h.acts) up;
    }

-- a parent's rank is less
pub rank_less : (shape : Shape) (xs ys : List JobEntry) (at p : ℕ) → IsShape shape → Legal shape ys → IsPrefix xs ys
    → is_some (replay xs at) ≡ true → parent_of (replay ys at) ≡ Some p → (ranks shape ys).rank p < (ranks shape xs).rank at
rank_less shape xs ys at p s l pre a e =
    let r = are_ranks shape ys s l in
    less ((ranks shape ys).weight at) (ranks_stay shape xs ys at l pre a).0 (r.child p at e)
    (r.heavy at (prefix_keeps _ attached_lasts shape xs ys at l pre a))
  where
    less : {x y z : ℕ} (w : ℕ) → y ≡ x → y ≡ z + w → 1 ≤ w → z < x
    less {x} {y} {z} w f g h = omega arith
