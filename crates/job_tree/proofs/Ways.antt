-- The way of a walk: how far it has come, as the history goes on.
use Rattle.std.specs.Prelude.{◌≡◌, ℕ, ◌*◌, ◌==◌, ◌≤◌, Bool, true, false, List, [], Option, Some, None, refl}
use mathlib.Core.List.{IsPrefix}
use Rattle.std.proofs.Common.{sym, ap, ◌∙◌, subst, arith}
use Rattle.std.proofs.lemmas.Bool.{eqb-true, eq-eqb}
use Rattle.job_model.specs.declared.acts.JobState.{JobState}
use Rattle.job_model.specs.declared.acts.JobState.TheVariants.{Cancelling, Cancelled, Completed}
use Rattle.job_model.specs.declared.acts.Reason.TheVariants as reasons
use Rattle.job_model.specs.declared.acts.JobEntry.{JobEntry}
use Rattle.job_model.specs.Trees.{Shape, IsShape, Job, Tree, is_cancellable, is_cancelled, is_ended, is_among, parent_of, parent_row, row_of}
use Rattle.job_model.specs.Needs.{IsCancelled, Holds}
use Rattle.job_model.specs.Families.{IsBelow, IsCancellingOrEnded, IsEnded, children_of, newest, older, older_sibling}
use Rattle.job_model.specs.Histories.{replay, Legal}
use Rattle.job_model.specs.Laws.{HasFamilies}
use Rattle.job_model.proofs.Lasting.{parent_lasts}
use Rattle.job_model.proofs.Own.{prefix_keeps}
use Rattle.job_model.proofs.Reasons.{reason_holds_on}
use Rattle.job_model.proofs.Families.{replay_families}
use Rattle.job_model.proofs.Ends.{descendants_ended}
use Rattle.job_tree.specs.Passes.{IsNewestOf, HasNoneBelow}
use Rattle.job_model.specs.Cancels.{IsAllCancelled}
use Rattle.job_model.proofs.Covered.{prefix_keeps_all, late_all}
use Rattle.job_model.proofs.Falling.{newest_lightest, older_is_next, oldest_heaviest, falling_light}
use Rattle.job_model.proofs.Ranks.{ranks, are_ranks, ranks_stay, has_parent}

-- each child of p that is newer than c is Cancelling or ended with all below it
abbrev pub AreNewerDone : Tree → (ℕ → ℕ) → ℕ → ℕ → Type 0
AreNewerDone tree w p c = (e : ℕ) → parent_of (tree e) ≡ Some p → w e ≤ w c → (e == c) ≡ false → IsAllCancelled tree e

-- a way from the top down to a row, by Cancelling Jobs, with all newer children beside it done
pub data IsWay (tree : Tree) (w : ℕ → ℕ) (top : ℕ) : ℕ → Type 0 where
  here : IsWay tree w top top
  further : (p c : ℕ) → IsWay tree w top p → parent_of (tree c) ≡ Some p → IsCancelled (tree p) → AreNewerDone tree w p c
      → IsWay tree w top c

cancelled_state : (s : JobState) → is_cancelled s ≡ true → is_cancellable s ≡ false
cancelled_state Cancelling e = refl
cancelled_state Cancelled e = refl
cancelled_state other e = cc

pub cancelled_row : (x : Option Job) → IsCancelled x → IsCancellingOrEnded x
cancelled_row None h = absurd h
cancelled_row (Some j) h = cancelled_state j.state h

ended_state : (s : JobState) → is_ended s ≡ true → is_cancellable s ≡ false
ended_state Cancelled e = refl
ended_state Completed e = refl
ended_state other e = cc

ended_row : (x : Option Job) → IsEnded x → IsCancellingOrEnded x
ended_row None h = absurd h
ended_row (Some j) h = ended_state j.state h

live_state : (s : JobState) → is_cancellable s ≡ false → is_ended s ≡ false → is_cancelled s ≡ true
live_state Cancelling c e = refl
live_state other c e = cc

-- a Job that is Cancelling stays cancelled
pub still_cancelled : (shape : Shape) (xs ys : List JobEntry) (p c : ℕ) → Legal shape ys → IsPrefix xs ys → parent_of (replay xs c) ≡ Some p
    → IsCancelled (replay xs p) → IsCancelled (replay ys p)
still_cancelled shape xs ys p c l pre e h =
    let k : Holds shape (replay xs) 0 c reasons.Parent = subst (λ o. IsCancelled (row_of (replay xs) o)) (sym e) h in
    let m : Holds shape (replay ys) 0 c reasons.Parent = subst (λ es. Holds shape (replay es) 0 c reasons.Parent) pre.1
    (reason_holds_on shape xs pre.0 0 c reasons.Parent (subst (Legal shape) (sym pre.1) l) k) in
    subst (λ o. IsCancelled (row_of (replay ys) o)) (prefix_keeps _ (parent_lasts p) shape xs ys c l pre e) m

newer_kept : (shape : Shape) (xs ys : List JobEntry) (p c : ℕ) → Legal shape ys → IsPrefix xs ys → parent_of (replay xs c) ≡ Some p
    → IsCancelled (replay xs p) → AreNewerDone (replay xs) (ranks shape xs).weight p c
    → AreNewerDone (replay ys) (ranks shape ys).weight p c
newer_kept shape xs ys p c l pre q h done e par le apart =
    late_all shape xs ys p e _ l pre (cancelled_row (replay xs p) h) par
    (λ k. prefix_keeps_all shape xs ys e l pre (done e k (lighter (ranks_stay shape xs ys e l pre (has_parent (replay xs e) p k)).1
    (ranks_stay shape xs ys c l pre (has_parent (replay xs c) p q)).1 le) apart))
    (λ k. k)
  where
    lighter : {a b x y : ℕ} → a ≡ x → b ≡ y → a ≤ b → x ≤ y
    lighter {a} {b} {x} {y} f g m = omega arith

pub way_kept : (shape : Shape) (xs ys : List JobEntry) (top c : ℕ) → Legal shape ys → IsPrefix xs ys
    → IsWay (replay xs) (ranks shape xs).weight top c → IsWay (replay ys) (ranks shape ys).weight top c
way_kept shape xs ys top _ l pre IsWay.here = IsWay.here
way_kept shape xs ys top c l pre (IsWay.further p _ w e h done) =
    IsWay.further p c (way_kept shape xs ys top p l pre w) (prefix_keeps _ (parent_lasts p) shape xs ys c l pre e)
    (still_cancelled shape xs ys p c l pre e h) (newer_kept shape xs ys p c l pre e h done)

-- who stands on a way stands below the top, or is it
pub way_below : (tree : Tree) (w : ℕ → ℕ) (top p c : ℕ) → IsWay tree w top p → parent_of (tree c) ≡ Some p → IsBelow tree top c
way_below tree w top _ c IsWay.here e = IsBelow.is_child c e
way_below tree w top p c (IsWay.further q _ way f h done) e = IsBelow.is_further p c (way_below tree w top q p way f) e

-- ---- down to the newest child

pub record IsStep (tree : Tree) (w : ℕ → ℕ) (top p c : ℕ) : Type 0 where
  pub way : IsWay tree w top c
  pub parent : parent_of (tree c) ≡ Some p
  pub cancelled : IsCancelled (tree p)
  pub below : IsBelow tree top c

newest_of : (c : ℕ) (x : Option Job) → IsNewestOf c x → IsCancellingOrEnded x → IsCancelled x × (newest (children_of x) ≡ Some c)
newest_of c None h i = absurd h
newest_of c (Some j) h i = (live_state j.state i h.0, h.1)

pub step_down : (shape : Shape) (history : List JobEntry) (top at c : ℕ) → IsShape shape → Legal shape history
    → IsWay (replay history) (ranks shape history).weight top at → IsCancellingOrEnded (replay history at)
    → IsNewestOf c (replay history at) → IsStep (replay history) (ranks shape history).weight top at c
step_down shape history top at c s l way i n =
    let tree : Tree = replay history in
    let fam = replay_families shape history l in
    let k = newest_of c (tree at) n i in
    let light = newest_lightest (ranks shape history).weight _ (children_of (tree at)) c ((are_ranks shape history s l).falling at) k.1 in
    let par = fam.parents at c light.among in
    record {
      way = IsWay.further at c way par k.0 (λ e q le apart. absurd
          (let u : true ≡ false = sym (eq-eqb e c (light.alone e (fam.listed at e q) le)) ∙ apart in cc));
      parent = par;
      cancelled = k.0;
      below = way_below tree (ranks shape history).weight top at c way par;
    }

-- ---- over to the next in age

children_beside : (tree : Tree) (at p : ℕ) → parent_of (tree at) ≡ Some p → children_of (parent_row tree at) ≡ children_of (tree p)
children_beside tree at p e = ap (λ o. children_of (row_of tree o)) e

pub record IsStepOver (tree : Tree) (w : ℕ → ℕ) (top at c : ℕ) : Type 0 where
  pub p : ℕ
  pub was : parent_of (tree at) ≡ Some p
  pub step : IsStep tree w top p c
  pub heavier : 3 * w at ≤ w c

pub step_over : (shape : Shape) (history : List JobEntry) (top at c : ℕ) → IsShape shape → Legal shape history
    → IsWay (replay history) (ranks shape history).weight top at → (at == top) ≡ false → IsAllCancelled (replay history) at
    → older_sibling (replay history) at ≡ Some c → IsStepOver (replay history) (ranks shape history).weight top at c
step_over shape history top _ c s l IsWay.here apart all o = absurd (let u : true ≡ false = sym (eq-eqb top top refl) ∙ apart in cc)
step_over shape history top at c s l (IsWay.further p _ way e h done) apart all o =
    let tree : Tree = replay history in
    let w = (ranks shape history).weight in
    let fam = replay_families shape history l in
    let next = older_is_next w _ (children_of (tree p)) at c ((are_ranks shape history s l).falling p)
    (ap (older at) (sym (children_beside tree at p e)) ∙ o) in
    let par = fam.parents p c next.among in
    record {
      p = p;
      was = e;
      step = record {
        way = IsWay.further p c way par h (λ d q le other. by_test d q (next.between d (fam.listed p d q) le other) (d == at) refl);
        parent = par;
        cancelled = h;
        below = way_below tree w top p c way par;
      };
      heavier = next.heavier;
    }
  where
    by_test : (d : ℕ) → parent_of (replay history d) ≡ Some p → (ranks shape history).weight d ≤ (ranks shape history).weight at
        → (b : Bool) → (d == at) ≡ b → IsAllCancelled (replay history) d
    by_test d q le true k = subst (IsAllCancelled (replay history)) (sym (eqb-true d at k)) all
    by_test d q le false k = done d q le k

-- ---- nothing below

nobody_below : (tree : Tree) (at d : ℕ) → HasFamilies tree → children_of (tree at) ≡ [] → IsBelow tree at d → ⊥
nobody_below tree at d fam none (IsBelow.is_child _ e) = let u : is_among d [] ≡ true = ap (is_among d) (sym none) ∙ fam.listed at d e in cc
nobody_below tree at d fam none (IsBelow.is_further c _ b e) = nobody_below tree at c fam none b

pub step_none : (shape : Shape) (history : List JobEntry) (at : ℕ) → Legal shape history → IsCancellingOrEnded (replay history at)
    → HasNoneBelow (replay history at) → IsAllCancelled (replay history) at
step_none shape history at l i n = by_row (replay history at) refl n
  where
    by_state : (j : Job) → replay history at ≡ Some j → (b : Bool) → is_ended j.state ≡ b → (is_ended j.state ≡ false → j.children ≡ [])
        → IsAllCancelled (replay history) at
    by_state j e true k n = record {
      here = i;
      below = λ d b. ended_row (replay history d)
          (descendants_ended shape history at d l (subst IsEnded (sym e) k) b);
    }
    by_state j e false k n = record {
      here = i;
      below = λ d b. absurd
          (nobody_below (replay history) at d (replay_families shape history l) (ap children_of e ∙ n k) b);
    }

    by_row : (x : Option Job) → replay history at ≡ x → HasNoneBelow x → IsAllCancelled (replay history) at
    by_row None e n = absurd n
    by_row (Some j) e n = by_state j e (is_ended j.state) refl n

-- ---- up from the oldest child

below_then : (tree : Tree) (a b c : ℕ) → IsBelow tree a b → IsBelow tree b c → IsBelow tree a c
below_then tree a b c h (IsBelow.is_child _ e) = IsBelow.is_further b c h e
below_then tree a b c h (IsBelow.is_further d _ k e) = IsBelow.is_further d c (below_then tree a b d h k) e

all_children : (tree : Tree) (p d : ℕ) → ((e : ℕ) → parent_of (tree e) ≡ Some p → IsAllCancelled tree e) → IsBelow tree p d
    → IsAllCancelled tree d
all_children tree p d h (IsBelow.is_child _ e) = h d e
all_children tree p d h (IsBelow.is_further c _ b e) =
    let k = all_children tree p c h b in
    record { here = k.below d (IsBelow.is_child d e); below = λ x m. k.below x (below_then tree c d x (IsBelow.is_child d e) m) }

pub record IsStepUp (tree : Tree) (w : ℕ → ℕ) (top at p : ℕ) : Type 0 where
  pub way : IsWay tree w top p
  pub parent : parent_of (tree at) ≡ Some p
  pub all : IsAllCancelled tree p
  pub heavier : 3 * w at ≤ w p

pub step_up : (shape : Shape) (history : List JobEntry) (top at p : ℕ) → IsShape shape → Legal shape history
    → IsWay (replay history) (ranks shape history).weight top at → (at == top) ≡ false → IsAllCancelled (replay history) at
    → parent_of (replay history at) ≡ Some p → older_sibling (replay history) at ≡ None
    → IsStepUp (replay history) (ranks shape history).weight top at p
step_up shape history top _ p s l IsWay.here apart all e o = absurd (let u : true ≡ false = sym (eq-eqb top top refl) ∙ apart in cc)
step_up shape history top at p s l (IsWay.further q _ way f h done) apart all e o =
    subst (IsStepUp (replay history) (ranks shape history).weight top at) (let u : q ≡ p = (let v : Some q ≡ Some p = sym f ∙ e in cc) in u)
    (record {
      way = way;
      parent = f;
      all = record { here = cancelled_row (replay history q) h; below = λ d b. (all_children (replay history) q d each b).here };
      heavier = (falling_light (ranks shape history).weight _ (children_of (replay history q)) at ((are_ranks shape history s l).falling q)
          listed).1;
    })
  where
    listed : is_among at (children_of (replay history q)) ≡ true
    listed = (replay_families shape history l).listed q at f

    by_test : (d : ℕ) → parent_of (replay history d) ≡ Some q → (b : Bool) → (d == at) ≡ b → IsAllCancelled (replay history) d
    by_test d k true m = subst (IsAllCancelled (replay history)) (sym (eqb-true d at m)) all
    by_test d k false m =
        done d k (oldest_heaviest (ranks shape history).weight _ (children_of (replay history q)) at d
        ((are_ranks shape history s l).falling q) (ap (older at) (sym (children_beside (replay history) at q f))
        ∙ o) listed ((replay_families shape history l).listed q d k)) m

    each : (d : ℕ) → parent_of (replay history d) ≡ Some q → IsAllCancelled (replay history) d
    each d k = by_test d k (d == at) refl
