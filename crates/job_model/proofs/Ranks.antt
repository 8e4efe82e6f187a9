-- A number for each Job that says how far a walk over the tree has come where it stands there, whatever is attached later.
--
-- An attached row weighs a third of each row that was attached before it. Its rank is the weight of all on its path from
-- the root. So the rank grows from a parent to a child, and from a child to an older one by more than all below it.
use Rattle.std.specs.Prelude.{◌≡◌, ℕ, zero, suc, ◌+◌, ◌*◌, ◌==◌, ◌≤◌, Bool, true, false, List, [], ◌∷◌, ◌++◌, length, Option, Some, None, is_some, if◌then◌else◌, refl}
use mathlib.Core.List.{IsPrefix}
use Rattle.std.proofs.Common.{sym, ap, ◌∙◌, subst, arith}
use Rattle.std.proofs.lemmas.Bool.{eqb-true}
use Rattle.std.proofs.lemmas.Bool.Decides.{nat_tests}
use Rattle.job_model.specs.declared.acts.JobKind.{JobKind}
use Rattle.job_model.specs.declared.acts.JobAct.{JobAct}
use Rattle.job_model.specs.declared.acts.JobAct.TheVariants.{Attach, Start}
use Rattle.job_model.specs.declared.acts.JobEntry.{JobEntry}
use Rattle.job_model.specs.Trees.{Shape, IsShape, Job, Tree, root, start, parent_of, is_among}
use Rattle.job_model.specs.Acts.{attaches}
use Rattle.job_model.specs.Effects.{after}
use Rattle.job_model.specs.Needs.{Needs, MayHaveChild}
use Rattle.job_model.specs.Families.{children_of}
use Rattle.job_model.specs.Histories.{replay, replay_from, Legal, LegalFrom}
use Rattle.job_model.specs.Laws.{HasFamilies}
use Rattle.job_model.proofs.Rows.{same}
use Rattle.job_model.proofs.Steps.{RowStep, row_step}
use Rattle.job_model.proofs.Lasting.{act_keeps, attached_lasts}
use Rattle.job_model.proofs.Families.{parent_was, after_families, start_families}
use Rattle.job_model.proofs.Claims.{attached_was}
use Rattle.job_model.proofs.Short.{legal_is_short}
use Rattle.job_model.proofs.Falling.{IsFalling, falling_push, falling_same}

pub record Ranks : Type 0 where
  pub rank : ℕ → ℕ
  pub weight : ℕ → ℕ

unfoldable pub power : ℕ → ℕ
power zero = 1
power (suc n) = 3 * power n

power_next : (n : ℕ) → power (suc n) ≡ 3 * power n
unfolding power
power_next n = refl

power_some : (n : ℕ) → 1 ≤ power n
unfolding power
power_some zero = omega arith
power_some (suc n) = let k = power_some n in omega arith

-- the child that an act attaches gets this weight
abbrev pub rank_step : ℕ → Ranks → JobAct → Ranks
rank_step w s (Attach p q kind tag cancelled) = record {
  rank = λ r. if q == r then s.rank p + w else s.rank r;
  weight = λ r. if q ==
      r then w else s.weight r;
}
rank_step w s (Start q) = s
rank_step w s other = s

unfoldable pub ranks_from : ℕ → Ranks → List JobEntry → Ranks
ranks_from n s [] = s
ranks_from zero s (e ∷ es) = s
ranks_from (suc n) s (e ∷ es) = ranks_from n (rank_step (power n) s e.act) es

abbrev pub first_ranks : ℕ → Ranks
first_ranks n = record { rank = λ r. 0; weight = λ r. power n }

-- the ranks that a history gives
abbrev pub ranks : Shape → List JobEntry → Ranks
ranks shape history = ranks_from (6 * shape.rows) (first_ranks (6 * shape.rows)) history

abbrev pub top_rank : Shape → ℕ
top_rank shape = power (6 * shape.rows)

-- ---- what holds of them

pub record AreRanks (next bound : ℕ) (tree : Tree) (s : Ranks) : Type 0 where
  pub heavy : (c : ℕ) → is_some (tree c) ≡ true → next ≤ s.weight c
  pub child : (p c : ℕ) → parent_of (tree c) ≡ Some p → s.rank c ≡ s.rank p + s.weight c
  pub falling : (p : ℕ) → IsFalling s.weight (s.weight p) (children_of (tree p))
  pub within : (c : ℕ) → is_some (tree c) ≡ true → s.rank c + s.weight c ≤ bound

-- an act changes the rank of the row that it attaches alone
rank_stays : (w : ℕ) (s : Ranks) (act : JobAct) (r : ℕ) → attaches r act ≡ false → ((rank_step w s act).rank r ≡ s.rank r)
    × ((rank_step w s act).weight r ≡ s.weight r)
rank_stays w s (Attach p q kind tag cancelled) r h = (
  ap (λ b. if b then s.rank p + w else s.rank r) (turned q r h),
  ap (λ b. if b then w else s.weight r) (turned q r h),
)
  where
    turned : (a b : ℕ) → (b == a) ≡ false → (a == b) ≡ false
    turned a b e = grind (arith, nat_tests)
rank_stays w s (Start q) r h = (refl, refl)
rank_stays w s other r h = (refl, refl)

-- an attached row is not attached again
not_again : (shape : Shape) (tree : Tree) (who : ℕ) (act : JobAct) (r : ℕ) → Needs shape tree who act → is_some (tree r) ≡ true
    → attaches r act ≡ false
not_again shape tree who (Attach p q kind tag cancelled) r n a = by_test (r == q) refl
  where
    by_test : (b : Bool) → (r == q) ≡ b → (r == q) ≡ false
    by_test true e = absurd (let u : false ≡ true = sym (ap is_some n.0) ∙ ap (λ z. is_some (tree z)) (sym (eqb-true r q e)) ∙ a in cc)
    by_test false e = e
not_again shape tree who (Start q) r n a = refl
not_again shape tree who other r n a = refl

attached_stays : (shape : Shape) (tree : Tree) (who w : ℕ) (s : Ranks) (act : JobAct) (r : ℕ) → Needs shape tree who act
    → is_some (tree r) ≡ true → ((rank_step w s act).rank r ≡ s.rank r) × ((rank_step w s act).weight r ≡ s.weight r)
attached_stays shape tree who w s act r n a = rank_stays w s act r (not_again shape tree who act r n a)

-- the new child's
rank_new : (w : ℕ) (s : Ranks) (p c : ℕ) (kind : JobKind) (tag : ℕ) (cancelled : Bool)
    → ((rank_step w s (Attach p c kind tag cancelled)).rank c ≡ s.rank p + w)
    × ((rank_step w s (Attach p c kind tag cancelled)).weight c ≡ w)
rank_new w s p c kind tag cancelled = (
  ap (λ b. if b then s.rank p + w else s.rank c) (same c),
  ap (λ b. if b then w else s.weight c) (same c),
)

parent_attached : (x : Option Job) (cancelled : Bool) → MayHaveChild cancelled x → is_some x ≡ true
parent_attached None cancelled m = absurd m
parent_attached (Some j) cancelled m = refl

pub has_parent : (x : Option Job) (p : ℕ) → parent_of x ≡ Some p → is_some x ≡ true
has_parent None p e = cc
has_parent (Some j) p e = refl

pub has_children : (x : Option Job) (c : ℕ) → is_among c (children_of x) ≡ true → is_some x ≡ true
has_children None c e = cc
has_children (Some j) c e = refl

-- the children of a row after an act: those before, or one more
children_were : (shape : Shape) (tree : Tree) (who q : ℕ) (act : JobAct) (x y : Option Job) (P : Type 0) → RowStep shape tree who q act x y
    → (children_of y ≡ children_of x → P)
    → ((c : ℕ) (kind : JobKind) (tag : ℕ) (cancelled : Bool) → act ≡ Attach q c kind tag cancelled → children_of y ≡ children_of x ++ c ∷ []
    → P) → P
children_were shape tree who q _ _ _ P (RowStep.is_attached p kind tag cancelled m i) old new = old refl
children_were shape tree who q _ _ _ P (RowStep.has_child r kind tag cancelled j none m) old new = new r kind tag cancelled refl refl
children_were shape tree who q _ _ _ P (RowStep.is_started j n) old new = old refl
children_were shape tree who q _ _ _ P other old new = old refl

-- which row an act attaches
attach_names : (r : ℕ) (act : JobAct) (P : Type 0) → attaches r act ≡ true
    → ((p : ℕ) (kind : JobKind) (tag : ℕ) (cancelled : Bool) → act ≡ Attach p r kind tag cancelled → P) → P
attach_names r (Attach p q kind tag cancelled) P e h = h p kind tag cancelled
    (ap (λ z. Attach p z kind tag cancelled) (sym (eqb-true r q e)))
attach_names r (Start q) P e h = cc
attach_names r other P e h = cc

step_heavy : (shape : Shape) (tree : Tree) (who w bound : ℕ) (s : Ranks) (act : JobAct) → Needs shape tree who act
    → AreRanks (3 * w) bound tree s → (c : ℕ) → is_some (after tree who act c) ≡ true → w ≤ (rank_step w s act).weight c
step_heavy shape tree who w bound s act n h c a =
    attached_was shape tree who c act _ _ _ (row_step shape tree who act c n) a
    (λ k. more (attached_stays shape tree who w s act c n k).1 (h.heavy c k))
    (λ k. attach_names c act _ k (λ p kind tag cancelled f. subst (λ x. w ≤ (rank_step w s x).weight c) (sym f)
    (equal (rank_new w s p c kind tag cancelled).1)))
  where
    more : {x y : ℕ} → x ≡ y → 3 * w ≤ y → w ≤ x
    more {x} {y} e k = omega arith

    equal : {x : ℕ} → x ≡ w → w ≤ x
    equal {x} e = omega arith

step_child : (shape : Shape) (tree : Tree) (who w bound : ℕ) (s : Ranks) (act : JobAct) → HasFamilies tree → Needs shape tree who act
    → AreRanks (3 * w) bound tree s → (p c : ℕ) → parent_of (after tree who act c) ≡ Some p
    → (rank_step w s act).rank c ≡ (rank_step w s act).rank p + (rank_step w s act).weight c
step_child shape tree who w bound s act fam n h p c e =
    parent_was shape tree who c p act _ _ _ (row_step shape tree who act c n) e
    (λ k.
    let u = attached_stays shape tree who w s act c n (has_parent (tree c) p k) in
    let v = attached_stays shape tree who w s act p n (has_children (tree p) c (fam.listed p c k)) in
    sums u.0 u.1 v.0 (h.child p c k))
    (λ kind tag cancelled f.
    let need : Needs shape tree who (Attach p c kind tag cancelled) = subst (Needs shape tree who) f n in
    let v = attached_stays shape tree who w s (Attach p c kind tag cancelled) p need (parent_attached (tree p) cancelled need.1) in
    let u = rank_new w s p c kind tag cancelled in
    subst (λ x. (rank_step w s x).rank c ≡ (rank_step w s x).rank p + (rank_step w s x).weight c) (sym f) (sums u.0 u.1 v.0 refl))
  where
    sums : {a b c x y z : ℕ} → a ≡ x → b ≡ y → c ≡ z → x ≡ z + y → a ≡ c + b
    sums {a} {b} {c} {x} {y} {z} p q r e = omega arith

step_within : (shape : Shape) (tree : Tree) (who w bound : ℕ) (s : Ranks) (act : JobAct) → Needs shape tree who act
    → AreRanks (3 * w) bound tree s → (c : ℕ) → is_some (after tree who act c) ≡ true
    → (rank_step w s act).rank c + (rank_step w s act).weight c ≤ bound
step_within shape tree who w bound s act n h c a =
    attached_was shape tree who c act _ _ _ (row_step shape tree who act c n) a
    (λ k. let u = attached_stays shape tree who w s act c n k in old (s.rank c) (s.weight c) u.0 u.1 (h.within c k))
    (λ k. attach_names c act _ k (λ p kind tag cancelled f.
    let need : Needs shape tree who (Attach p c kind tag cancelled) = subst (Needs shape tree who) f n in
    let at = parent_attached (tree p) cancelled need.1 in
    let u = rank_new w s p c kind tag cancelled in
    subst (λ x. (rank_step w s x).rank c + (rank_step w s x).weight c ≤ bound) (sym f)
    (new (s.rank p) (s.weight p) u.0 u.1 (h.heavy p at) (h.within p at))))
  where
    old : {a b : ℕ} (x y : ℕ) → a ≡ x → b ≡ y → x + y ≤ bound → a + b ≤ bound
    old {a} {b} x y p q r = omega arith

    new : {a b : ℕ} (x y : ℕ) → a ≡ x + w → b ≡ w → 3 * w ≤ y → x + y ≤ bound → a + b ≤ bound
    new {a} {b} x y p q r m = omega arith

step_falling : (shape : Shape) (tree : Tree) (who w bound : ℕ) (s : Ranks) (act : JobAct) → 1 ≤ w → HasFamilies tree
    → Needs shape tree who act → AreRanks (3 * w) bound tree s → (p : ℕ)
    → IsFalling (rank_step w s act).weight ((rank_step w s act).weight p) (children_of (after tree who act p))
step_falling shape tree who w bound s act some fam n h p =
    children_were shape tree who p act _ _ _ (row_step shape tree who act p n)
    (λ e. subst (IsFalling (rank_step w s act).weight ((rank_step w s act).weight p)) (sym e) (same_order e))
    (λ c kind tag cancelled f e.
    let need : Needs shape tree who (Attach p c kind tag cancelled) = subst (Needs shape tree who) f n in
    let at = parent_attached (tree p) cancelled need.1 in
    let u : (rank_step w s act).weight c ≡ w = ap (λ x. (rank_step w s x).weight c) f ∙ (rank_new w s p c kind tag cancelled).1 in
    subst (IsFalling (rank_step w s act).weight ((rank_step w s act).weight p)) (sym e)
    (falling_push (rank_step w s act).weight ((rank_step w s act).weight p) (children_of (tree p)) c
    (kept at)
    (one u)
    (light u (attached_stays shape tree who w s act p n at).1 (h.heavy p at))
    (λ d m. light u (sibling d m) (h.heavy d (child_attached d m)))))
  where
    child_attached : (d : ℕ) → is_among d (children_of (tree p)) ≡ true → is_some (tree d) ≡ true
    child_attached d m = has_parent (tree d) p (fam.parents p d m)

    sibling : (d : ℕ) → is_among d (children_of (tree p)) ≡ true → (rank_step w s act).weight d ≡ s.weight d
    sibling d m = (attached_stays shape tree who w s act d n (child_attached d m)).1

    kept : is_some (tree p) ≡ true → IsFalling (rank_step w s act).weight ((rank_step w s act).weight p) (children_of (tree p))
    kept at = falling_same s.weight (rank_step w s act).weight (s.weight p) ((rank_step w s act).weight p) (children_of (tree p))
        (sym (attached_stays shape tree who w s act p n at).1) sibling (h.falling p)

    by_row : (x : Option Job) → tree p ≡ x → IsFalling (rank_step w s act).weight ((rank_step w s act).weight p) (children_of x)
    by_row None e = tt
    by_row (Some j) e = subst (λ x. IsFalling (rank_step w s act).weight ((rank_step w s act).weight p) (children_of x)) e
        (kept (ap is_some e))

    same_order : children_of (after tree who act p) ≡ children_of (tree p)
        → IsFalling (rank_step w s act).weight ((rank_step w s act).weight p) (children_of (tree p))
    same_order e = by_row (tree p) refl

    one : {x : ℕ} → x ≡ w → 1 ≤ x
    one {x} e = let k = some in omega arith

    light : {x y z : ℕ} → x ≡ w → y ≡ z → 3 * w ≤ z → 3 * x ≤ y
    light {x} {y} {z} p q r = omega arith

after_ranks : (shape : Shape) (tree : Tree) (who w bound : ℕ) (s : Ranks) (act : JobAct) → 1 ≤ w → HasFamilies tree
    → Needs shape tree who act → AreRanks (3 * w) bound tree s → AreRanks w bound (after tree who act) (rank_step w s act)
after_ranks shape tree who w bound s act some fam n h = record {
  heavy = step_heavy shape tree who w bound s act n h;
  child = step_child shape tree who w bound s act fam n h;
  falling = step_falling shape tree who w bound s act some fam n h;
  within = step_within shape tree who w bound s act n h;
}

from_ranks : (shape : Shape) (n bound : ℕ) (tree : Tree) (s : Ranks) (es : List JobEntry) → length es ≤ n → HasFamilies tree
    → LegalFrom shape tree es → AreRanks (power n) bound tree s → AreRanks 1 bound (replay_from tree es) (ranks_from n s es)
unfolding LegalFrom replay_from ranks_from
from_ranks shape n bound tree s [] le fam l h = record {
  heavy = λ c a. less (power n) (s.weight c) (power_some n) (h.heavy c a);
  child =
      h.child;
  falling = h.falling;
  within = h.within;
}
  where
    less : (a b : ℕ) → 1 ≤ a → a ≤ b → 1 ≤ b
    less a b p q = omega arith
from_ranks shape zero bound tree s (e ∷ es) le fam l h = absurd (too_long (length es) le)
  where
    too_long : (k : ℕ) → suc k ≤ 0 → ⊥
    too_long k p = omega arith
from_ranks shape (suc n) bound tree s (e ∷ es) le fam l h =
    from_ranks shape n bound (after tree e.who e.act) (rank_step (power n) s e.act) es (shorter (length es) n le)
    (after_families shape tree e.who e.act l.0 fam) l.1
    (after_ranks shape tree e.who (power n) bound s e.act (power_some n) fam l.0 (subst (λ x. AreRanks x bound tree s) (power_next n) h))
  where
    shorter : (k n : ℕ) → suc k ≤ suc n → k ≤ n
    shorter k n p = omega arith

start_ranks : (n : ℕ) → AreRanks (power n) (power n) start (first_ranks n)
start_ranks n = record {
  heavy = λ c a. omega arith;
  child = λ p c e. absurd (no_parent (c == 0) e);
  falling = λ p. no_children (p == 0) (power n);
  within = λ c a. omega arith;
}
  where
    no_parent : (b : Bool) {p : ℕ} → parent_of (if b then Some root else None) ≡ Some p → ⊥
    no_parent true e = cc
    no_parent false e = cc

    no_children : (b : Bool) (m : ℕ) → IsFalling (λ r. power n) m (children_of (if b then Some root else None))
    no_children true m = tt
    no_children false m = tt

pub are_ranks : (shape : Shape) (history : List JobEntry) → IsShape shape → Legal shape history
    → AreRanks 1 (top_rank shape) (replay history) (ranks shape history)
are_ranks shape history s l = from_ranks shape (6 * shape.rows) (top_rank shape) start (first_ranks (6 * shape.rows)) history
    (legal_is_short shape history s l) start_families l (start_ranks (6 * shape.rows))

-- ---- they stay

from_stays : (shape : Shape) (n : ℕ) (tree : Tree) (s : Ranks) (es : List JobEntry) (r : ℕ) → LegalFrom shape tree es
    → is_some (tree r) ≡ true → ((ranks_from n s es).rank r ≡ s.rank r) × ((ranks_from n s es).weight r ≡ s.weight r)
unfolding LegalFrom ranks_from
from_stays shape n tree s [] r l a = (refl, refl)
from_stays shape zero tree s (e ∷ es) r l a = (refl, refl)
from_stays shape (suc n) tree s (e ∷ es) r l a =
    let k = from_stays shape n (after tree e.who e.act) (rank_step (power n) s e.act) es r l.1
    (act_keeps _ attached_lasts shape tree e.who e.act r l.0 a) in
    let u = attached_stays shape tree e.who (power n) s e.act r l.0 a in
    (k.0 ∙ u.0, k.1 ∙ u.1)

appended_stays : (shape : Shape) (n : ℕ) (tree : Tree) (s : Ranks) (xs ys : List JobEntry) (r : ℕ) → LegalFrom shape tree (xs ++ ys)
    → is_some (replay_from tree xs r) ≡ true → ((ranks_from n s (xs ++ ys)).rank r ≡ (ranks_from n s xs).rank r)
    × ((ranks_from n s (xs ++ ys)).weight r ≡ (ranks_from n s xs).weight r)
unfolding LegalFrom replay_from ranks_from
appended_stays shape n tree s [] ys r l a = from_stays shape n tree s ys r l a
appended_stays shape zero tree s (e ∷ xs) ys r l a = (refl, refl)
appended_stays shape (suc n) tree s (e ∷ xs) ys r l a =
    appended_stays shape n (after tree e.who e.act) (rank_step (power n) s e.act) xs ys r l.1 a

pub ranks_stay : (shape : Shape) (xs ys : List JobEntry) (r : ℕ) → Legal shape ys → IsPrefix xs ys → is_some (replay xs r) ≡ true
    → ((ranks shape ys).rank r ≡ (ranks shape xs).rank r) × ((ranks shape ys).weight r ≡ (ranks shape xs).weight r)
ranks_stay shape xs ys r l p a =
    subst (λ es. ((ranks shape es).rank r ≡ (ranks shape xs).rank r) × ((ranks shape es).weight r ≡ (ranks shape xs).weight r)) p.1
    (appended_stays shape (6 * shape.rows) start (first_ranks (6 * shape.rows)) xs p.0 r (subst (Legal shape) (sym p.1) l) a)
