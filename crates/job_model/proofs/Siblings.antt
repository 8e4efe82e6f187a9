-- The order in which children stand, and how many of them live, as the tree changes.
use Rattle.std.specs.Prelude.{◌≡◌, ℕ, ◌+◌, ◌==◌, Bool, true, false, not, ◌||◌, List, [], ◌∷◌, ◌++◌, length, filter, Option, Some, None, option_map, if◌then◌else◌, refl}
use Rattle.std.specs.List.{IsDistinct, AllByRecursion}
use Rattle.std.proofs.lemmas.List.{length-append}
use Rattle.std.proofs.lemmas.List.Elements.{filter-append}
use Rattle.std.proofs.Common.{sym, ap, ◌∙◌, subst, arith}
use Rattle.std.proofs.lemmas.Bool.{eqb-true, or_parts}
use Rattle.std.proofs.lemmas.Bool.Decides.{nat_tests}
use Rattle.job_model.specs.declared.acts.JobKind.{JobKind}
use Rattle.job_model.specs.Trees.{Job, Tree, is_among, living, parent_of, row_of, was_told}
use Rattle.job_model.specs.Effects.{change, put_row, new_child, with_child, with_told}
use Rattle.job_model.specs.Needs.{MayHaveChild}
use Rattle.job_model.specs.Families.{IsEnded, newest, newest_after, older, older_after, children_of, older_sibling}
use Rattle.job_model.specs.Laws.{HasFamilies}
use Rattle.job_model.proofs.Rows.{same, among-push, among_last}
use Rattle.job_model.proofs.Families.{apart_rows}

-- ---- one row changes

-- a change that leaves a Job its parent and its children
pub record KeepsFamily (f : Job → Job) : Type 0 where
  pub parent : (j : Job) → (f j).parent ≡ j.parent
  pub children : (j : Job) → (f j).children ≡ j.children

parent_kept : (f : Job → Job) → KeepsFamily f → (x : Option Job) → parent_of (option_map f x) ≡ parent_of x
parent_kept f k None = refl
parent_kept f k (Some j) = k.parent j

children_kept : (f : Job → Job) → KeepsFamily f → (x : Option Job) → children_of (option_map f x) ≡ children_of x
children_kept f k None = refl
children_kept f k (Some j) = k.children j

-- what a fact of a row says of the changed tree
pub changed_at : {A : Type 0} (F : Option Job → A) (r : ℕ) (f : Job → Job) (tree : Tree) → ((x : Option Job) → F (option_map f x) ≡ F x)
    → (q : ℕ) → F (change r f tree q) ≡ F (tree q)
changed_at F r f tree h q = by_test (r == q) refl
  where
    by_test : (b : Bool) → (r == q) ≡ b → F (if b then option_map f (tree r) else tree q) ≡ F (tree q)
    by_test true e = h (tree r) ∙ ap (λ u. F (tree u)) (eqb-true r q e)
    by_test false e = refl

changed_children : (r : ℕ) (f : Job → Job) (tree : Tree) → KeepsFamily f → (o : Option ℕ)
    → children_of (row_of (change r f tree) o) ≡ children_of (row_of tree o)
changed_children r f tree k None = refl
changed_children r f tree k (Some p) = changed_at children_of r f tree (children_kept f k) p

pub sibling_kept : (r : ℕ) (f : Job → Job) (tree : Tree) → KeepsFamily f → (q : ℕ)
    → older_sibling (change r f tree) q ≡ older_sibling tree q
sibling_kept r f tree k q =
    ap (λ o. older q (children_of (row_of (change r f tree) o))) (changed_at parent_of r f tree (parent_kept f k) q)
    ∙ ap (λ l. older q l) (changed_children r f tree k (parent_of (tree q)))

-- ---- the order of children

pub older_kept : (o : Option ℕ) (c r : ℕ) (l : List ℕ) → is_among c l ≡ true → older_after o c (l ++ r ∷ []) ≡ older_after o c l
older_kept o c r [] e = cc
older_kept o c r (x ∷ xs) e = by_test (c == x) refl e (λ f. older_kept (Some x) c r xs f)
  where
    by_test : (b : Bool) → (c == x) ≡ b → (b || is_among c xs) ≡ true
        → (is_among c xs ≡ true → older_after (Some x) c (xs ++ r ∷ []) ≡ older_after (Some x) c xs)
        → (if b then o else older_after (Some x) c (xs ++ r ∷ [])) ≡ (if b then o else older_after (Some x) c xs)
    by_test true k h rest = refl
    by_test false k h rest = rest h

abbrev pub newest_from : Option ℕ → List ℕ → Option ℕ
newest_from o [] = o
newest_from o (x ∷ xs) = newest_from (Some x) xs

newest_from-some : (x : ℕ) (xs : List ℕ) → newest_from (Some x) xs ≡ Some (newest_after x xs)
newest_from-some x [] = refl
newest_from-some x (y ∷ ys) = newest_from-some y ys

pub newest_from-none : (l : List ℕ) → newest_from None l ≡ newest l
newest_from-none [] = refl
newest_from-none (x ∷ xs) = newest_from-some x xs

older_last_after : (o : Option ℕ) (r : ℕ) (l : List ℕ) → is_among r l ≡ false → older_after o r (l ++ r ∷ []) ≡ newest_from o l
older_last_after o r [] e = ap (λ b. if b then o else None) (same r)
older_last_after o r (x ∷ xs) e = by_test (r == x) refl e (λ f. older_last_after (Some x) r xs f)
  where
    by_test : (b : Bool) → (r == x) ≡ b → (b || is_among r xs) ≡ false
        → (is_among r xs ≡ false → older_after (Some x) r (xs ++ r ∷ []) ≡ newest_from (Some x) xs)
        → (if b then o else older_after (Some x) r (xs ++ r ∷ [])) ≡ newest_from (Some x) xs
    by_test true k h rest = cc
    by_test false k h rest = rest h

-- before the newest child stands the one that was the newest
pub older_last : (r : ℕ) (l : List ℕ) → is_among r l ≡ false → older r (l ++ r ∷ []) ≡ newest l
older_last r l e = older_last_after None r l e ∙ newest_from-none l

newest_after-push : (c r : ℕ) (l : List ℕ) → newest_after c (l ++ r ∷ []) ≡ r
newest_after-push c r [] = refl
newest_after-push c r (x ∷ xs) = newest_after-push x r xs

pub newest-push : (r : ℕ) (l : List ℕ) → newest (l ++ r ∷ []) ≡ Some r
newest-push r [] = refl
newest-push r (x ∷ xs) = ap (λ n. Some n) (newest_after-push x r xs)

-- ---- how many children live

longer : (x : ℕ) (l : List ℕ) → length l + 1 ≡ length (x ∷ l)
longer x l = grind arith

both : (b : Bool) (x : ℕ) (l m : List ℕ) → length l + 1 ≡ length m → length (if b then x ∷ l else l) + 1 ≡ length (if b then x ∷ m else m)
both true x l m e = grind arith
both false x l m e = e

pub kept_last : (f : ℕ → Bool) (r : ℕ) (l : List ℕ) → f r ≡ true → length (filter f (l ++ r ∷ [])) ≡ length (filter f l) + 1
kept_last f r l e =
    ap length (filter-append f l (r ∷ [])) ∙ length-append (filter f l) (filter f (r ∷ []))
    ∙ ap (λ b. length (filter f l) + length (if b then r ∷ [] else [])) e

same_filter : (f g : ℕ → Bool) (c : ℕ) → ((d : ℕ) → (c == d) ≡ false → g d ≡ f d) → (l : List ℕ) → is_among c l ≡ false
    → filter g l ≡ filter f l
same_filter f g c h [] e = refl
same_filter f g c h (x ∷ xs) e =
    ap (λ b. if b then x ∷ filter g xs else filter g xs) (h x (or_parts (c == x) (is_among c xs) e).0)
    ∙ ap (λ l. if f x then x ∷ l else l) (same_filter f g c h xs (or_parts (c == x) (is_among c xs) e).1)

none_among : (x : ℕ) (xs : List ℕ) → AllByRecursion (λ y. (x == y) ≡ false) xs → is_among x xs ≡ false
none_among x [] h = refl
none_among x (y ∷ ys) h = ap (λ b. b || is_among x ys) h.0 ∙ none_among x ys h.1

-- one of them lives no more
pub one_fewer : (f g : ℕ → Bool) (c : ℕ) → f c ≡ true → g c ≡ false → ((d : ℕ) → (c == d) ≡ false → g d ≡ f d) → (l : List ℕ)
    → IsDistinct (λ (u : ℕ) (v : ℕ). u == v) l → is_among c l ≡ true → length (filter g l) + 1 ≡ length (filter f l)
unfolding IsDistinct
one_fewer f g c fc gc h [] k e = cc
one_fewer f g c fc gc h (x ∷ xs) k e = by_test (c == x) refl e (λ a. one_fewer f g c fc gc h xs k.1 a)
  where
    by_test : (b : Bool) → (c == x) ≡ b → (b || is_among c xs) ≡ true
        → (is_among c xs ≡ true → length (filter g xs) + 1 ≡ length (filter f xs))
        → length (if g x then x ∷ filter g xs else filter g xs) + 1 ≡ length (if f x then x ∷ filter f xs else filter f xs)
    by_test true t a rest =
        let u : c ≡ x = eqb-true c x t in
        let gx : g x ≡ false = ap g (sym u) ∙ gc in
        let fx : f x ≡ true = ap f (sym u) ∙ fc in
        let s : filter g xs ≡ filter f xs = same_filter f g c h xs (ap (λ v. is_among v xs) u ∙ none_among x xs k.0) in
        ap (λ b. length (if b then x ∷ filter g xs else filter g xs) + 1) gx ∙ ap (λ l. length l + 1) s ∙ longer x (filter f xs)
        ∙ ap (λ b. length (if b then x ∷ filter f xs else filter f xs)) (sym fx)
    by_test false t a rest =
        ap (λ b. length (if b then x ∷ filter g xs else filter g xs) + 1) (h x t) ∙ both (f x) x (filter g xs) (filter f xs) (rest a)

-- ---- a child more

-- a row that is not attached is nobody's child, and was not told gone
pub not_listed : (tree : Tree) (p r : ℕ) → HasFamilies tree → tree r ≡ None → is_among r (children_of (tree p)) ≡ false
not_listed tree p r h none = by_test (is_among r (children_of (tree p))) refl
  where
    by_test : (b : Bool) → is_among r (children_of (tree p)) ≡ b → is_among r (children_of (tree p)) ≡ false
    by_test true e = absurd (let k : None ≡ Some p = sym (ap parent_of none) ∙ h.parents p r e in cc)
    by_test false e = e

pub not_told : (tree : Tree) (p r : ℕ) → HasFamilies tree → tree r ≡ None → was_told r (tree p) ≡ false
not_told tree p r h none = by_test (was_told r (tree p)) refl
  where
    by_test : (b : Bool) → was_told r (tree p) ≡ b → was_told r (tree p) ≡ false
    by_test true e = absurd (subst IsEnded none (h.gone p r e))
    by_test false e = e

-- a row with a parent's children, one of them new
children_more : (r : ℕ) (cancelled : Bool) (x : Option Job) → MayHaveChild cancelled x
    → children_of (option_map (with_child r) x) ≡ children_of x ++ r ∷ []
children_more r cancelled None m = absurd m
children_more r cancelled (Some j) m = refl

-- what an attached child changes
abbrev pub attached_tree : ℕ → ℕ → JobKind → ℕ → Bool → Tree → Tree
attached_tree p r kind tag cancelled tree = put_row r (Some (new_child p kind tag cancelled)) (change p (with_child r) tree)

pub parent_children : (tree : Tree) (p r : ℕ) (kind : JobKind) (tag : ℕ) (cancelled : Bool) → tree r ≡ None
    → MayHaveChild cancelled (tree p) → children_of (attached_tree p r kind tag cancelled tree p) ≡ children_of (tree p) ++ r ∷ []
parent_children tree p r kind tag cancelled none m =
    ap (λ b. children_of (if b then Some (new_child p kind tag cancelled) else
    (if p == p then option_map (with_child r) (tree p) else tree p))) (apart_rows tree r p cancelled none m)
    ∙ ap (λ b. children_of (if b then option_map (with_child r) (tree p) else tree p)) (same p)
    ∙ children_more r cancelled (tree p) m

other_children : (tree : Tree) (p r u : ℕ) (kind : JobKind) (tag : ℕ) (cancelled : Bool) → tree r ≡ None → (p == u) ≡ false
    → children_of (attached_tree p r kind tag cancelled tree u) ≡ children_of (tree u)
other_children tree p r u kind tag cancelled none apart = by_test (r == u) refl
    ∙ ap (λ b. children_of (if b then option_map (with_child r) (tree p) else tree u)) apart
  where
    by_test : (b : Bool) → (r == u) ≡ b
        → children_of (if b then Some (new_child p kind tag cancelled) else
        (if p == u then option_map (with_child r) (tree p) else tree u)) ≡
        children_of (if p == u then option_map (with_child r) (tree p) else tree u)
    by_test true e = sym (ap (λ b. children_of (if b then option_map (with_child r) (tree p) else tree u)) apart
        ∙ ap (λ v. children_of (tree v)) (sym (eqb-true r u e)) ∙ ap children_of none)
    by_test false e = refl

-- the older sibling of a child that was there
old_sibling : (tree : Tree) (p r q : ℕ) (kind : JobKind) (tag : ℕ) (cancelled : Bool) → HasFamilies tree → tree r ≡ None
    → MayHaveChild cancelled (tree p)
    → (o : Option ℕ) → parent_of (tree q) ≡ o → older q (children_of (row_of (attached_tree p r kind tag cancelled tree) o)) ≡
    older q (children_of (row_of tree o))
old_sibling tree p r q kind tag cancelled h none m None e = refl
old_sibling tree p r q kind tag cancelled h none m (Some u) e = by_test (p == u) refl
  where
    by_test : (b : Bool) → (p == u) ≡ b → older q (children_of (attached_tree p r kind tag cancelled tree u)) ≡
        older q (children_of (tree u))
    by_test true f =
        let k : p ≡ u = eqb-true p u f in
        subst (λ v. older q (children_of (attached_tree p r kind tag cancelled tree v)) ≡ older q (children_of (tree v))) k
        (ap (older q) (parent_children tree p r kind tag cancelled none m)
        ∙ older_kept None q r (children_of (tree p)) (h.listed p q (e ∙ ap (λ v. Some v) (sym k))))
    by_test false f = ap (older q) (other_children tree p r u kind tag cancelled none f)

pub attached_at : (tree : Tree) (p r : ℕ) (kind : JobKind) (tag : ℕ) (cancelled : Bool)
    → attached_tree p r kind tag cancelled tree r ≡ Some (new_child p kind tag cancelled)
attached_at tree p r kind tag cancelled = ap (λ b. if b then Some (new_child p kind tag cancelled) else
    (if p == r then option_map (with_child r) (tree p) else tree r)) (same r)

pub new_sibling : (tree : Tree) (p r : ℕ) (kind : JobKind) (tag : ℕ) (cancelled : Bool) → HasFamilies tree → tree r ≡ None
    → MayHaveChild cancelled (tree p) → older_sibling (attached_tree p r kind tag cancelled tree) r ≡ newest (children_of (tree p))
new_sibling tree p r kind tag cancelled h none m =
    ap (λ x. older r (children_of (row_of (attached_tree p r kind tag cancelled tree) (parent_of x))))
    (attached_at tree p r kind tag cancelled)
    ∙ ap (older r) (parent_children tree p r kind tag cancelled none m)
    ∙ older_last r (children_of (tree p)) (not_listed tree p r h none)

pub parent_stays : (tree : Tree) (p r q : ℕ) (kind : JobKind) (tag : ℕ) (cancelled : Bool) → (r == q) ≡ false
    → parent_of (attached_tree p r kind tag cancelled tree q) ≡ parent_of (tree q)
parent_stays tree p r q kind tag cancelled f = ap (λ b. parent_of
    (if b then Some (new_child p kind tag cancelled) else (if p == q then option_map (with_child r) (tree p) else tree q))) f
    ∙ by_test (p == q) refl
  where
    same_parent : (x : Option Job) → parent_of (option_map (with_child r) x) ≡ parent_of x
    same_parent None = refl
    same_parent (Some j) = refl

    by_test : (b : Bool) → (p == q) ≡ b → parent_of (if b then option_map (with_child r) (tree p) else tree q) ≡ parent_of (tree q)
    by_test true e = same_parent (tree p) ∙ ap (λ u. parent_of (tree u)) (eqb-true p q e)
    by_test false e = refl

pub sibling_stays : (tree : Tree) (p r q : ℕ) (kind : JobKind) (tag : ℕ) (cancelled : Bool) → HasFamilies tree → tree r ≡ None
    → MayHaveChild cancelled (tree p) → (r == q) ≡ false → older_sibling (attached_tree p r kind tag cancelled tree) q ≡
    older_sibling tree q
sibling_stays tree p r q kind tag cancelled h none m f =
    ap (λ o. older q (children_of (row_of (attached_tree p r kind tag cancelled tree) o))) (parent_stays tree p r q kind tag cancelled f)
    ∙ old_sibling tree p r q kind tag cancelled h none m (parent_of (tree q)) refl

-- ---- a child less

not_last : (c d : ℕ) (told : List ℕ) → (c == d) ≡ false → not (is_among d (told ++ c ∷ [])) ≡ not (is_among d told)
not_last c d told e = ap not (among-push d c told ∙ ap (λ b. is_among d told || b) (apart d c e) ∙ or_false (is_among d told))
  where
    apart : (u v : ℕ) → (v == u) ≡ false → (u == v) ≡ false
    apart u v f = grind (arith, nat_tests)

    or_false : (b : Bool) → (b || false) ≡ b
    or_false true = refl
    or_false false = refl

-- a child that lived is told gone
pub living_told : (c : ℕ) (j : Job) → IsDistinct (λ (u : ℕ) (v : ℕ). u == v) j.children → is_among c j.children ≡ true
    → is_among c j.told ≡ false → length (living (with_told c j)) + 1 ≡ length (living j)
living_told c j k e f = one_fewer (λ d. not (is_among d j.told)) (λ d. not (is_among d (j.told ++ c ∷ []))) c (ap not f)
    (ap not (among_last c j.told)) (λ d g. not_last c d j.told g) j.children k e
