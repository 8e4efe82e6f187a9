-- The rows for scopes are never all claimed while a coroutine has a scope left to enter: each claims at most one for each scope that its
-- lines enter, and there are as many as all enter together.
use Rattle.std.specs.Prelude.{◌≡◌, ℕ, zero, suc, ◌+◌, ◌<◌, ◌≤◌, ◌==◌, ◌⊎◌, Bool, true, false, not, ◌||◌, ◌&&◌, List, [], ◌∷◌, length, slice_get, if◌then◌else◌, refl}
use Rattle.std.specs.List.{list_any}
use Rattle.std.proofs.Common.{ap, ◌∙◌, subst, inl, inr, ⊎_elim, arith}
use Rattle.std.proofs.lemmas.Bool.{eqb-true, MatchBool-at_true, and_parts, and_right, or_cases, cases_Bool, cond_both}
use Rattle.std.proofs.lemmas.Bool.Decides.{nat_tests}
use Rattle.job_model.specs.declared.acts.JobAct.{JobAct}
use Rattle.job_model.specs.declared.acts.JobAct.TheVariants.{Attach}
use Rattle.job_model.specs.declared.acts.JobEntry.{JobEntry}
use Rattle.job_model.specs.Acts.{attaches}
use Rattle.job_model.specs.Trees.{Shape, Tree}
use Rattle.job_model.specs.Effects.{after}
use Rattle.job_model.specs.Needs.{Needs}
use Rattle.job_model.specs.Histories.{LegalFrom, acts_of}
use Rattle.script_grammar.specs.Programs.{Program}
use Rattle.script_grammar.specs.Tags.{tags_of, coroutine_count, code_of, code_at, scopes_from, scopes_of, scopes_of_all, scope_count}
use Rattle.script_meaning.proofs.TagsGiven.{launches_row, one_scope, scopes_of_acts}
use Rattle.script_laws.specs.Counts.{one, count_from}

-- ---- sums

pub sum_below : ℕ → (ℕ → ℕ) → ℕ
sum_below zero f = 0
sum_below (suc n) f = f n + sum_below n f

sum_add : (n : ℕ) (f g : ℕ → ℕ) → sum_below n (λ t. f t + g t) ≡ sum_below n f + sum_below n g
unfolding sum_below
sum_add zero f g = refl
sum_add (suc n) f g = omega (arith, sum_add n f g)

sum_some : (n t : ℕ) (f : ℕ → ℕ) → t < n → 1 ≤ f t → 1 ≤ sum_below n f
unfolding sum_below
sum_some zero t f lt h = absurd (omega (arith, lt))
sum_some (suc n) t f lt h = ⊎_elim
    (λ e. let same = ap f (eqb-true t n e) in omega (arith, h, same))
    (λ e. let less : t < n = grind (arith, nat_tests) in let rest = sum_some n t f less h in omega (arith, rest))
    (cases_Bool (t == n))

pub sum_less : (n k : ℕ) (f g : ℕ → ℕ) → ((t : ℕ) → t < n → f t ≤ g t) → k < n → f k < g k → sum_below n f < sum_below n g
unfolding sum_below
sum_less zero k f g le lt h = absurd (omega (arith, lt))
sum_less (suc n) k f g le lt h = by_test (k == n) refl (λ less. sum_less n k f g (λ t l. le t (omega (arith, l))) less h)
  where
    no_more : (m : ℕ) → ((t : ℕ) → t < m → f t ≤ g t) → sum_below m f ≤ sum_below m g
    no_more zero each = omega arith
    no_more (suc m) each = let here = each m (omega arith) in let rest = no_more m (λ t l. each t (omega (arith, l)))
        in omega (arith, here, rest)

    by_test : (b : Bool) → (k == n) ≡ b → (k < n → sum_below n f < sum_below n g) → f n + sum_below n f < g n + sum_below n g
    by_test true e more =
        let same = eqb-true k n e in
        let here : f n < g n = subst (λ t. f t < g t) same h in
        let rest = no_more n (λ t l. le t (omega (arith, l))) in
        omega (arith, here, rest)
    by_test false e more =
        let here = le n (omega arith) in
        let less : k < n = grind (arith, nat_tests) in
        let rest = more less in
        omega (arith, here, rest)

sum_first : (n : ℕ) (f : ℕ → ℕ) → sum_below (suc n) f ≡ f 0 + sum_below n (λ t. f (suc t))
unfolding sum_below
sum_first zero f = refl
sum_first (suc n) f = omega (arith, sum_first n f)

-- ---- counts

count_or : (from n : ℕ) (f g : ℕ → Bool) → count_from from n (λ r. f r || g r) ≤ count_from from n f + count_from from n g
unfolding count_from
count_or from zero f g = omega arith
count_or from (suc n) f g = let rest = count_or (from + 1) n f g in let here = either (f from) (g from) in omega (arith, rest, here)
  where
    either : (a b : Bool) → one (a || b) ≤ one a + one b
    either true b = omega arith
    either false b = omega arith

pub count_more : (from n : ℕ) (f g : ℕ → Bool) → ((r : ℕ) → from ≤ r → f r ≡ true → g r ≡ true) → count_from from n f ≤ count_from from n g
unfolding count_from
count_more from zero f g h = omega arith
count_more from (suc n) f g h = let rest = count_more (from + 1) n f g (λ r le e. h r (omega (arith, le)) e)
    in let here = less (f from) (g from) (h from (omega arith)) in omega (arith, rest, here)
  where
    less : (a b : Bool) → (a ≡ true → b ≡ true) → one a ≤ one b
    less true b i = let is = ap one (i refl) in omega (arith, is)
    less false b i = omega arith

pub count_none : (from n : ℕ) (f : ℕ → Bool) → ((r : ℕ) → from ≤ r → f r ≡ false) → count_from from n f ≡ 0
unfolding count_from
count_none from zero f h = refl
count_none from (suc n) f h = omega (arith, ap one (h from (omega arith)), count_none (from + 1) n f (λ r le. h r (omega (arith, le))))

count_same : (from n q : ℕ) → count_from from n (λ r. r == q) ≤ 1
unfolding count_from
count_same from zero q = omega arith
count_same from (suc n) q = by_test (from == q) refl (count_same (from + 1) n q)
  where
    by_test : (b : Bool) → (from == q) ≡ b → count_from (from + 1) n (λ r. r == q) ≤ 1 → one b + count_from (from + 1) n (λ r. r == q) ≤ 1
    by_test true e rest = let none = count_none (from + 1) n (λ r. r == q) (λ r le. grind (arith, nat_tests)) in omega (arith, none)
    by_test false e rest = omega (arith, rest)

-- each of these numbers is one that some t below m passes for
pub counts_all : (from n m : ℕ) (test : ℕ → ℕ → Bool) → ((r : ℕ) → from ≤ r → r < from + n → (t : ℕ) × (t < m) × (test t r ≡ true))
    → n ≤ sum_below m (λ t. count_from from n (test t))
unfolding count_from
counts_all from zero m test h = omega arith
counts_all from (suc n) m test h =
    let here = h from (omega arith) (omega arith) in
    let some = sum_some m here.0 (λ t. one (test t from)) here.1 (let is = ap one here.2 in omega (arith, is)) in
    let rest = counts_all (from + 1) n m test (λ r le lt. h r (omega (arith, le)) (omega (arith, lt))) in
    let both = sum_add m (λ t. one (test t from)) (λ t. count_from (from + 1) n (test t)) in
    omega (arith, some, rest, both)

-- ---- the scopes of all coroutines

-- how many scopes the lines of the coroutine with this tag enter
abbrev pub scopes_at : Program → ℕ → ℕ
scopes_at p t = scopes_from [] (code_of p t)

scopes_of_tags : (p : Program) (tags : List ℕ) → sum_below (length tags) (λ t. scopes_from [] (code_at p (slice_get tags t))) ≡
    scopes_of_all p tags
unfolding sum_below
scopes_of_tags p [] = refl
scopes_of_tags p (b ∷ tags) = sum_first (length tags) (λ t. scopes_from [] (code_at p (slice_get (b ∷ tags) t)))
    ∙ ap (λ n. scopes_of p b + n) (scopes_of_tags p tags)

pub scopes_of_all_tags : (p : Program) → sum_below (coroutine_count p) (scopes_at p) ≡ scope_count p
scopes_of_all_tags p = scopes_of_tags p (tags_of p)

-- ---- rows that scopes attach

-- a scope's Job of this row was attached
abbrev pub enters_row : ℕ → JobAct → Bool
enters_row r (Attach p q kind tag cancelled) = (r == q) && kind.scoped
enters_row r other = false

-- an Attach is that of a coroutine, or of a scope
pub attach_is : (r : ℕ) (acts : List JobAct) → list_any (attaches r) acts ≡ true → (list_any (launches_row r) acts ≡ true)
    ⊎ (list_any (enters_row r) acts ≡ true)
attach_is r [] e = cc
attach_is r (Attach p q kind tag cancelled ∷ acts) e = by_tests (r == q) kind.scoped e (attach_is r acts)
  where
    by_tests : (a s : Bool) → (a || list_any (attaches r) acts) ≡ true
        → (list_any (attaches r) acts ≡ true → (list_any (launches_row r) acts ≡ true) ⊎ (list_any (enters_row r) acts ≡ true))
        → (((a && not s) || list_any (launches_row r) acts) ≡ true) ⊎ (((a && s) || list_any (enters_row r) acts) ≡ true)
    by_tests true true e more = inr refl
    by_tests true false e more = inl refl
    by_tests false s e more = more e
attach_is r (other ∷ acts) e = attach_is r acts e

-- these acts attach no more rows of scopes than scopes
pub rows_few : (from n : ℕ) (acts : List JobAct) → count_from from n (λ r. list_any (enters_row r) acts) ≤ scopes_of_acts acts
rows_few from n [] = let none = count_none from n (λ r. list_any (enters_row r) []) (λ r le. refl) in omega (arith, none)
rows_few from n (act ∷ acts) =
    let parts = count_or from n (λ r. enters_row r act) (λ r. list_any (enters_row r) acts) in
    let rest = rows_few from n acts in
    let here = one_row act in
    omega (arith, parts, rest, here)
  where
    one_row : (act : JobAct) → count_from from n (λ r. enters_row r act) ≤ one_scope act
    one_row (Attach p q kind tag cancelled) = by_kind kind.scoped
      where
        by_kind : (s : Bool) → count_from from n (λ r. (r == q) && s) ≤ (if s then 1 else 0)
        by_kind true = let less = count_more from n (λ r. (r == q) && true) (λ r. r == q) (λ r le e. (and_parts (r == q) _ e).0)
            in let few = count_same from n q in omega (arith, less, few)
        by_kind false = let none = count_none from n (λ r. (r == q) && false) (λ r le. and_right (r == q) false refl) in omega (arith, none)
    one_row other = let none = count_none from n (λ r. false) (λ r le. refl) in omega (arith, none)

-- the row of a scope is behind those of the coroutines
scope_row : (shape : Shape) (tree : Tree) (who r : ℕ) (act : JobAct) → Needs shape tree who act → enters_row r act ≡ true
    → shape.coroutines ≤ r
scope_row shape tree who r (Attach p q kind tag cancelled) n e =
    let both = and_parts (r == q) kind.scoped e in
    let same = eqb-true r q both.0 in
    let low = (MatchBool-at_true ((tag ≡ who) × (shape.coroutines ≤ q) × (q < shape.rows)) (q ≡ tag) both.1 n.3).1 in
    omega (arith, same, low)
scope_row shape tree who r other n e = cc

-- what one did of a history it did first, or in the rest
pub first_or_later : (test : JobAct → Bool) (who : ℕ) (x : JobEntry) (es : List JobEntry) → list_any test (acts_of who (x ∷ es)) ≡ true
    → ((x.who ≡ who) × (test x.act ≡ true)) ⊎ (list_any test (acts_of who es) ≡ true)
unfolding acts_of
first_or_later test who x es e = cond_both (x.who == who) (x.act ∷ acts_of who es) (acts_of who es)
    (λ l. list_any test l ≡ true → ((x.who ≡ who) × (test x.act ≡ true)) ⊎ (list_any test (acts_of who es) ≡ true))
    (λ own h. ⊎_elim (λ k. inl (eqb-true x.who who own, k)) (λ k. inr k) (or_cases _ _ h)) (λ other h. inr h) e

pub scope_rows : (shape : Shape) (tree : Tree) (es : List JobEntry) (who r : ℕ) → LegalFrom shape tree es
    → list_any (enters_row r) (acts_of who es) ≡ true → shape.coroutines ≤ r
unfolding LegalFrom acts_of
scope_rows shape tree [] who r l e = cc
scope_rows shape tree (x ∷ es) who r l e =
    ⊎_elim (λ k. scope_row shape tree x.who r x.act l.0 k.1) (scope_rows shape (after tree x.who x.act) es who r l.1)
    (first_or_later (enters_row r) who x es e)
