-- Sums over the first numbers: two at once, one that differs at one number, and the acts of all coroutines.
use Rattle.std.specs.Prelude.{◌≡◌, ℕ, zero, suc, ◌+◌, ◌*◌, ◌<◌, ◌≤◌, ◌==◌, nat_lt, Bool, true, false, cond, List, [], ◌∷◌, refl, if◌then◌else◌}
use Rattle.std.proofs.Common.{ap, ◌∙◌, subst, arith, ⊎_elim}
use Rattle.std.proofs.lemmas.Bool.{eqb-true, cases_lt}
use Rattle.std.proofs.lemmas.Bool.Decides.{nat_tests}
use Rattle.channel_model.specs.declared.acts.Act.{Act}
use Rattle.channel_model.specs.declared.acts.Entry.{Entry}
use Rattle.channel_model.specs.Histories.{acts_of, acts_in}
use Rattle.channel_model.specs.Laws.{how_many}
use Rattle.channel_model.proofs.Elements.{all_first, all_rest}
use Rattle.permits.specs.Sums.{sum_of}
use Rattle.permits.specs.Laws.{are_below}

step_sum : (m : ℕ) (f : ℕ → ℕ) → sum_of (suc m) f ≡ sum_of m f + f m
unfolding sum_of
step_sum m f = refl

pub sum_next : (m : ℕ) (f : ℕ → ℕ) → sum_of (m + 1) f ≡ sum_of m f + f m
sum_next m f = ap (λ k. sum_of k f) (let e : m + 1 ≡ suc m = omega arith in e) ∙ step_sum m f

pub sum_plus : (m : ℕ) (f g : ℕ → ℕ) → sum_of m (λ k. f k + g k) ≡ sum_of m f + sum_of m g
unfolding sum_of
sum_plus zero f g = refl
sum_plus (suc m) f g = let h = sum_plus m f g in omega arith

pub sum_same : (m : ℕ) (f g : ℕ → ℕ) → ((k : ℕ) → f k ≡ g k) → sum_of m f ≡ sum_of m g
unfolding sum_of
sum_same zero f g e = refl
sum_same (suc m) f g e = let h = sum_same m f g e in let k = e m in omega arith

next_times : (m b : ℕ) → suc m * b ≡ m * b + b
next_times m b = grind (arith, nat_tests)

pub sum_most : (m : ℕ) (f : ℕ → ℕ) (b : ℕ) → ((k : ℕ) → f k ≤ b) → sum_of m f ≤ m * b
unfolding sum_of
sum_most zero f b e = omega arith
sum_most (suc m) f b e = let h = sum_most m f b e in let k = e m in let s = next_times m b in omega arith

differs : (q m : ℕ) → q < m → (q == m) ≡ false
differs q m h = grind (arith, nat_tests)

sum_none : (m q x : ℕ) → m ≤ q → sum_of m (λ k. cond (q == k) x 0) ≡ 0
unfolding sum_of
sum_none zero q x h = refl
sum_none (suc m) q x h =
    let e = sum_none m q x (omega arith) in
    let n : (q == m) ≡ false = grind (arith, nat_tests) in
    let k : cond (q == m) x 0 ≡ 0 = ap (λ b. cond b x 0) n in
    omega arith

pub sum_one : (m q x : ℕ) → q < m → sum_of m (λ k. cond (q == k) x 0) ≡ x
unfolding sum_of
sum_one zero q x h = absurd (omega arith)
sum_one (suc m) q x h = ⊎_elim
    (λ lt.
    let e = sum_one m q x lt in
    let k : cond (q == m) x 0 ≡ 0 = ap (λ b. cond b x 0) (differs q m lt) in
    omega arith)
    (λ le.
    let is : q ≡ m = omega arith in
    let e = sum_none m q x (omega arith) in
    let n : (q == m) ≡ true = grind (arith, nat_tests) in
    let k : cond (q == m) x 0 ≡ x = ap (λ b. cond b x 0) n in
    omega arith)
    (cases_lt q m)

-- two sums that differ at one number
pub sum_change : (m q : ℕ) (f g : ℕ → ℕ) → q < m → ((k : ℕ) → (q == k) ≡ false → g k ≡ f k) → sum_of m g + f q ≡ sum_of m f + g q
sum_change m q f g h e =
    let a = sum_plus m g (λ k. cond (q == k) (f q) 0) in
    let b = sum_plus m f (λ k. cond (q == k) (g q) 0) in
    let c = sum_same m (λ k. g k + cond (q == k) (f q) 0) (λ k. f k + cond (q == k) (g q) 0) (λ k. by_test k (q == k) refl) in
    let d = sum_one m q (f q) h in
    let i = sum_one m q (g q) h in
    omega arith
  where
    by_test : (k : ℕ) (b : Bool) → (q == k) ≡ b → g k + cond b (f q) 0 ≡ f k + cond b (g q) 0
    by_test k true t = let is : q ≡ k = eqb-true q k t in subst (λ n. g n + f q ≡ f n + g q) is (omega arith)
    by_test k false t = ap (λ n. n + 0) (e k t)

-- ---- the acts of all coroutines

own_count : (p : Act → Bool) (k : ℕ) (e : Entry) (es : List Entry)
    → how_many p (acts_of k (e ∷ es)) ≡ cond (e.who == k) (cond (p e.act) 1 0) 0 + how_many p (acts_of k es)
unfolding acts_of
own_count p k e es = by_test (e.who == k)
  where
    by_test : (b : Bool) → how_many p (if b then e.act ∷ acts_of k es else acts_of k es) ≡
        cond b (cond (p e.act) 1 0) 0 + how_many p (acts_of k es)
    by_test true = refl
    by_test false = omega arith

below_one : (m n : ℕ) → nat_lt n m ≡ true → n < m
below_one m n h = grind (arith, nat_tests)

none_of_none : (p : Act → Bool) (m : ℕ) → sum_of m (λ k. how_many p (acts_of k [])) ≡ 0
unfolding sum_of acts_of
none_of_none p zero = refl
none_of_none p (suc m) = let h = none_of_none p m in omega arith

pub counted_by_tag : (p : Act → Bool) (m : ℕ) (es : List Entry) → are_below m es ≡ true
    → sum_of m (λ k. how_many p (acts_of k es)) ≡ how_many p (acts_in es)
counted_by_tag p m [] h = none_of_none p m
counted_by_tag p m (e ∷ es) h =
    let rest = counted_by_tag p m es (all_rest (λ (x : Entry). nat_lt x.who m) e es h) in
    let low = below_one m e.who (all_first (λ (x : Entry). nat_lt x.who m) e es h) in
    let a = sum_same m (λ k. how_many p (acts_of k (e ∷ es))) (λ k. cond (e.who == k) (cond (p e.act) 1 0) 0 + how_many p (acts_of k es))
    (λ k. own_count p k e es) in
    let b = sum_plus m (λ k. cond (e.who == k) (cond (p e.act) 1 0) 0) (λ k. how_many p (acts_of k es)) in
    let c = sum_one m e.who (cond (p e.act) 1 0) low in
    omega arith
