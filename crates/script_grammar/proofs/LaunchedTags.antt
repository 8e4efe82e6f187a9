-- No two coroutines launch the same tag: what follows a coroutine's tag is laid out as it launches, so two ranges of tags are apart or
-- the one lies in that of an instance which the other launches.
use Rattle.std.proofs.Common.{◌≡◌, ◌≢◌, ℕ, zero, suc, ◌+◌, ◌-◌, ◌<◌, ◌≤◌, Bool, true, false, nat_lt, List, [], ◌∷◌, ◌++◌, length, take, Some, refl, ap, sym, ◌∙◌, subst, arith, slice_get, if◌then◌else◌, ⊎_elim, inl, inr}
use Rattle.std.specs.Prelude.{◌==◌, ◌⊎◌}
use Rattle.std.proofs.lemmas.Bool.Decides.{nat_tests}
use Rattle.script_grammar.specs.Programs.{Program, Block}
use Rattle.script_grammar.specs.WellFormed.{IsProgram}
use Rattle.script_grammar.specs.Declarations.{launch_back, all_below}
use Rattle.script_grammar.specs.Tags.{launched, launches_of, LaunchesAt, laid_out, layouts, code_of_block, tags_of, coroutine_count, block_of_tag, code_at, code_of, size_of, sizes_of, spawned}
use Rattle.script_grammar.proofs.NamedIsDeclared.{Declares-from_program}
use Rattle.script_grammar.proofs.Truths.{both_true, lt-from_true, le-from_lt_false}
use Rattle.script_grammar.proofs.Layouts.{all_append, layout, layout-next, launched_back, laid_out-append, length-laid_out, size_some, layout-room, spawned_known, launched_known, main_block, tags_of-main, block_of_tag-some, slice_get_append_left}

-- ---- places of lists

get_left : (xs ys : List ℕ) (k : ℕ) → k < length xs → slice_get (xs ++ ys) k ≡ slice_get xs k
get_left [] ys k h = absurd (omega (arith, h))
get_left (x ∷ xs) ys zero h = refl
get_left (x ∷ xs) ys (suc k) h = get_left xs ys k (omega (arith, h))

get_right : (xs ys : List ℕ) (k : ℕ) → length xs ≤ k → slice_get (xs ++ ys) k ≡ slice_get ys (k - length xs)
get_right [] ys k h = let same : k ≡ k - 0 = omega arith in ap (slice_get ys) same
get_right (x ∷ xs) ys zero h = absurd (omega (arith, h))
get_right (x ∷ xs) ys (suc k) h = let same : k - length xs ≡ suc k - length (x ∷ xs) = omega arith in get_right xs ys k (omega (arith, h))
    ∙ ap (slice_get ys) same

-- a place of two lists is one of the first or of the second
get_split : (xs ys : List ℕ) (k v : ℕ) → slice_get (xs ++ ys) k ≡ Some v → (slice_get xs k ≡ Some v)
    ⊎ ((length xs ≤ k) × (slice_get ys (k - length xs) ≡ Some v))
get_split xs ys k v e = by_test (nat_lt k (length xs)) refl
  where
    by_test : (t : Bool) → nat_lt k (length xs) ≡ t → (slice_get xs k ≡ Some v)
        ⊎ ((length xs ≤ k) × (slice_get ys (k - length xs) ≡ Some v))
    by_test true h = inl (sym (get_left xs ys k (lt-from_true k (length xs) h)) ∙ e)
    by_test false h = let after = le-from_lt_false k (length xs) h in inr (after, sym (get_right xs ys k after) ∙ e)

get_within : (xs : List ℕ) (k v : ℕ) → slice_get xs k ≡ Some v → k < length xs
get_within [] k v e = cc
get_within (x ∷ xs) zero v e = omega arith
get_within (x ∷ xs) (suc k) v e = let h = get_within xs k v e in omega (arith, h)

get_some : (xs : List ℕ) (k : ℕ) → k < length xs → (v : ℕ) × (slice_get xs k ≡ Some v)
get_some [] k h = absurd (omega (arith, h))
get_some (x ∷ xs) zero h = (x, refl)
get_some (x ∷ xs) (suc k) h = get_some xs k (omega (arith, h))

-- ---- at each place of a layout stands the whole layout of its block

Whole : List (List ℕ) → List ℕ → Type 0
Whole l xs = (k i d v : ℕ) → slice_get xs k ≡ Some i → slice_get (layout l i) d ≡ Some v → slice_get xs (k + d) ≡ Some v

Whole-append : (l : List (List ℕ)) (xs ys : List ℕ) → Whole l xs → Whole l ys → Whole l (xs ++ ys)
unfolding Whole
Whole-append l xs ys first second k i d v at e =
    ⊎_elim
    (λ left. slice_get_append_left xs ys (k + d) v (first k i d v left e))
    (λ right.
    let same : k - length xs + d ≡ k + d - length xs = omega (arith, right.0) in
    get_right xs ys (k + d) (omega (arith, right.0)) ∙ ap (slice_get ys) (sym same) ∙ second (k - length xs) i d v right.1 e)
    (get_split xs ys k i at)

Whole-laid_out : (l : List (List ℕ)) (m : ℕ) (js : List ℕ) → ((j : ℕ) → j < m → Whole l (layout l j)) → all_below m js ≡ true
    → Whole l (laid_out l js)
unfolding Whole
Whole-laid_out l m [] each all = λ k i d v at e. cc
Whole-laid_out l m (j ∷ js) each all =
    let two = both_true (nat_lt j m) (all_below m js) all in
    Whole-append l (layout l j) (laid_out l js) (each j (lt-from_true j m two.0)) (Whole-laid_out l m js each two.1)

Whole-first : (l : List (List ℕ)) (i : ℕ) (xs : List ℕ) → layout l i ≡ i ∷ xs → Whole l xs → Whole l (i ∷ xs)
unfolding Whole
Whole-first l i xs is more zero j d v at e =
    let same : 0 + d ≡ d = omega arith in
    let first : i ≡ j = cc in
    ap (slice_get (i ∷ xs)) same ∙ ap (λ y. slice_get y d) (sym is) ∙ ap (λ n. slice_get (layout l n) d) first ∙ e
Whole-first l i xs is more (suc k) j d v at e =
    let same : suc k + d ≡ suc (k + d) = omega arith in
    ap (slice_get (i ∷ xs)) same ∙ more k j d v at e

Whole-layout : (bs : List Block) → launch_back 0 bs ≡ true → (m i : ℕ) → i < m → i < length bs → Whole (layouts bs) (layout (layouts bs) i)
Whole-layout bs back zero i h within = absurd (omega (arith, h))
Whole-layout bs back (suc m) i h within =
    let l = layouts bs in
    let js = launched (code_of_block (slice_get bs i)) in
    let same : 0 + i ≡ i = omega arith in
    let all : all_below i js ≡ true = subst (λ n. all_below n js ≡ true) same (launched_back bs 0 i back) in
    let is = layout-next bs i back within in
    let rest : Whole l (laid_out l js) = Whole-laid_out l i js
    (λ j less. Whole-layout bs back m j (omega (arith, h, less)) (omega (arith, less, within))) all in
    subst (Whole l) (sym is) (Whole-first l i (laid_out l js) is rest)

Whole-all : (bs : List Block) (js : List ℕ) → launch_back 0 bs ≡ true → all_below (length bs) js ≡ true
    → Whole (layouts bs) (laid_out (layouts bs) js)
Whole-all bs js back all = Whole-laid_out (layouts bs) (length bs) js (λ j less. Whole-layout bs back (suc j) j (omega arith) less) all

-- ---- what a coroutine launches is laid out behind its tag

pub launches_of-other : (p : Program) (k : ℕ) → k ≢ 0 → launches_of p k ≡ launched (code_of p k)
launches_of-other p k n = ap (λ b. (if b then spawned p else []) ++ launched (code_of p k)) (off k n)
  where
    off : (k : ℕ) → k ≢ 0 → (k == 0) ≡ false
    off k n = grind (arith, nat_tests)

pub launches_known : (p : Program) → IsProgram p → (k : ℕ) → all_below (length p.blocks) (launches_of p k) ≡ true
launches_known p ok k = by_test (k == 0)
  where
    by_test : (b : Bool) → all_below (length p.blocks) ((if b then spawned p else []) ++ launched (code_of p k)) ≡ true
    by_test true = all_append (λ j. nat_lt j (length p.blocks)) (spawned p) (launched (code_of p k)) (spawned_known p ok)
        (launched_known p k ok)
    by_test false = launched_known p k ok

tags_root : (p : Program) (ok : IsProgram p) → tags_of p ≡ (main_block p ok).0 ∷ laid_out (layouts p.blocks) (launches_of p 0)
tags_root p ok =
    let m = main_block p ok in
    let l = layouts p.blocks in
    let is = tags_of-main p m.0 m.1 in
    let lines : code_of_block (slice_get p.blocks m.0) ≡ code_of p 0 = sym (ap (λ tags. code_at p (slice_get tags 0)) is) in
    is
    ∙ ap (λ code. m.0 ∷ (laid_out l (spawned p) ++ laid_out l (launched code))) lines
    ∙ ap (λ xs. m.0 ∷ xs) (sym (laid_out-append l (spawned p) (launched (code_of p 0))))

stands_behind : (p : Program) → IsProgram p → (k x v : ℕ) → k < coroutine_count p
    → slice_get (laid_out (layouts p.blocks) (launches_of p k)) x ≡ Some v → slice_get (tags_of p) (k + 1 + x) ≡ Some v
unfolding Whole
stands_behind p ok zero x v h e =
    let same : 0 + 1 + x ≡ suc x = omega arith in
    ap (slice_get (tags_of p)) same ∙ ap (λ tags. slice_get tags (suc x)) (tags_root p ok) ∙ e
stands_behind p ok (suc k) x v h e =
    let l = layouts p.blocks in
    let all = laid_out l (launches_of p 0) in
    let b = block_of_tag-some p ok (suc k) h in
    let at : slice_get all k ≡ Some b.0 = sym (ap (λ tags. slice_get tags (suc k)) (tags_root p ok)) ∙ b.1 in
    let lines : code_of p (suc k) ≡ code_of_block (slice_get p.blocks b.0) = ap (code_at p) b.1 in
    let n : suc k ≢ 0 = λ z. omega (arith, z) in
    let own : launches_of p (suc k) ≡ launched (code_of_block (slice_get p.blocks b.0)) = launches_of-other p (suc k) n
    ∙ ap launched lines in
    let whole : slice_get (layout l b.0) (suc x) ≡ Some v =
    ap (λ xs. slice_get xs (suc x)) (layout-next p.blocks b.0 (Declares-from_program p ok).launches b.2)
    ∙ ap (λ js. slice_get (laid_out l js) x) (sym own) ∙ e in
    let there = Whole-all p.blocks (launches_of p 0) (Declares-from_program p ok).launches (launches_known p ok 0) k b.0 (suc x) v at whole
    in
    let same : suc k + 1 + x ≡ suc (k + suc x) = omega arith in
    ap (slice_get (tags_of p)) same ∙ ap (λ tags. slice_get tags (suc (k + suc x))) (tags_root p ok) ∙ there

-- ---- so many tags are taken by the first instances

sizes_take-more : (p : Program) (js : List ℕ) (m n : ℕ) → m ≤ n → sizes_of p (take m js) ≤ sizes_of p (take n js)
sizes_take-more p js zero n h = omega arith
sizes_take-more p js (suc m) zero h = absurd (omega (arith, h))
sizes_take-more p [] (suc m) (suc n) h = omega arith
sizes_take-more p (j ∷ js) (suc m) (suc n) h = let rest = sizes_take-more p js m n (omega (arith, h)) in omega (arith, rest)

pub sizes_take-next : (p : Program) (js : List ℕ) (n j : ℕ) → slice_get js n ≡ Some j
    → sizes_of p (take (suc n) js) ≡ sizes_of p (take n js) + size_of p j
sizes_take-next p [] n j e = cc
sizes_take-next p (i ∷ js) zero j e = let same : i ≡ j = cc in omega (arith, ap (size_of p) same)
sizes_take-next p (i ∷ js) (suc n) j e = let rest = sizes_take-next p js n j e in omega (arith, rest)

pub sizes_take-all : (p : Program) (js : List ℕ) (n : ℕ) → sizes_of p (take n js) ≤ sizes_of p js
sizes_take-all p js zero = omega arith
sizes_take-all p [] (suc n) = omega arith
sizes_take-all p (j ∷ js) (suc n) = let rest = sizes_take-all p js n in omega (arith, rest)

-- one instance more takes a tag at least
pub take_less : (p : Program) (js : List ℕ) (n : ℕ) → all_below (length p.blocks) js ≡ true → n < length js
    → sizes_of p (take n js) < sizes_of p js
take_less p [] n all h = absurd (omega (arith, h))
take_less p (j ∷ js) zero all h = let some = size_some p j
    (lt-from_true j (length p.blocks) (both_true (nat_lt j (length p.blocks)) (all_below (length p.blocks) js) all).0)
    in omega (arith, some)
take_less p (j ∷ js) (suc n) all h = let rest = take_less p js n
    (both_true (nat_lt j (length p.blocks)) (all_below (length p.blocks) js) all).1 (omega (arith, h)) in omega (arith, rest)

-- ---- an instance lies within one of those that are launched

-- the instance of block v at place x lies within the n-th of these
record LiesIn (p : Program) (js : List ℕ) (x v : ℕ) : Type 0 where
  n : ℕ
  j : ℕ
  is : slice_get js n ≡ Some j
  after : sizes_of p (take n js) ≤ x
  before : x + size_of p v ≤ sizes_of p (take n js) + size_of p j

lies_in : (p : Program) → IsProgram p → (js : List ℕ) (x v : ℕ) → all_below (length p.blocks) js ≡ true
    → slice_get (laid_out (layouts p.blocks) js) x ≡ Some v → LiesIn p js x v
lies_in p ok [] x v all e = cc
lies_in p ok (j ∷ js) x v all e =
    ⊎_elim here (λ right. later right.0 (lies_in p ok js (x - size_of p j) v two.1 right.1)) (get_split (layout l j) (laid_out l js) x v e)
  where
    l : List (List ℕ)
    l = layouts p.blocks

    two : (nat_lt j (length p.blocks) ≡ true) × (all_below (length p.blocks) js ≡ true)
    two = both_true (nat_lt j (length p.blocks)) (all_below (length p.blocks) js) all

    here : slice_get (layout l j) x ≡ Some v → LiesIn p (j ∷ js) x v
    here at =
        let room = layout-room p.blocks (Declares-from_program p ok).launches j (lt-from_true j (length p.blocks) two.0) x v
        (get_within (layout l j) x v at) at in
        record { n = 0; j = j; is = refl; after = omega arith; before = omega (arith, room) }

    later : size_of p j ≤ x → LiesIn p js (x - size_of p j) v → LiesIn p (j ∷ js) x v
    later le more = record {
      n = suc more.n;
      j = more.j;
      is = more.is;
      after = omega (arith, le, more.after);
      before = omega (arith, le, more.before);
    }

-- ---- two coroutines

-- the later of two does not launch what the earlier launches
not_both : (p : Program) → IsProgram p → (k t tag : ℕ) → k < t → t < coroutine_count p → LaunchesAt p k tag → LaunchesAt p t tag → ⊥
not_both p ok k t tag less within first second = by_test (nat_lt x (sizes_of p ks)) refl
  where
    ks : List ℕ
    ks = launches_of p k

    ts : List ℕ
    ts = launches_of p t

    x : ℕ
    x = t - (k + 1)

    l : List (List ℕ)
    l = layouts p.blocks

    inside : (v : ℕ) → slice_get (laid_out l ks) x ≡ Some v → ⊥
    inside v at =
        let n : t ≢ 0 = λ z. omega (arith, z, less) in
        let same : k + 1 + x ≡ t = omega (arith, less) in
        let there : block_of_tag p t ≡ Some v = ap (slice_get (tags_of p)) (sym same)
        ∙ stands_behind p ok k x v (omega (arith, less, within)) at in
        let b = block_of_tag-some p ok t within in
        let both_some : Some v ≡ Some b.0 = sym there ∙ b.1 in
        let is_block : v ≡ b.0 = cc in
        let low : v < length p.blocks = omega (arith, is_block, b.2) in
        let own : ts ≡ launched (code_of_block (slice_get p.blocks v)) = launches_of-other p t n ∙ ap launched (ap (code_at p) there) in
        let size : size_of p v ≡ 1 + sizes_of p ts = omega (
          arith,
          ap length (layout-next p.blocks v (Declares-from_program p ok).launches low),
          length-laid_out p (launched (code_of_block (slice_get p.blocks v))),
          ap (sizes_of p) own,
        ) in
        let lies = lies_in p ok ks x v (launches_known p ok k) at in
        let short = take_less p ts second.before (launches_known p ok t) second.one_more in
        by_order lies size short (nat_lt lies.n first.before) refl
      where
        by_order : (lies : LiesIn p ks x v) → size_of p v ≡ 1 + sizes_of p ts → sizes_of p (take second.before ts) < sizes_of p ts
            → (b : Bool) → nat_lt lies.n first.before ≡ b → ⊥
        by_order lies size short true e =
            let more = sizes_take-more p ks (suc lies.n) first.before (omega (arith, lt-from_true lies.n first.before e)) in
            let upto = sizes_take-next p ks lies.n lies.j lies.is in
            omega (arith, more, upto, lies.before, size, short, first.next, second.next, less)
        by_order lies size short false e =
            let more = sizes_take-more p ks first.before lies.n (le-from_lt_false lies.n first.before e) in
            omega (arith, more, lies.after, first.next, second.next, less)

    by_test : (b : Bool) → nat_lt x (sizes_of p ks) ≡ b → ⊥
    by_test true e =
        let long : x < length (laid_out l ks) = omega (arith, lt-from_true x (sizes_of p ks) e, length-laid_out p ks) in
        let some = get_some (laid_out l ks) x long in
        inside some.0 some.1
    by_test false e =
        let past = le-from_lt_false x (sizes_of p ks) e in
        let few = sizes_take-all p ks first.before in
        omega (arith, past, few, first.next, second.next, less)

pub launched_once : (p : Program) (k t tag : ℕ) → IsProgram p → k < coroutine_count p → t < coroutine_count p → LaunchesAt p k tag
    → LaunchesAt p t tag → k ≡ t
launched_once p k t tag ok in_k in_t first second = by_order (nat_lt k t) refl (nat_lt t k) refl
  where
    by_order : (a : Bool) → nat_lt k t ≡ a → (b : Bool) → nat_lt t k ≡ b → k ≡ t
    by_order true e b f = absurd (not_both p ok k t tag (lt-from_true k t e) in_t first second)
    by_order false e true f = absurd (not_both p ok t k tag (lt-from_true t k f) in_k second first)
    by_order false e false f = let up = le-from_lt_false k t e in let down = le-from_lt_false t k f in omega (arith, up, down)
