-- The layouts of blocks, the tags of a script, and what the lines of each tag name.
use Rattle.std.proofs.Common.{◌≡◌, ◌≢◌, ℕ, zero, suc, ◌+◌, ◌-◌, ◌<◌, ◌≤◌, Bool, true, false, nat_lt, List, [], ◌∷◌, ◌++◌, length, Option, Some, None, refl, ap, sym, ◌∙◌, subst, arith, get_or, slice_get, if◌then◌else◌, append_assoc, length-append}
use Rattle.std.specs.Prelude.{is_some}
use Rattle.std.specs.List.{list_all}
use Rattle.std.proofs.lemmas.List.{get_or_append_left, get_or-map, length-map}
use Rattle.std.proofs.Math.Seq.{get_or-append_seam}
use Rattle.std.proofs.lemmas.Option.{slice_get_read}
use Rattle.std.specs.Str.{bytes_eq}
use lib.Chars.{codes}
use Rattle.script_grammar.specs.declared.instructions.Instruction.{Instruction}
use Rattle.script_grammar.specs.Programs.{Program, Block}
use Rattle.script_grammar.specs.WellFormed.{IsProgram}
use Rattle.script_grammar.specs.Tags.{launched, laid_out, layouts_from, layouts, size_in, sizes_in, block_named, code_of_block, tags_for, tags_of, coroutine_count, block_of_tag, code_at, code_of, size_of, sizes_of, spawned}
use Rattle.script_grammar.specs.Declarations.{names_channel, knows_jobs, launch_back, all_below}
use Rattle.script_grammar.proofs.NamedIsDeclared.{Declares-from_program}
use Rattle.script_grammar.proofs.Truths.{both, both_true, lt-from_true, lt-true, le-from_lt_false}

-- ---- tests of all elements

pub test_at : {X : Type 0} (test : X → Bool) (xs : List X) (i : ℕ) (x : X) → list_all test xs ≡ true → slice_get xs i ≡ Some x
    → test x ≡ true
test_at test [] i x all at = cc
test_at test (y ∷ xs) zero x all at = let same : y ≡ x = cc in ap test (sym same) ∙ (both_true (test y) (list_all test xs) all).0
test_at test (y ∷ xs) (suc i) x all at = test_at test xs i x (both_true (test y) (list_all test xs) all).1 at

pub all_weaker : {X : Type 0} (p q : X → Bool) → ((x : X) → p x ≡ true → q x ≡ true) → (xs : List X) → list_all p xs ≡ true
    → list_all q xs ≡ true
all_weaker p q weaker [] all = refl
all_weaker p q weaker (x ∷ xs) all = let two = both_true (p x) (list_all p xs) all
    in both (q x) _ (weaker x two.0) (all_weaker p q weaker xs two.1)

pub all_append : {X : Type 0} (test : X → Bool) (xs ys : List X) → list_all test xs ≡ true → list_all test ys ≡ true
    → list_all test (xs ++ ys) ≡ true
all_append test [] ys all more = more
all_append test (x ∷ xs) ys all more = let two = both_true (test x) (list_all test xs) all
    in both (test x) _ two.0 (all_append test xs ys two.1 more)

pub below_more : (m n : ℕ) → m ≤ n → (i : ℕ) → nat_lt i m ≡ true → nat_lt i n ≡ true
below_more m n le i e = let h = lt-from_true i m e in lt-true i n (omega arith)

pub all_below-more : (m n : ℕ) → m ≤ n → (js : List ℕ) → all_below m js ≡ true → all_below n js ≡ true
all_below-more m n le js all = all_weaker (λ j. nat_lt j m) (λ j. nat_lt j n) (below_more m n le) js all

-- ---- layouts

-- the layout of the block of this number
abbrev pub layout : List (List ℕ) → ℕ → List ℕ
layout layouts b = get_or layouts b []

-- the layout of a block after these layouts
abbrev pub next_layout : List (List ℕ) → Block → List ℕ
next_layout before b = length before ∷ laid_out before (launched b.code)

pub length-layouts_from : (before : List (List ℕ)) (bs : List Block) → length (layouts_from before bs) ≡ length before + length bs
unfolding layouts_from
length-layouts_from before [] = omega arith
length-layouts_from before (b ∷ bs) =
    omega (arith, length-layouts_from (before ++ next_layout before b ∷ []) bs, length-append before (next_layout before b ∷ []))

pub length-layouts : (bs : List Block) → length (layouts bs) ≡ length bs
length-layouts bs = omega (arith, length-layouts_from [] bs)

-- the layouts that stand stay
pub layout-stays : (before : List (List ℕ)) (bs : List Block) (k : ℕ) → k < length before
    → layout (layouts_from before bs) k ≡ layout before k
unfolding layouts_from
layout-stays before [] k h = refl
layout-stays before (b ∷ bs) k h =
    layout-stays (before ++ next_layout before b ∷ []) bs k (omega (arith, h, length-append before (next_layout before b ∷ [])))
    ∙ get_or_append_left before (next_layout before b ∷ []) [] k h

-- blocks that have the same layouts are laid out the same
pub laid_out-same : (before after : List (List ℕ)) (n : ℕ) (js : List ℕ) → ((k : ℕ) → k < n → layout after k ≡ layout before k)
    → all_below n js ≡ true → laid_out after js ≡ laid_out before js
laid_out-same before after n [] same all = refl
laid_out-same before after n (j ∷ js) same all =
    let two = both_true (nat_lt j n) (all_below n js) all in
    ap (λ l. l ++ laid_out after js) (same j (lt-from_true j n two.0))
    ∙ ap (λ l. layout before j ++ l) (laid_out-same before after n js same two.1)

pub laid_out-append : (l : List (List ℕ)) (js ks : List ℕ) → laid_out l (js ++ ks) ≡ laid_out l js ++ laid_out l ks
laid_out-append l [] ks = refl
laid_out-append l (j ∷ js) ks = ap (λ x. layout l j ++ x) (laid_out-append l js ks)
    ∙ sym (append_assoc (layout l j) (laid_out l js) (laid_out l ks))

back_from : (m n : ℕ) (bs : List Block) → n ≡ m → launch_back n bs ≡ true → launch_back m bs ≡ true
back_from m n bs e back = subst (λ i. launch_back i bs ≡ true) e back

-- a block that is declared stands first in its layout, before what it launches
layout-next_from : (before : List (List ℕ)) (bs : List Block) (j i : ℕ) → i ≡ length before + j → launch_back (length before) bs ≡ true
    → j < length bs → layout (layouts_from before bs) i ≡ i ∷ laid_out (layouts_from before bs) (launched (code_of_block (slice_get bs j)))
unfolding layouts_from
layout-next_from before [] j i is back h = absurd (omega (arith, h))
layout-next_from before (b ∷ bs) zero i is back h =
    let here : i ≡ length before = omega (arith, is) in
    let next = next_layout before b in
    let all = (both_true (all_below (length before) (launched b.code)) _ back).0 in
    let end = layouts_from (before ++ next ∷ []) bs in
    let long : length before < length (before ++ next ∷ []) = omega (arith, length-append before (next ∷ [])) in
    let stays : (k : ℕ) → k < length before → layout end k ≡ layout before k = λ k less. layout-stays before (b ∷ bs) k less in
    ap (layout end) here
    ∙ layout-stays (before ++ next ∷ []) bs (length before) long
    ∙ get_or-append_seam before next [] []
    ∙ ap (λ l. length before ∷ l) (sym (laid_out-same before end (length before) (launched b.code) stays all))
    ∙ ap (λ k. k ∷ laid_out end (launched b.code)) (sym here)
layout-next_from before (b ∷ bs) (suc j) i is back h =
    let next = next_layout before b in
    let long : length before + 1 ≡ length (before ++ next ∷ []) = omega (arith, length-append before (next ∷ [])) in
    let more = (both_true (all_below (length before) (launched b.code)) (launch_back (length before + 1) bs) back).1 in
    layout-next_from (before ++ next ∷ []) bs j i (omega (arith, is, long))
    (back_from (length (before ++ next ∷ [])) (length before + 1) bs long more) (omega (arith, h))

pub layout-next : (bs : List Block) (b : ℕ) → launch_back 0 bs ≡ true → b < length bs
    → layout (layouts bs) b ≡ b ∷ laid_out (layouts bs) (launched (code_of_block (slice_get bs b)))
layout-next bs b back h = layout-next_from [] bs b b (omega arith) back h

-- each block takes a tag
layout-some : (before : List (List ℕ)) (bs : List Block) (j : ℕ) → j < length bs
    → 1 ≤ length (layout (layouts_from before bs) (length before + j))
unfolding layouts_from
layout-some before [] j h = absurd (omega (arith, h))
layout-some before (b ∷ bs) zero h =
    let next = next_layout before b in
    let long : length before + 0 < length (before ++ next ∷ []) = omega (arith, length-append before (next ∷ [])) in
    let here : length before + 0 ≡ length before = omega arith in
    let is : layout (layouts_from (before ++ next ∷ []) bs) (length before + 0) ≡ next =
    layout-stays (before ++ next ∷ []) bs (length before + 0) long ∙ ap (layout (before ++ next ∷ [])) here
    ∙ get_or-append_seam before next [] [] in
    omega (arith, ap length is)
layout-some before (b ∷ bs) (suc j) h =
    let next = next_layout before b in
    let same : length (before ++ next ∷ []) + j ≡ length before + suc j = omega (arith, length-append before (next ∷ [])) in
    let P : ℕ → Type 0 = λ n. 1 ≤ length (layout (layouts_from (before ++ next ∷ []) bs) n) in
    subst P same (layout-some (before ++ next ∷ []) bs j (omega (arith, h)))

pub size_in-some : (bs : List Block) (b : ℕ) → b < length bs → 1 ≤ size_in bs b
size_in-some bs b h =
    let P : ℕ → Type 0 = λ n. 1 ≤ length (layout (layouts bs) n) in
    let same : 0 + b ≡ b = omega arith in
    subst P same (layout-some [] bs b h)

pub size_some : (p : Program) (b : ℕ) → b < length p.blocks → 1 ≤ size_of p b
size_some p b h = size_in-some p.blocks b h

pub length-laid_out : (p : Program) (js : List ℕ) → length (laid_out (layouts p.blocks) js) ≡ sizes_of p js
length-laid_out p [] = refl
length-laid_out p (j ∷ js) = omega (
  arith,
  length-append (layout (layouts p.blocks) j) (laid_out (layouts p.blocks) js),
  length-laid_out p js,
)

-- which block a block launches, it launches after it
pub launched_back : (bs : List Block) (from j : ℕ) → launch_back from bs ≡ true
    → all_below (from + j) (launched (code_of_block (slice_get bs j))) ≡ true
launched_back [] from j back = refl
launched_back (b ∷ bs) from zero back = let same : from ≡ from + 0 = omega arith
    in subst (λ n. all_below n (launched b.code) ≡ true) same (both_true (all_below from (launched b.code)) _ back).0
launched_back (b ∷ bs) from (suc j) back =
    let same : from + 1 + j ≡ from + suc j = omega arith in
    subst (λ n. all_below n (launched (code_of_block (slice_get bs j))) ≡ true) same
    (launched_back bs (from + 1) j (both_true (all_below from (launched b.code)) _ back).1)

-- ---- where a block stands in a layout, there is room for all that it launches

-- each of these numbers is that of one of the n blocks, and the block's layout has room from there on
pub Roomy : List (List ℕ) → ℕ → List ℕ → Type 0
Roomy l n xs = (k : ℕ) → k < length xs → (i : ℕ) × (slice_get xs k ≡ Some i) × (i < n) × (k + length (layout l i) ≤ length xs)

pub slice_get_append_left : (xs ys : List ℕ) (k i : ℕ) → slice_get xs k ≡ Some i → slice_get (xs ++ ys) k ≡ Some i
slice_get_append_left [] ys k i e = cc
slice_get_append_left (x ∷ xs) ys zero i e = e
slice_get_append_left (x ∷ xs) ys (suc k) i e = slice_get_append_left xs ys k i e

slice_get_append_right : (xs ys : List ℕ) (k i : ℕ) → length xs ≤ k → slice_get ys (k - length xs) ≡ Some i
    → slice_get (xs ++ ys) k ≡ Some i
slice_get_append_right [] ys k i h e = let same : k - 0 ≡ k = omega arith in ap (slice_get ys) (sym same) ∙ e
slice_get_append_right (x ∷ xs) ys zero i h e = absurd (omega (arith, h))
slice_get_append_right (x ∷ xs) ys (suc k) i h e =
    let same : k - length xs ≡ suc k - length (x ∷ xs) = omega arith in
    slice_get_append_right xs ys k i (omega (arith, h)) (ap (slice_get ys) same ∙ e)

Roomy-append : (l : List (List ℕ)) (n : ℕ) (xs ys : List ℕ) → Roomy l n xs → Roomy l n ys → Roomy l n (xs ++ ys)
unfolding Roomy
Roomy-append l n xs ys first second k h = by_test (nat_lt k (length xs)) refl
  where
    long : length (xs ++ ys) ≡ length xs + length ys
    long = length-append xs ys

    by_test : (t : Bool) → nat_lt k (length xs) ≡ t → (i : ℕ) × (slice_get (xs ++ ys) k ≡ Some i) × (i < n)
        × (k + length (layout l i) ≤ length (xs ++ ys))
    by_test true e =
        let x = first k (lt-from_true k (length xs) e) in
        (x.0, slice_get_append_left xs ys k x.0 x.1, x.2, omega (arith, x.3, long))
    by_test false e =
        let after = le-from_lt_false k (length xs) e in
        let y = second (k - length xs) (omega (arith, h, long, after)) in
        (y.0, slice_get_append_right xs ys k y.0 after y.1, y.2, omega (arith, y.3, long, after))

Roomy-laid_out : (l : List (List ℕ)) (n m : ℕ) (js : List ℕ) → ((j : ℕ) → j < m → Roomy l n (layout l j)) → all_below m js ≡ true
    → Roomy l n (laid_out l js)
unfolding Roomy
Roomy-laid_out l n m [] each all = λ k h. absurd (omega (arith, h))
Roomy-laid_out l n m (j ∷ js) each all =
    let two = both_true (nat_lt j m) (all_below m js) all in
    Roomy-append l n (layout l j) (laid_out l js) (each j (lt-from_true j m two.0)) (Roomy-laid_out l n m js each two.1)

Roomy-first : (l : List (List ℕ)) (n i : ℕ) (xs : List ℕ) → i < n → length (layout l i) ≤ length xs + 1 → Roomy l n xs → Roomy l n (i ∷ xs)
unfolding Roomy
Roomy-first l n i xs h room more zero less = (i, refl, h, omega (arith, room))
Roomy-first l n i xs h room more (suc k) less = let x = more k (omega (arith, less)) in (x.0, x.1, x.2, omega (arith, x.3))

-- in the layout of each block there is room for what its blocks launch
Roomy-layout : (bs : List Block) → launch_back 0 bs ≡ true → (m i : ℕ) → i < m → i < length bs
    → Roomy (layouts bs) (length bs) (layout (layouts bs) i)
Roomy-layout bs back zero i h within = absurd (omega (arith, h))
Roomy-layout bs back (suc m) i h within =
    let l = layouts bs in
    let js = launched (code_of_block (slice_get bs i)) in
    let same : 0 + i ≡ i = omega arith in
    let all : all_below i js ≡ true = subst (λ n. all_below n js ≡ true) same (launched_back bs 0 i back) in
    let is = layout-next bs i back within in
    let rest : Roomy l (length bs) (laid_out l js) = Roomy-laid_out l (length bs) i js
    (λ j less. Roomy-layout bs back m j (omega (arith, h, less)) (omega (arith, less, within))) all in
    subst (Roomy l (length bs)) (sym is) (Roomy-first l (length bs) i (laid_out l js) within (omega (arith, ap length is)) rest)

-- from the place of a block in a layout on there is room for all that it launches
pub layout-room : (bs : List Block) → launch_back 0 bs ≡ true → (j : ℕ) → j < length bs → (x v : ℕ) → x < length (layout (layouts bs) j)
    → slice_get (layout (layouts bs) j) x ≡ Some v → x + length (layout (layouts bs) v) ≤ length (layout (layouts bs) j)
unfolding Roomy
layout-room bs back j within x v h at =
    let room = Roomy-layout bs back (suc j) j (omega arith) within x h in
    let both_some : Some room.0 ≡ Some v = sym room.1 ∙ at in
    let same : room.0 ≡ v = cc in
    omega (arith, room.3, ap (λ n. length (layout (layouts bs) n)) same)

-- the same of blocks that stand side by side
Roomy-all : (bs : List Block) (js : List ℕ) → launch_back 0 bs ≡ true → all_below (length bs) js ≡ true
    → Roomy (layouts bs) (length bs) (laid_out (layouts bs) js)
Roomy-all bs js back all = Roomy-laid_out (layouts bs) (length bs) (length bs) js
    (λ j less. Roomy-layout bs back (suc j) j (omega arith) less) all

-- ---- what the blocks launch is declared

pub launched_each : (n i : ℕ) (bs : List Block) → i + length bs ≤ n → launch_back i bs ≡ true
    → list_all (λ b. all_below n (launched b.code)) bs ≡ true
launched_each n i [] h back = refl
launched_each n i (b ∷ bs) h back =
    let two = both_true (all_below i (launched b.code)) (launch_back (i + 1) bs) back in
    both (all_below n (launched b.code)) _ (all_below-more i n (omega (arith, h)) (launched b.code) two.0)
    (launched_each n (i + 1) bs (omega (arith, h)) two.1)

pub in_block : (test : List Instruction → Bool) → test [] ≡ true → (bs : List Block) (j : ℕ) (o : Option Block)
    → list_all (λ b. test b.code) bs ≡ true → slice_get bs j ≡ o → test (code_of_block o) ≡ true
in_block test none bs j None all is = none
in_block test none bs j (Some b) all is = test_at (λ x. test x.code) bs j b all is

-- what holds of the lines of each block holds of those of each tag
pub code_known : (test : List Instruction → Bool) → test [] ≡ true → (p : Program) (o : Option ℕ)
    → list_all (λ b. test b.code) p.blocks ≡ true → test (code_at p o) ≡ true
code_known test none p None all = none
code_known test none p (Some i) all = in_block test none p.blocks i (slice_get p.blocks i) all refl

-- what is spawned is declared
pub spawned_known : (p : Program) → IsProgram p → all_below (length p.blocks) (spawned p) ≡ true
spawned_known p ok = (Declares-from_program p ok).spawns

pub launched_known : (p : Program) (k : ℕ) → IsProgram p → list_all (λ j. nat_lt j (length p.blocks)) (launched (code_of p k)) ≡ true
launched_known p k ok = code_known (λ code. all_below (length p.blocks) (launched code)) refl p (block_of_tag p k)
    (launched_each (length p.blocks) 0 p.blocks (omega arith) (Declares-from_program p ok).launches)

pub jobs_known : (p : Program) (k : ℕ) → IsProgram p → knows_jobs 0 (code_of p k) ≡ true
jobs_known p k ok = code_known (knows_jobs 0) refl p (block_of_tag p k) (Declares-from_program p ok).jobs

pub channels_known : (p : Program) (k : ℕ) → IsProgram p → list_all (names_channel (length p.channels)) (code_of p k) ≡ true
channels_known p k ok = code_known (list_all (names_channel (length p.channels))) refl p (block_of_tag p k)
    (Declares-from_program p ok).channels

-- ---- tags

pub block_named-within : (name : List ℕ) (from : ℕ) (bs : List Block) (n : ℕ) → block_named name from bs ≡ Some n → n < from + length bs
block_named-within name from [] n e = cc
block_named-within name from (b ∷ bs) n e = by_test (bytes_eq b.name name) (λ f. block_named-within name (from + 1) bs n f) e
  where
    by_test : (t : Bool) → (block_named name (from + 1) bs ≡ Some n → n < from + 1 + length bs)
        → (if t then Some from else block_named name (from + 1) bs) ≡ Some n → n < from + length (b ∷ bs)
    by_test true more e = let same : from ≡ n = cc in omega (arith, same)
    by_test false more e = omega (arith, more e)

pub some_block : (o : Option ℕ) → is_some o ≡ true → (i : ℕ) × (o ≡ Some i)
some_block None e = cc
some_block (Some i) e = (i, refl)

-- the number of the block that main's tag runs
pub main_block : (p : Program) → IsProgram p → (i : ℕ) × (block_named (codes "main") 0 p.blocks ≡ Some i) × (i < length p.blocks)
main_block p ok =
    let m = some_block (block_named (codes "main") 0 p.blocks) (Declares-from_program p ok).main in
    let within = block_named-within (codes "main") 0 p.blocks m.0 m.1 in
    (m.0, m.1, omega (arith, within))

-- what main launches
abbrev pub main_launches : Program → ℕ → List ℕ
main_launches p main = launched (code_of_block (slice_get p.blocks main))

-- main's tag, those of the spawns, and those of what main launches
pub tags_of-main : (p : Program) (main : ℕ) → block_named (codes "main") 0 p.blocks ≡ Some main
    → tags_of p ≡ main ∷ (laid_out (layouts p.blocks) (spawned p) ++ laid_out (layouts p.blocks) (main_launches p main))
tags_of-main p main is = ap (tags_for p.blocks (spawned p)) is

pub count-main : (p : Program) (main : ℕ) → block_named (codes "main") 0 p.blocks ≡ Some main
    → coroutine_count p ≡ 1 + sizes_of p (spawned p) + sizes_of p (main_launches p main)
count-main p main is =
    let l = layouts p.blocks in
    omega (
      arith,
      ap length (tags_of-main p main is),
      length-append (laid_out l (spawned p)) (laid_out l (main_launches p main)),
      length-laid_out p (spawned p),
      length-laid_out p (main_launches p main),
    )

pub main_fits : (p : Program) → IsProgram p → 1 + sizes_of p (spawned p) + sizes_of p (launched (code_of p 0)) ≤ coroutine_count p
main_fits p ok =
    let m = main_block p ok in
    let lines : code_of p 0 ≡ code_of_block (slice_get p.blocks m.0) = ap (λ tags. code_at p (slice_get tags 0)) (tags_of-main p m.0 m.1) in
    let same : sizes_of p (launched (code_of p 0)) ≡ sizes_of p (main_launches p m.0) = ap (λ code. sizes_of p (launched code)) lines in
    omega (arith, same, count-main p m.0 m.1)

Roomy-tags : (p : Program) → IsProgram p → Roomy (layouts p.blocks) (length p.blocks) (tags_of p)
Roomy-tags p ok =
    let m = main_block p ok in
    let l = layouts p.blocks in
    let n = length p.blocks in
    let js = main_launches p m.0 in
    let all : all_below n js ≡ true = in_block (λ code. all_below n (launched code)) refl p.blocks m.0 (slice_get p.blocks m.0)
    (launched_each n 0 p.blocks (omega arith) (Declares-from_program p ok).launches) refl in
    let room : length (layout l m.0) ≤ length (laid_out l (spawned p) ++ laid_out l js) + 1 =
    omega (
      arith,
      ap length (layout-next p.blocks m.0 (Declares-from_program p ok).launches m.2),
      length-append (laid_out l (spawned p)) (laid_out l js),
    ) in
    subst (Roomy l n) (sym (tags_of-main p m.0 m.1))
    (Roomy-first l n m.0 (laid_out l (spawned p) ++ laid_out l js) m.2 room
    (Roomy-append l n (laid_out l (spawned p)) (laid_out l js)
    (Roomy-all p.blocks (spawned p) (Declares-from_program p ok).launches (spawned_known p ok))
    (Roomy-all p.blocks js (Declares-from_program p ok).launches all)))

-- the number of the block that a tag runs
pub block_of_tag-some : (p : Program) → IsProgram p → (tag : ℕ) → tag < coroutine_count p → (i : ℕ) × (block_of_tag p tag ≡ Some i)
    × (i < length p.blocks)
unfolding Roomy
block_of_tag-some p ok tag h = let x = Roomy-tags p ok tag h in (x.0, x.1, x.2)

pub launches_fit : (p : Program) (k : ℕ) → IsProgram p → k ≢ 0 → k < coroutine_count p
    → k + 1 + sizes_of p (launched (code_of p k)) ≤ coroutine_count p
unfolding Roomy
launches_fit p k ok other h =
    let x = Roomy-tags p ok k h in
    let is = layout-next p.blocks x.0 (Declares-from_program p ok).launches x.2 in
    let lines : code_of p k ≡ code_of_block (slice_get p.blocks x.0) = ap (code_at p) x.1 in
    let same : sizes_of p (launched (code_of p k)) ≡ sizes_of p (main_launches p x.0) = ap (λ code. sizes_of p (launched code)) lines in
    omega (arith, same, length-laid_out p (main_launches p x.0), ap length is, x.3)

-- the table of tags gives the block of each
pub tag_at : (p : Program) (tags : List ℕ) (tag x : ℕ) → tags ≡ tags_of p → tag < coroutine_count p → x ≡ get_or tags tag x
    → block_of_tag p tag ≡ Some x
tag_at p tags tag x is h at =
    let long : tag < length tags = omega (arith, h, ap length is) in
    ap (λ l. slice_get l tag) (sym is) ∙ slice_get_read tags (length tags) tag x refl long at

-- the table of sizes gives that of each block
pub size_at : (bs : List Block) (sizes : List ℕ) (b x : ℕ) → sizes ≡ sizes_in bs → b < length bs → x ≡ get_or sizes b x → x ≡ size_in bs b
size_at bs sizes b x is h at =
    at ∙ ap (λ l. get_or l b x) is ∙ get_or-map length (layouts bs) b [] x (omega (arith, h, length-layouts bs))

pub length-sizes_in : (bs : List Block) → length (sizes_in bs) ≡ length bs
length-sizes_in bs = length-map (layouts bs) length ∙ length-layouts bs
