-- The load of a program is the number of its coroutines and scopes.
use Rattle.std.proofs.Common.{◌≡◌, ℕ, zero, suc, ◌+◌, ◌*◌, ◌<◌, List, [], ◌∷◌, ◌++◌, length, refl, ap, sym, ◌∙◌, arith, Option, Some, None, Bool, true, false, nat_lt, get_or, slice_get, if◌then◌else◌, length-append, replicate}
use Rattle.std.specs.Prelude.{◌||◌}
use Rattle.std.specs.List.{list_all, list_any}
use Rattle.std.specs.Str.{bytes_eq}
use Rattle.std.proofs.lemmas.Slice.Eq.{bytes_eq-Decides}
use Rattle.std.proofs.lemmas.List.{get_or_append_left, length-map}
use Rattle.std.proofs.Math.Seq.{get_or-append_seam}
use Rattle.std.proofs.lemmas.Bool.{both_ways, or_right}
use lib.Chars.{codes}
use Rattle.script_grammar.specs.declared.instructions.Instruction.{Instruction}
use Rattle.script_grammar.specs.declared.instructions.Instruction.TheVariants.{Send, TrySend, Receive, TryReceive, Close, CancelChannel, Yield, Launch, Start}
use Rattle.script_grammar.specs.Programs.{Block, Program, block_names}
use Rattle.script_grammar.specs.Blocks.{Open, opened, with_line, is_main, product, own_weight, launch_of}
use Rattle.script_grammar.specs.Reads.{closed_main, spawned_weight}
use Rattle.script_grammar.specs.Grammar.{is_spawn}
use Rattle.script_grammar.specs.WellFormed.{name_given, line_fits, is_within, lines_fit, with_lines, weight_in, weights_from, blocks_fit, whole_load, IsProgram}
use Rattle.script_grammar.specs.Tags.{launched, laid_out, layouts_from, layouts, block_named, code_of_block, spawned_by, spawned, tags_of, nest_with, counted, launches_from, scopes_entered, scopes_from, scopes_of_all, job_count}
use Rattle.script_grammar.specs.Declarations.{all_below}
use Rattle.script_grammar.proofs.SpelledIsProgram.{lines_stand}
use Rattle.script_grammar.proofs.Truths.{both, both_true, not_true, lt-from_true, le-from_lt_false}
use Rattle.script_grammar.proofs.NamedIsDeclared.{lines-launched, Declares-from_program}
use Rattle.script_grammar.proofs.Layouts.{layout, next_layout, layout-next, main_block, tags_of-main, laid_out-append}
use Rattle.script_grammar.proofs.NestAfterLines.{open_nest, open_nest-line, nest_then-once}
use Rattle.script_grammar.proofs.LaunchesCounted.{total, total-append, total-launched}

-- ---- a block's weight: 1, what it launches and the scopes that it enters

pub product-open_nest : (o : Option (List ℕ)) (nest : List ℕ) → product (open_nest 1 o nest) ≡ product nest
product-open_nest None nest = refl
product-open_nest (Some cs) nest = omega arith

-- the weight of a block of this number
abbrev pub weight_at : List ℕ → ℕ → ℕ
weight_at weights j = get_or weights j 0

own_weight-is : (weights : List ℕ) (x : Instruction) → own_weight weights x ≡ counted (weight_at weights) (launch_of x) + scopes_entered x
own_weight-is weights (Send c v) = refl
own_weight-is weights (TrySend c v) = refl
own_weight-is weights (Receive c) = refl
own_weight-is weights (TryReceive c) = refl
own_weight-is weights (Close c) = refl
own_weight-is weights (CancelChannel c) = refl
own_weight-is weights Yield = refl
own_weight-is weights (Launch p how job) = omega arith
own_weight-is weights (Start j) = refl
own_weight-is weights other = refl

spread : (p q a b w : ℕ) → q ≡ p → w ≡ a + b → p * w ≡ q * a + q * b
spread p q a b w e f = ap (λ v. p * v) f ∙ apart p a b ∙ ap (λ r. r * a + r * b) (sym e)
  where
    apart : (p a b : ℕ) → p * (a + b) ≡ p * a + p * b
    apart p a b = omega arith

gathered : (w p a b c d : ℕ) → w + (a + b) + c + d ≡ w + (a + c) + (b + d)
gathered w p a b c d = omega arith

-- and weighs as much more as they launch and enter scopes
pub weight-with_lines : (n : ℕ) (blocks : List (List ℕ)) (weights : List ℕ) (jobs : List (List ℕ)) (b : Open) (code : List Instruction)
    → lines_stand n blocks weights jobs b code ≡ true → (with_lines weights jobs b code).weight ≡
    b.weight + launches_from (weight_at weights) (open_nest 1 b.clauses b.nest) code + scopes_from (open_nest 1 b.clauses b.nest) code
weight-with_lines n blocks weights jobs b [] e = omega arith
weight-with_lines n blocks weights jobs b (x ∷ code) e =
    let two = both_true _ _ e in
    let rest = both_true _ _ two.1 in
    let may = (both_true _ _ two.0).0 in
    let next = with_line weights x (name_given jobs x) b in
    let nest = open_nest 1 b.clauses b.nest in
    let step = open_nest-line 1 b.clauses b.nest x may ∙ nest_then-once nest x in
    let count = weight_at weights in
    let a = product nest * counted count (launch_of x) in
    let c = product nest * scopes_entered x in
    let own : product b.nest * own_weight weights x ≡ a + c =
    spread (product b.nest) (product nest) (counted count (launch_of x)) (scopes_entered x) (own_weight weights x)
    (product-open_nest b.clauses b.nest) (own_weight-is weights x) in
    weight-with_lines n blocks weights jobs next code rest.1
    ∙ ap (λ m. next.weight + launches_from count m code + scopes_from m code) step
    ∙ ap (λ w. b.weight + w + launches_from count (nest_with nest x) code + scopes_from (nest_with nest x) code) own
    ∙ gathered b.weight 0 a c (launches_from count (nest_with nest x) code) (scopes_from (nest_with nest x) code)

lines_stand-from_fit : (n : ℕ) (blocks : List (List ℕ)) (weights : List ℕ) (jobs : List (List ℕ)) (b : Open) (code : List Instruction)
    → lines_fit n blocks weights jobs b code ≡ true → lines_stand n blocks weights jobs b code ≡ true
lines_stand-from_fit n blocks weights jobs b [] e = refl
lines_stand-from_fit n blocks weights jobs b (x ∷ code) e =
    let two = both_true _ _ e in
    let rest = both_true _ _ two.1 in
    both (line_fits n blocks b x (name_given jobs x)) _ two.0
    (both (is_within (with_line weights x (name_given jobs x) b)) _ rest.0
    (lines_stand-from_fit n blocks weights jobs (with_line weights x (name_given jobs x) b) code rest.1))

pub weight_in-is : (n : ℕ) (blocks : List (List ℕ)) (weights : List ℕ) (b : Block)
    → lines_fit n blocks weights b.jobs (opened b.name) b.code ≡ true
    → weight_in weights b ≡ 1 + total (weight_at weights) (launched b.code) + scopes_from [] b.code
weight_in-is n blocks weights b e =
    weight-with_lines n blocks weights b.jobs (opened b.name) b.code (lines_stand-from_fit n blocks weights b.jobs (opened b.name) b.code e)
    ∙ ap (λ m. 1 + m + scopes_from [] b.code) (sym (total-launched (weight_at weights) b.code))

-- ---- the layout of each block counts as much as the block weighs

-- an instance of a block counts for itself and for the scopes that it enters
abbrev pub instance_jobs : List Block → ℕ → ℕ
instance_jobs all j = 1 + scopes_from [] (code_of_block (slice_get all j))

abbrev Weighs : List Block → ℕ → List (List ℕ) → List ℕ → Type 0
Weighs all i before weights = (k : ℕ) → k < i → total (instance_jobs all) (layout before k) ≡ weight_at weights k

laid_out-weighs : (all : List Block) (i : ℕ) (before : List (List ℕ)) (weights js : List ℕ) → Weighs all i before weights
    → all_below i js ≡ true → total (instance_jobs all) (laid_out before js) ≡ total (weight_at weights) js
laid_out-weighs all i before weights [] is e = refl
laid_out-weighs all i before weights (j ∷ js) is e =
    let two = both_true (nat_lt j i) _ e in
    total-append (instance_jobs all) (layout before j) (laid_out before js)
    ∙ ap (λ m. m + total (instance_jobs all) (laid_out before js)) (is j (lt-from_true j i two.0))
    ∙ ap (λ m. weight_at weights j + m) (laid_out-weighs all i before weights js is two.1)

-- these blocks stand in the list from this place on
abbrev StandFrom : List Block → ℕ → List Block → Type 0
StandFrom all i rest = (j : ℕ) → j < length rest → slice_get all (i + j) ≡ slice_get rest j

StandFrom-next : (all : List Block) (i : ℕ) (b : Block) (rest : List Block) → StandFrom all i (b ∷ rest) → StandFrom all (i + 1) rest
StandFrom-next all i b rest is j h =
    let same : i + 1 + j ≡ i + suc j = omega arith in
    ap (slice_get all) same ∙ is (suc j) (omega (arith, h))

reordered : (l s : ℕ) → 1 + s + l ≡ 1 + l + s
reordered l s = omega arith

Weighs-push : (all : List Block) (n i : ℕ) (names before : List (List ℕ)) (weights : List ℕ) (b : Block) → slice_get all i ≡ Some b
    → i ≡ length before → i ≡ length weights → i ≡ length names → lines_fit n names weights b.jobs (opened b.name) b.code ≡ true
    → Weighs all i before weights → Weighs all (i + 1) (before ++ next_layout before b ∷ []) (weights ++ weight_in weights b ∷ [])
Weighs-push all n i names before weights b at m w l e is k h = by_place (nat_lt k i) refl
  where
    js : List ℕ
    js = launched b.code

    below : all_below i (launched b.code) ≡ true
    below = ap (λ z. all_below z (launched b.code)) l ∙ lines-launched n names weights b.jobs (opened b.name) b.code e

    last : total (instance_jobs all) (next_layout before b) ≡ weight_in weights b
    last =
        ap (λ z. instance_jobs all z + total (instance_jobs all) (laid_out before (launched b.code))) (sym m)
        ∙ ap (λ o. 1 + scopes_from [] (code_of_block o) + total (instance_jobs all) (laid_out before (launched b.code))) at
        ∙ ap (λ z. 1 + scopes_from [] b.code + z) (laid_out-weighs all i before weights (launched b.code) is below)
        ∙ reordered (total (weight_at weights) (launched b.code)) (scopes_from [] b.code)
        ∙ sym (weight_in-is n names weights b e)

    by_place : (t : Bool) → nat_lt k i ≡ t → total (instance_jobs all) (layout (before ++ next_layout before b ∷ []) k) ≡
        weight_at (weights ++ weight_in weights b ∷ []) k
    by_place true t =
        let less : k < i = lt-from_true k i t in
        ap (total (instance_jobs all)) (get_or_append_left before (next_layout before b ∷ []) [] k (omega (arith, less, m)))
        ∙ is k less
        ∙ sym (get_or_append_left weights (weight_in weights b ∷ []) 0 k (omega (arith, less, w)))
    by_place false t =
        let more = le-from_lt_false k i t in
        let here : k ≡ length before = omega (arith, more, h, m) in
        let there : k ≡ length weights = omega (arith, more, h, w) in
        ap (λ z. total (instance_jobs all) (layout (before ++ next_layout before b ∷ []) z)) here
        ∙ ap (total (instance_jobs all)) (get_or-append_seam before (next_layout before b) [] [])
        ∙ last
        ∙ sym (ap (weight_at (weights ++ weight_in weights b ∷ [])) there ∙ get_or-append_seam weights (weight_in weights b) [] 0)

layouts_from-weigh : (all : List Block) (n i : ℕ) (names before : List (List ℕ)) (weights : List ℕ) (rest : List Block)
    → StandFrom all i rest → i ≡ length before → i ≡ length weights → i ≡ length names → blocks_fit n names weights rest ≡ true
    → Weighs all i before weights → Weighs all (i + length rest) (layouts_from before rest) (weights_from weights rest)
unfolding layouts_from
layouts_from-weigh all n i names before weights [] at m w l e is = λ k h. is k (omega (arith, h))
layouts_from-weigh all n i names before weights (b ∷ rest) at m w l e is =
    let two = both_true _ _ (both_true _ _ e).1 in
    let here : i ≡ i + 0 = omega arith in
    let stands_at : slice_get all i ≡ Some b = ap (slice_get all) here ∙ at 0 (omega arith) in
    let more = layouts_from-weigh all n (i + 1) (names ++ b.name ∷ []) (before ++ next_layout before b ∷ []) (weights
    ++ weight_in weights b ∷ []) rest (StandFrom-next all i b rest at)
    (omega (arith, m, length-append before (next_layout before b ∷ [])))
    (omega (arith, w, length-append weights (weight_in weights b ∷ []))) (omega (arith, l, length-append names (b.name ∷ [])))
    two.1 (Weighs-push all n i names before weights b stands_at m w l two.0 is) in
    λ k h. more k (omega (arith, h))

-- the layout of a block counts as much as the block weighs
pub layouts-weigh : (n : ℕ) (bs : List Block) → blocks_fit n [] [] bs ≡ true → (k : ℕ) → k < length bs
    → total (instance_jobs bs) (layout (layouts bs) k) ≡ weight_at (weights_from [] bs) k
layouts-weigh n bs fit k h =
    layouts_from-weigh bs n 0 [] [] [] bs (λ j l. ap (slice_get bs) (nothing j)) refl refl refl fit (λ j l. absurd (omega (arith, l))) k
    (omega (arith, h))
  where
    nothing : (j : ℕ) → 0 + j ≡ j
    nothing j = omega arith

-- ---- spawned instances

copies-weigh : (all : List Block) (n : ℕ) (before : List (List ℕ)) (weights : List ℕ) (count b : ℕ) → Weighs all n before weights → b < n
    → total (instance_jobs all) (laid_out before (replicate count b)) ≡ count * weight_at weights b
copies-weigh all n before weights zero b is h = omega arith
copies-weigh all n before weights (suc count) b is h =
    let w = weight_at weights b in
    omega (
      arith,
      total-append (instance_jobs all) (layout before b) (laid_out before (replicate count b)),
      is b h,
      copies-weigh all n before weights count b is h,
      once_more count w,
    )
  where
    once_more : (count w : ℕ) → suc count * w ≡ w + count * w
    once_more count w = omega arith

spawned-weigh : (all : List Block) (n : ℕ) (before : List (List ℕ)) (weights : List ℕ) (names : List (List ℕ)) (spawns : List (ℕ × ℕ))
    → Weighs all n before weights → n ≡ length names → list_all (is_spawn names) spawns ≡ true
    → total (instance_jobs all) (laid_out before (spawned_by spawns)) ≡ spawned_weight weights spawns
spawned-weigh all n before weights names [] is l e = refl
spawned-weigh all n before weights names (s ∷ spawns) is l e =
    let two = both_true (is_spawn names s) _ e in
    let low = lt-from_true s.0 (length names) (both_true _ _ (both_true _ _ two.0).0).0 in
    ap (total (instance_jobs all)) (laid_out-append before (replicate s.1 s.0) (spawned_by spawns))
    ∙ total-append (instance_jobs all) (laid_out before (replicate s.1 s.0)) (laid_out before (spawned_by spawns))
    ∙ ap (λ m. m + total (instance_jobs all) (laid_out before (spawned_by spawns)))
    (copies-weigh all n before weights s.1 s.0 is (omega (arith, low, l)))
    ∙ ap (λ m. s.1 * weight_at weights s.0 + m) (spawned-weigh all n before weights names spawns is l two.1)

-- ---- main

is_main-same : (name : List ℕ) → is_main name ≡ true → name ≡ codes "main"
is_main-same name e = (bytes_eq-Decides name (codes "main")).0 e

-- after a block that is main no other is
only_main : (n : ℕ) (before : List (List ℕ)) (weights : List ℕ) (bs : List Block) → list_any (λ x. bytes_eq x (codes "main")) before ≡ true
    → blocks_fit n before weights bs ≡ true → (ws : List ℕ) → closed_main bs ws ≡ 0
only_main n before weights [] some e ws = refl
only_main n before weights (b ∷ bs) some e [] = refl
only_main n before weights (b ∷ bs) some e (w ∷ ws) =
    let two = both_true _ _ e in
    let rest = both_true _ _ two.1 in
    by_test (is_main b.name) refl (not_true _ (both_true _ _ two.0).1)
    (only_main n (before ++ b.name ∷ []) (weights ++ weight_in weights b ∷ []) bs (still before (b.name ∷ []) some) rest.1 ws)
  where
    still : (xs ys : List (List ℕ)) → list_any (λ x. bytes_eq x (codes "main")) xs ≡ true
        → list_any (λ x. bytes_eq x (codes "main")) (xs ++ ys) ≡ true
    still [] ys f = cc
    still (x ∷ xs) ys f = either (bytes_eq x (codes "main")) (list_any (λ x. bytes_eq x (codes "main")) xs)
        (list_any (λ x. bytes_eq x (codes "main")) (xs ++ ys)) f (λ g. still xs ys g)
      where
        either : (s t u : Bool) → (s || t) ≡ true → (t ≡ true → u ≡ true) → (s || u) ≡ true
        either true t u f g = refl
        either false t u f g = g f

    by_test : (t : Bool) → is_main b.name ≡ t → list_any (λ x. bytes_eq x b.name) before ≡ false → closed_main bs ws ≡ 0
        → (if t then w else 0) + closed_main bs ws ≡ 0
    by_test true f fresh rest = absurd (both_ways (list_any (λ x. bytes_eq x (codes "main")) before)
        (ap (λ y. list_any (λ x. bytes_eq x y) before) (sym (is_main-same b.name f)) ∙ fresh) some)
    by_test false f fresh rest = omega (arith, rest)

main-weighs : (n i m : ℕ) (before : List (List ℕ)) (weights : List ℕ) (bs : List Block) (ws : List ℕ)
    → blocks_fit n before weights bs ≡ true → block_named (codes "main") i bs ≡ Some m → length ws ≡ length bs → (j : ℕ) × (m ≡ i + j)
    × (closed_main bs ws ≡ weight_at ws j)
main-weighs n i m before weights [] ws e is l = cc
main-weighs n i m before weights (b ∷ bs) [] e is l = cc
main-weighs n i m before weights (b ∷ bs) (w ∷ ws) e is l =
    let rest = both_true _ _ (both_true _ _ e).1 in
    by_test (is_main b.name) refl is rest.1 (λ f. main-weighs n (i + 1) m (before ++ b.name ∷ []) (weights
    ++ weight_in weights b ∷ []) bs ws rest.1 f (omega (arith, l)))
  where
    later : (a b : ℕ) → a ≡ b → 0 + a ≡ b
    later a b e = omega (arith, e)

    some_main : (xs : List (List ℕ)) (name : List ℕ) → is_main name ≡ true
        → list_any (λ x. bytes_eq x (codes "main")) (xs ++ name ∷ []) ≡ true
    some_main [] name f = ap (λ t. t || false) f
    some_main (x ∷ xs) name f = or_right (bytes_eq x (codes "main")) _ (some_main xs name f)

    by_test : (t : Bool) → is_main b.name ≡ t → (if t then Some i else block_named (codes "main") (i + 1) bs) ≡ Some m
        → blocks_fit n (before ++ b.name ∷ []) (weights ++ weight_in weights b ∷ []) bs ≡ true
        → (block_named (codes "main") (i + 1) bs ≡ Some m → (j : ℕ) × (m ≡ i + 1 + j) × (closed_main bs ws ≡ weight_at ws j))
        → (j : ℕ) × (m ≡ i + j) × ((if t then w else 0) + closed_main bs ws ≡ weight_at (w ∷ ws) j)
    by_test true f named fit more =
        let same : i ≡ m = cc in (
          0,
          omega (arith, same),
          omega (
            arith,
            only_main n (before ++ b.name ∷ []) (weights
                ++ weight_in weights b ∷ []) bs (some_main before b.name f) fit ws,
          ),
        )
    by_test false f named fit more = let r = more named in (suc r.0, omega (arith, r.1), later (closed_main bs ws) (weight_at ws r.0) r.2)

length-weights_from : (weights : List ℕ) (bs : List Block) → length (weights_from weights bs) ≡ length weights + length bs
length-weights_from weights [] = omega arith
length-weights_from weights (b ∷ bs) = omega (
  arith,
  length-weights_from (weights ++ weight_in weights b ∷ []) bs,
  length-append weights (weight_in weights b ∷ []),
)

-- ---- all tags

total-tags : (p : Program) (tags : List ℕ) → total (instance_jobs p.blocks) tags ≡ length tags + scopes_of_all p tags
total-tags p [] = refl
total-tags p (t ∷ tags) = omega (arith, total-tags p tags)

-- the load is the number of the Jobs
pub whole_load-job_count : (p : Program) → IsProgram p → whole_load p ≡ job_count p
whole_load-job_count p ok =
    let ws = weights_from [] p.blocks in
    let l = layouts p.blocks in
    let count = instance_jobs p.blocks in
    let m = main_block p ok in
    let js = launched (code_of_block (slice_get p.blocks m.0)) in
    let named = main-weighs (length p.channels) 0 m.0 [] [] p.blocks ws ok.blocks m.1 (length-weights_from [] p.blocks
    ∙ nothing (length p.blocks)) in
    let own : closed_main p.blocks ws ≡ weight_at ws m.0 = named.2 ∙ ap (weight_at ws) (sym (named.1 ∙ nothing named.0)) in
    let layout_is = layout-next p.blocks m.0 (Declares-from_program p ok).launches m.2 in
    let main : count m.0 + total count (laid_out l js) ≡ closed_main p.blocks ws = ap (total count) (sym layout_is)
    ∙ layouts-weigh (length p.channels) p.blocks ok.blocks m.0 m.2 ∙ sym own in
    let spawned_is : total count (laid_out l (spawned p)) ≡ spawned_weight ws p.spawns =
    spawned-weigh p.blocks (length p.blocks) l ws (block_names p.blocks) p.spawns (layouts-weigh (length p.channels) p.blocks ok.blocks)
    (sym (length-map p.blocks (λ (b : Block). b.name))) ok.spawns in
    let tags : total count (tags_of p) ≡ count m.0 + (total count (laid_out l (spawned p)) + total count (laid_out l js)) =
    ap (total count) (tags_of-main p m.0 m.1) ∙ ap (λ n. count m.0 + n) (total-append count (laid_out l (spawned p)) (laid_out l js)) in
    sums (closed_main p.blocks ws) (spawned_weight ws p.spawns) (count m.0) (total count (laid_out l js))
    (total count (laid_out l (spawned p))) main spawned_is
    ∙ sym tags
    ∙ total-tags p (tags_of p)
  where
    nothing : (n : ℕ) → 0 + n ≡ n
    nothing n = omega arith

    sums : (a b c d e : ℕ) → c + d ≡ a → e ≡ b → a + b ≡ c + (e + d)
    sums a b c d e f g = omega (arith, f, g)
