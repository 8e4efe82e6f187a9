-- Sizes of blocks, one after the other.
use Rattle.std.proofs.Common.{◌≡◌, ℕ, ◌+◌, ◌-◌, ◌*◌, ◌<◌, ◌≤◌, List, [], ◌∷◌, ◌++◌, length, length-append, refl, ap, sym, ◌∙◌, arith, map, get_or, take, drop, Option, Some, None}
use Rattle.std.proofs.lemmas.List.{map-append, take_all}
use Rattle.std.proofs.Math.ListN.{get_or-map}
use Rattle.std.proofs.Math.Seq.{get_or-append_seam}
use Rattle.script_grammar.specs.declared.instructions.Instruction.{Instruction}
use Rattle.script_grammar.specs.Programs.{Block}
use Rattle.script_grammar.specs.Blocks.{product, launch_of}
use Rattle.script_grammar.specs.Tags.{launched, layouts_from, layouts, size_in, sizes_in, nest_with, counted, launches_from}
use Rattle.script_grammar.proofs.Layouts.{layout, next_layout, layout-stays, length-layouts_from, length-layouts}
use Rattle.script_grammar.proofs.LaunchesCounted.{total-launched}
use Rattle.script_grammar.proofs.SizesSoFar.{length-laid_out}

-- the first of a list, and the others
pub split_off : {A : Type 0} (xs : List A) (d : A) → 1 ≤ length xs → xs ≡ get_or xs 0 d ∷ take (length xs - 1) (drop 1 xs)
split_off [] d some = absurd (omega arith)
split_off (x ∷ xs) d some = ap (λ l. x ∷ l) (sym (take_all (length (x ∷ xs) - 1) xs (omega arith)))

counted-same : (f g : ℕ → ℕ) (o : Option ℕ) → ((j : ℕ) → f j ≡ g j) → counted f o ≡ counted g o
counted-same f g None same = refl
counted-same f g (Some j) same = same j

launches_from-same : (f g : ℕ → ℕ) (nest : List ℕ) (code : List Instruction) → ((j : ℕ) → f j ≡ g j)
    → launches_from f nest code ≡ launches_from g nest code
launches_from-same f g nest [] same = refl
launches_from-same f g nest (x ∷ code) same =
    omega (arith, ap (λ n. product nest * n) (counted-same f g (launch_of x) same), launches_from-same f g (nest_with nest x) code same)

-- the size of a block, from the sizes of those before it
pub size-next : (before : List (List ℕ)) (b : Block) (sizes : List ℕ) → sizes ≡ map length before
    → 1 + launches_from (λ j. get_or sizes j 0) [] b.code ≡ length (next_layout before b)
size-next before b sizes is =
    let count = λ (j : ℕ). length (layout before j) in
    omega (
      arith,
      launches_from-same (λ j. get_or sizes j 0) count [] b.code (λ j. ap (λ l. get_or l j 0) is ∙ get_or-map length before j []),
      length-laid_out before (launched b.code),
      total-launched count b.code,
    )

-- it is within the limit that holds of all
pub size-light : (blocks : List Block) (before : List (List ℕ)) (b : Block) (rest : List Block)
    → layouts_from before (b ∷ rest) ≡ layouts blocks → ((k : ℕ) → k < length blocks → size_in blocks k ≤ 16000)
    → length (next_layout before b) ≤ 16000
unfolding layouts_from
size-light blocks before b rest is light =
    let next = next_layout before b in
    let long : length before < length (before ++ next ∷ []) = omega (arith, length-append before (next ∷ [])) in
    let here : layout (layouts blocks) (length before) ≡ next = ap (λ l. layout l (length before)) (sym is)
    ∙ layout-stays (before ++ next ∷ []) rest (length before) long ∙ get_or-append_seam before next [] [] in
    let within : length before < length blocks = omega (
      arith,
      length-layouts_from (before ++ next ∷ []) rest,
      length-append before (next ∷ []),
      ap length is,
      length-layouts blocks,
    ) in
    omega (arith, light (length before) within, ap length here)

pub size-step : (blocks : List Block) (before : List (List ℕ)) (b : Block) (rest : List Block) (sizes : List ℕ) (size : ℕ)
    → layouts_from before (b ∷ rest) ≡ layouts blocks → sizes ≡ map length before → size ≡ length (next_layout before b)
    → (after : List (List ℕ)) × (sizes ++ size ∷ [] ≡ map length after) × (layouts_from after rest ≡ layouts blocks)
unfolding layouts_from
size-step blocks before b rest sizes size is old new =
    let next = next_layout before b in (
      before ++ next ∷ [],
      ap (λ l. l ++ size ∷ []) old ∙ ap (λ n. map length before ++ n ∷ []) new
          ∙ sym (map-append length before (next ∷ [])),
      is,
    )

pub size-end : (blocks : List Block) (before : List (List ℕ)) (rest : List Block) (sizes : List ℕ)
    → layouts_from before rest ≡ layouts blocks → sizes ≡ map length before → length rest ≡ 0 → sizes ≡ sizes_in blocks
unfolding layouts_from
size-end blocks before [] sizes is old none = old ∙ ap (map length) is
size-end blocks before (b ∷ rest) sizes is old none = cc
