-- How many tags an instance of a block takes.
use Rattle.std.proofs.Common.{◌≡◌, ℕ, ◌<◌, ◌≤◌, List, [], ◌∷◌, length, refl, arith, true, length-append}
use Rattle.script_grammar.specs.Programs.{Block}
use Rattle.script_grammar.specs.WellFormed.{weights_from, blocks_fit}
use Rattle.script_grammar.specs.Tags.{laid_out, layouts, size_in}
use Rattle.script_grammar.proofs.Layouts.{layout}
use Rattle.script_grammar.proofs.LaunchesCounted.{total}
use Rattle.script_grammar.proofs.JobsCounted.{weight_at, instance_jobs, layouts-weigh}

-- ---- closed blocks

pub length-laid_out : (l : List (List ℕ)) (js : List ℕ) → length (laid_out l js) ≡ total (λ j. length (layout l j)) js
length-laid_out l [] = refl
length-laid_out l (j ∷ js) = omega (arith, length-append (layout l j) (laid_out l js), length-laid_out l js)

some_jobs : (all : List Block) (xs : List ℕ) → length xs ≤ total (instance_jobs all) xs
some_jobs all [] = omega arith
some_jobs all (x ∷ xs) = omega (arith, some_jobs all xs)

-- an instance of a block takes no more tags than the block weighs
pub size_in-light : (n : ℕ) (bs : List Block) → blocks_fit n [] [] bs ≡ true → (k : ℕ) → k < length bs
    → size_in bs k ≤ weight_at (weights_from [] bs) k
size_in-light n bs fit k h = omega (arith, some_jobs bs (layout (layouts bs) k), layouts-weigh n bs fit k h)
