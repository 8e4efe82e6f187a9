-- More than a channel and a place are no wait.
use Rattle.std.proofs.Common.{◌≡◌, ◌<◌, ◌==◌, ℕ, List, [], ◌∷◌, false, refl, length, arith, Option, Some, sym, subst}
use denote.Ref.{Bor}
use Rattle.std.specs.List.{slice_split}
use Rattle.std.proofs.lemmas.List.Splits.{length-slice_split}
use Rattle.report_reader.specs.Words.{parts}
use Rattle.report_reader.specs.Forms.{are_channel_and_place}

three_parts : (c place : List ℕ) (more : List (List ℕ)) → 0 < length more → are_channel_and_place (c ∷ (place ∷ more)) ≡ false
three_parts c place [] some = absurd (omega (arith, some))
three_parts c place (part ∷ parts) some = refl

pub too_many : (c place rest : List ℕ) → are_channel_and_place (c ∷ (place ∷ slice_split (λ b. b == 46) rest)) ≡ false
too_many c place rest = three_parts c place _ (omega (arith, length-slice_split (λ b. b == 46) rest))

pub some_more : (c place : List ℕ) (more : Option (Bor (List ℕ))) (rest : Bor (List ℕ)) → more ≡ Some rest
    → false ≡ are_channel_and_place (c ∷ parts 46 place more)
some_more c place more rest is = subst (λ m. false ≡ are_channel_and_place (c ∷ parts 46 place m)) (sym is)
    (sym (too_many c place rest.now))
