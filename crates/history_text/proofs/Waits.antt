-- More than a channel and a place are no wait.
use Rattle.std.proofs.Common.{◌≡◌, ◌<◌, ◌==◌, ℕ, List, [], ◌∷◌, refl, length, arith, Option, Some, None, sym}
use denote.Ref.{Bor}
use Rattle.std.specs.Option.{is_some}
use Rattle.std.proofs.lemmas.List.Splits.{length-slice_split}
use Rattle.report_reader.specs.Words.{parts}
use Rattle.history_text.specs.Words.{wait_by}
use Rattle.std.proofs.Common.{true}

three_parts : (names : List (List ℕ)) (c place : List ℕ) (more : List (List ℕ)) → 0 < length more
    → wait_by names (c ∷ (place ∷ more)) ≡ None
three_parts names c place [] some = absurd (omega (arith, some))
three_parts names c place (part ∷ parts) some = refl

pub some_more : (names : List (List ℕ)) (c place : List ℕ) (more : Option (Bor (List ℕ))) → is_some more ≡ true
    → None ≡ wait_by names (c ∷ parts 46 place more)
some_more names c place None is = cc
some_more names c place (Some rest) is =
    sym (three_parts names c place _ (omega (arith, length-slice_split (λ b. b == 46) rest.now)))
