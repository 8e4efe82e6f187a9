-- A script of which no line is said yet.
use Rattle.std.proofs.Common.{◌≡◌, List, [], ◌∷◌, length, map, refl, arith}
use Rattle.std.specs.Prelude.{◌==◌, not}
use Rattle.std.proofs.lemmas.Bool.Decides.{nat_tests}
use Rattle.script_grammar.specs.Words.{has_items}

pub none_said : {A B : Type 0} (f : A → B) (xs : List A) → not (has_items (map f xs)) ≡ (length xs == 0)
none_said f [] = refl
none_said f (x ∷ xs) = grind (arith, nat_tests)
