-- The parts of a text that is cut at some bytes.
use Rattle.std.specs.Prelude.{ℕ, Bool, List, [], ◌∷◌, Option, Some, None}
use Rattle.std.specs.List.{slice_split}
use denote.Ref.{Bor}

-- the first part, and those of the rest, if there is a rest
abbrev pub parts : (ℕ → Bool) → List ℕ → Option (Bor (List ℕ)) → List (List ℕ)
parts cut first None = first ∷ []
parts cut first (Some rest) = first ∷ slice_split cut rest.now
