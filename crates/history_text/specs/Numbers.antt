-- How many coroutines and scopes the line before a history speaks of.
use Rattle.std.specs.Prelude.{ℕ, ◌+◌, ◌==◌, nat_le, Bool, ◌&&◌, List, [], ◌∷◌, Option, Some, None, if◌then◌else◌}
use Rattle.std.specs.Str.{bytes_eq}
use lib.Chars.{codes}
use Rattle.job_model.specs.Trees.{Shape}
use Rattle.history_text.specs.declared.job_numbers.JobNumbers.{JobNumbers}
use Rattle.history_text.specs.Words.{tag_at}

-- the coroutines, and all rows: theirs and those of the scopes
abbrev pub shape_with : ℕ → ℕ → Shape
shape_with coroutines scopes = record { coroutines = coroutines; rows = coroutines + scopes }

abbrev pub shape_of : JobNumbers → Shape
shape_of numbers = shape_with numbers.coroutines numbers.scopes

-- so many, if there is a root, and not more than 16,000 rows
abbrev pub numbers_with : Option ℕ → Option ℕ → Option Shape
numbers_with None scopes = None
numbers_with (Some coroutines) None = None
numbers_with (Some coroutines) (Some scopes) =
    if coroutines == 0 then None
    else if nat_le (coroutines + scopes) 16000 then Some (shape_with coroutines scopes)
    else None

-- these words say what the two numbers are
abbrev pub name_numbers : List ℕ → List ℕ → Bool
name_numbers first second = bytes_eq first (codes "coroutines") && bytes_eq second (codes "scopes")

-- `coroutines N scopes M`, or nothing: the root alone
abbrev pub numbers_by : List (List ℕ) → Option Shape
numbers_by [] = Some (shape_with 1 0)
numbers_by (first ∷ (coroutines ∷ (second ∷ (scopes ∷ [])))) =
    if bytes_eq first (codes "coroutines") then
    (if bytes_eq second (codes "scopes") then numbers_with (tag_at coroutines) (tag_at scopes) else None)
    else None
numbers_by other = None

-- the words of the line before a history: `history`, and then the numbers
abbrev pub shape_by : List (List ℕ) → Option Shape
shape_by [] = None
shape_by (mark ∷ words) = if bytes_eq mark (codes "history") then numbers_by words else None
