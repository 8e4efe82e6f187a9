-- What coroutines are called, and what a reader is shown that points at a mark.
use Rattle.std.specs.Prelude.{ℕ, List, [], ◌∷◌, ◌++◌, get_or}
use Rattle.std.specs.Fmt.{decimal}
use lib.Chars.{codes}

-- the name of a coroutine by its tag; one that has none among these is called `coroutine`
abbrev pub name_of : List (List ℕ) → ℕ → List ℕ
name_of names tag = get_or names tag (codes "coroutine")

-- a coroutine: its name, and its tag
abbrev pub heading : List (List ℕ) → ℕ → List ℕ
heading names tag = name_of names tag ++ (codes " " ++ decimal tag)

-- a line of the report, and below it the line of the script that it comes from, if that is known
abbrev pub with_source : List ℕ → List ℕ → List ℕ
with_source line [] = line
with_source line (b ∷ source) = line ++ (codes "\n" ++ (b ∷ source))
