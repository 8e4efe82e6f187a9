-- The parts of an input.
use Rattle.std.specs.Prelude.{◌≡◌, ℕ, List, ◌∷◌, ◌++◌}
use lib.Chars.{codes}
use Rattle.log_check.specs.declared.parts.Subject.{Subject}
use Rattle.log_check.specs.declared.parts.Subject.TheVariants as subject

-- the line that says what is judged
abbrev pub word_of : Subject → List ℕ
word_of subject.Log = codes "log"
word_of subject.Report = codes "report"

-- the bytes are a script, a line with this word, and the text that is judged
abbrev pub AreParts : List ℕ → List ℕ → List ℕ → List ℕ → Type 0
AreParts word script text bytes = bytes ≡ script ++ (word ++ 10 ∷ text)
