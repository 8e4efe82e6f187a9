-- Which words are accepted.
use Rattle.std.specs.Prelude.{ℕ, List, Bool}
use Rattle.std.specs.Option.{is_some}
use lib.Chars.{codes}
use Rattle.clap.specs.Words.{App, new_app}
use Rattle.program_input.specs.Words.{matches_by}

-- explain_run, with no further word
abbrev pub explain_line : App
explain_line = new_app (codes "explain_run")

-- the words are those of a call, of which the first is the program's name
abbrev pub are_asked : List (List ℕ) → Bool
are_asked words = is_some (matches_by explain_line words)
