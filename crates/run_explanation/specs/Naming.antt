-- What a script says of its coroutines, beside the lines of a report of it.
use Rattle.std.specs.Prelude.{◌≡◌, ℕ, zero, suc, List, [], ◌∷◌, ◌++◌, map, Result, Ok, Err}
use Rattle.script_grammar.specs.Programs.{Program}
use Rattle.script_grammar.specs.Tags.{coroutine_count}
use Rattle.script_grammar.specs.Grammar.{Spells}
use Rattle.report_reader.specs.Reports.{Line}
use Rattle.report_reader.specs.Reading.{told_lines}
use Rattle.run_explanation.specs.Parts.{script_in, report_in}
use Rattle.run_explanation.specs.Fitting.{lines_for}
use Rattle.run_explanation.specs.Answers.{Refuses, name_of_tag}
use Rattle.run_explanation.specs.declared.answer.Unexplained.{Unexplained}
use Rattle.run_explanation.specs.declared.answer.Unexplained.TheVariants as faults
use Rattle.run_explanation.specs.declared.naming.Named.{Named}

-- the names of the coroutines below this one, in the order of their tags
abbrev pub names_below : Program → ℕ → List (List ℕ)
names_below p zero = []
names_below p (suc tag) = names_below p tag ++ name_of_tag p tag ∷ []

-- the names of all coroutines of a script
abbrev pub names_of : Program → List (List ℕ)
names_of p = names_below p (coroutine_count p)

-- the input is a script and a report of it: these are its lines, and the names of the script's coroutines
pub record AreNamed (input : List ℕ) (lines : List Line) (names : List (List ℕ)) : Type 0 where
  pub program : Program
  pub spelled : Spells (script_in input) program
  pub is_report : lines_for program (report_in input) ≡ Ok lines
  pub are_names : names ≡ names_of program

abbrev pub names_in : Named → List (List ℕ)
names_in named = map (λ n. n.items) named.names.items

-- what comes of an input: lines and names, or why there are none
abbrev pub Names : List ℕ → Result Named Unexplained → Type 0
Names input (Ok named) = AreNamed input (told_lines named.lines.items) (names_in named)
Names input (Err fault) = Refuses input fault

-- the same of a report of this script
abbrev pub NamesFor : Program → List ℕ → Result Named Unexplained → Type 0
NamesFor p report (Ok named) = (lines_for p report ≡ Ok (told_lines named.lines.items)) × (names_in named ≡ names_of p)
NamesFor p report (Err (faults.NoScript fault)) = ⊥
NamesFor p report (Err (faults.NoReport line)) = lines_for p report ≡ Err line
NamesFor p report (Err faults.Memory) = Unit {0}
