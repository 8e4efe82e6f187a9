-- What a command line is made of, and the matches that words have by it, as clap defines them.
use Rattle.std.specs.Prelude.{ℕ, List, [], ◌∷◌, Option, Some, None}
use Rattle.clap.specs.Words.{App, Kinds, Row, Rule, fault_of, matches_of, new_rule}
use Rattle.clap.specs.declared.builder.action.ArgAction.TheVariants.{SetTrue}

-- an option of this name, with a value
abbrev pub option : List ℕ → Rule
option name = record (new_rule name) { long = Some name }

-- an option of this name, without a value
abbrev pub switch : List ℕ → Rule
switch name = record (option name) { action = Some SetTrue }

-- the matches, where nothing is at fault
abbrev pub unless_faulty : Kinds → List Row → Option (List Row)
unless_faulty [] rows = Some rows
unless_faulty (fault ∷ faults) rows = None

-- the matches that the words have by the definition of a command line, if they have any
abbrev pub matches_by : App → List (List ℕ) → Option (List Row)
matches_by line words = unless_faulty (fault_of line words) (matches_of line words)
