-- Names and their places.
use Rattle.std.specs.Prelude.{◌≡◌, ℕ, List, String}
use Rattle.std.specs.Global.{Global}
use Rattle.std.specs.BTreeMap.{BTreeMap, get_by_text}
use Rattle.script_grammar.specs.Places.{place_from}

-- the map has each of these names at its place, and no other name
abbrev pub IsIndexOf : BTreeMap (String Global) ℕ → List (List ℕ) → Type 0
IsIndexOf index names = (name : List ℕ) → get_by_text index name ≡ place_from 0 name names
