-- Where the script ends and the report begins.
use Rattle.std.specs.Prelude.{ℕ, ◌+◌, List, [], ◌∷◌, length, take, drop, min, Bool, true, ◌==◌, ◌&&◌, nat_le, Option, Some, None, if◌then◌else◌}
use Rattle.std.specs.Str.{bytes_eq}
use lib.Chars.{codes}

-- the text begins with a line `report`
abbrev pub is_marked : List ℕ → Bool
is_marked text = nat_le 7 (length text) && bytes_eq (take 7 text) (codes "report\n")

-- the place of the first line `report` of a text, which has this place, and of which a line begins here or not
abbrev pub mark_from : ℕ → Bool → List ℕ → Option ℕ
mark_from place begins [] = None
mark_from place begins (b ∷ rest) =
    if begins && is_marked (b ∷ rest) then Some place else mark_from (place + 1) (b == 10) rest

abbrev pub mark_in : List ℕ → Option ℕ
mark_in bytes = mark_from 0 true bytes

abbrev pub before_mark : Option ℕ → List ℕ → List ℕ
before_mark None bytes = bytes
before_mark (Some place) bytes = take (min place (length bytes)) bytes

abbrev pub behind_mark : Option ℕ → List ℕ → List ℕ
behind_mark None bytes = []
behind_mark (Some place) bytes = drop (min (place + 7) (length bytes)) bytes

-- what stands before the first line `report`; all where there is none
abbrev pub script_in : List ℕ → List ℕ
script_in bytes = before_mark (mark_in bytes) bytes

-- what stands behind the first line `report`
abbrev pub report_in : List ℕ → List ℕ
report_in bytes = behind_mark (mark_in bytes) bytes
