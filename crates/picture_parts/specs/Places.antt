-- The columns of lines, and their rows.
use Rattle.std.specs.Prelude.{ℕ, ◌+◌, List, [], ◌∷◌, Bool, true, false, ◌==◌, Option, Some, None, if◌then◌else◌}
use Rattle.report_reader.specs.declared.line.Said.{Said}
use Rattle.report_reader.specs.declared.line.Said.TheVariants.{Note, Job, Element}

-- it is one of these
abbrev pub is_among : ℕ → List ℕ → Bool
is_among tag [] = false
is_among tag (other ∷ tags) = if other == tag then true else is_among tag tags

-- the place of a tag among these, the first of which has the number i
abbrev pub place_from : ℕ → ℕ → List ℕ → Option ℕ
place_from i tag [] = None
place_from i tag (other ∷ tags) = if other == tag then Some i else place_from (i + 1) tag tags

-- the column of a line: the place of its coroutine among those that have a column
abbrev pub column_of : List ℕ → Said → Option ℕ
column_of tags (Note tag) = place_from 0 tag tags
column_of tags (Job row) = None
column_of tags Element = None
