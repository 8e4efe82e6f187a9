-- Which lines are drawn in a picture, and where.
use Rattle.std.specs.Prelude.{◌≡◌, ◌<◌, ◌+◌, ℕ, List, [], ◌∷◌, ◌++◌, length, map, Bool, true, false, ◌==◌, ◌&&◌, ◌||◌, not, nat_le, nat_lt, Option, Some, None, if◌then◌else◌}
use Rattle.std.specs.Option.{is_some}
use Rattle.report_reader.specs.declared.line.Said.{Said}
use Rattle.report_reader.specs.declared.line.Said.TheVariants.{Note, Job, Element}
use Rattle.report_reader.specs.Reports.{Line as Told}
use Rattle.report_reader.specs.Reading.{told}
use Rattle.report_picture.specs.declared.columns.Wanted.{Wanted}
use Rattle.report_picture.specs.declared.picture.Column.{Column}
use Rattle.report_picture.specs.declared.picture.Drawn.{Drawn}
use Rattle.picture_parts.specs.LineWords.{is_bookkeeping}
pub use Rattle.picture_parts.specs.Places.{column_of, is_among}

-- ---- the columns

-- the tag is asked for, is not there, and fits: a picture has at most 64 columns
abbrev pub is_new : Wanted → List ℕ → ℕ → Bool
is_new wanted tags tag =
    nat_le wanted.first tag && (nat_le tag wanted.last && (nat_lt (length tags) 64 && not (is_among tag tags)))

-- the tags with that of a line's book, if it is new
abbrev pub with_tag : Wanted → List ℕ → Said → List ℕ
with_tag wanted tags (Note tag) = if is_new wanted tags tag then tags ++ tag ∷ [] else tags
with_tag wanted tags (Job row) = tags
with_tag wanted tags Element = tags

abbrev pub tags_from : Wanted → List ℕ → List Told → List ℕ
tags_from wanted tags [] = tags
tags_from wanted tags (line ∷ lines) = tags_from wanted (with_tag wanted tags line.0) lines

-- the coroutines that have a column: those asked for that have a line in their books, the first 64 of them
abbrev pub tags_of : Wanted → List Told → List ℕ
tags_of wanted lines = tags_from wanted [] lines

-- the coroutine is not asked for, or has a column
abbrev pub has_column : Wanted → List ℕ → Said → Bool
has_column wanted tags (Note tag) = not (nat_le wanted.first tag && nat_le tag wanted.last) || is_among tag tags
has_column wanted tags (Job row) = true
has_column wanted tags Element = true

-- each coroutine that is asked for and has a line has a column
abbrev pub all_have_columns : Wanted → List ℕ → List Told → Bool
all_have_columns wanted tags [] = true
all_have_columns wanted tags (line ∷ lines) = has_column wanted tags line.0 && all_have_columns wanted tags lines

-- the columns stand beside one another, to the right of this edge: the bar of each to the right of where the texts of the one before
-- begin, and its own texts to the right of its bar
abbrev pub StandBeside : ℕ → List Column → Type 0
StandBeside edge [] = Unit {0}
StandBeside edge (column ∷ columns) = ((edge < column.left) × (column.left < column.text)) × StandBeside column.text columns

-- where the texts of the last column begin, which are the furthest right
abbrev pub last_text : ℕ → List Column → ℕ
last_text edge [] = edge
last_text edge (column ∷ columns) = last_text column.text columns

-- ---- the lines

-- the line stands in the book of one of these coroutines
abbrev pub is_of : List ℕ → Told → Bool
is_of tags line = is_some (column_of tags line.0)

-- the line is left out
abbrev pub is_left_out : Wanted → List ℕ → Bool
is_left_out wanted line = wanted.only_channels && is_bookkeeping line

-- the line is drawn: it is not left out, and its coroutine has a column
abbrev pub is_drawn : Wanted → List ℕ → Told → Bool
is_drawn wanted tags line = not (is_left_out wanted line.1) && is_of tags line

-- the row is between those asked for, which are counted from 1; the last number there is asks for all from the first on
abbrev pub is_within : Wanted → Drawn → Bool
is_within wanted drawn = nat_le wanted.from (drawn.row + 1) && (nat_lt drawn.row wanted.to || wanted.to == 4294967295)

-- the line tells what became of an element
abbrev pub is_element : Told → Bool
is_element (Note tag, line) = false
is_element (Job row, line) = false
is_element (Element, line) = true

-- the other coroutine that a line concerns, if it names one, has a column
abbrev pub is_target : List ℕ → Option ℕ → Bool
is_target tags None = true
is_target tags (Some tag) = is_among tag tags

-- each line stands in the column of its coroutine
abbrev pub StandInColumns : List ℕ → List Drawn → Type 0
StandInColumns tags [] = Unit {0}
StandInColumns tags (d ∷ ds) =
    ((column_of tags d.line.said ≡ Some d.column) × (is_target tags d.target ≡ true)) × StandInColumns tags ds

-- a line that comes next stands below, if it has the same column; the lines of a book stand together in a report
abbrev pub StandsBelow : ℕ → ℕ → List Drawn → Type 0
StandsBelow column row [] = Unit {0}
StandsBelow column row (d ∷ ds) = d.column ≡ column → row < d.row

-- the lines of each column stand below each other in the order of its book
abbrev pub StandInOrder : List Drawn → Type 0
StandInOrder [] = Unit {0}
StandInOrder (d ∷ ds) = StandsBelow d.column d.row ds × StandInOrder ds

-- the last of the lines stands above this row, if it has this column
abbrev pub EndsAbove : ℕ → ℕ → List Drawn → Type 0
EndsAbove column row [] = Unit {0}
EndsAbove column row (d ∷ []) = d.column ≡ column → d.row < row
EndsAbove column row (d ∷ (e ∷ ds)) = EndsAbove column row (e ∷ ds)

-- the lines that are drawn
abbrev pub lines_in : List Drawn → List Told
lines_in drawn = map (λ d. told d.line) drawn
