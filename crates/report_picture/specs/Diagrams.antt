-- A picture as a text: a sequence diagram of Mermaid.
use Rattle.std.specs.Prelude.{◌≡◌, ℕ, List, [], ◌∷◌, ◌++◌, Option, Some, None, map, slice_get}
use Rattle.std.specs.Fmt.{decimal}
use Rattle.std.specs.List.Sorted.{IsPermutation, IsNonDecreasingBy}
use lib.Chars.{codes}
use Rattle.picture_parts.specs.Names.{heading}
use Rattle.report_picture.specs.declared.picture.Column.{Column}
use Rattle.report_picture.specs.declared.picture.Drawn.{Drawn}
use Rattle.report_picture.specs.declared.picture.Picture.{Picture}

abbrev pub column_text : List (List ℕ) → Column → List ℕ
column_text names column =
    codes "    participant c" ++ decimal column.tag ++ codes " as " ++ heading names column.tag ++ codes ", Job " ++ decimal column.tag
    ++ codes "\n"

abbrev pub columns_text : List (List ℕ) → List Column → List ℕ
columns_text names [] = []
columns_text names (column ∷ columns) = column_text names column ++ columns_text names columns

-- the head of a line: the other coroutine that it concerns, and else that it is a note of its own coroutine
abbrev pub head_text : ℕ → Option ℕ → List ℕ
head_text tag None = codes "    Note over c" ++ decimal tag ++ codes ": "
head_text tag (Some other) = codes "    c" ++ decimal tag ++ codes "->>c" ++ decimal other ++ codes ": "

abbrev pub tag_or : Option Column → ℕ
tag_or None = 0
tag_or (Some column) = column.tag

-- the coroutine of a column
abbrev pub tag_of : List Column → ℕ → ℕ
tag_of columns column = tag_or (slice_get columns column)

abbrev pub line_text : List Column → Drawn → List ℕ
line_text columns drawn = head_text (tag_of columns drawn.column) drawn.target ++ drawn.line.text.now ++ codes "\n"

abbrev pub lines_text : List Column → List Drawn → List ℕ
lines_text columns [] = []
lines_text columns (drawn ∷ lines) = line_text columns drawn ++ lines_text columns lines

-- the text is the diagram: its columns, and each line of the picture once, from the top down
pub record IsDiagramOf (picture : Picture) (text : List ℕ) : Type 0 where
  pub lines : List Drawn
  pub once : IsPermutation picture.lines.items lines
  pub downwards : IsNonDecreasingBy (λ d. d.row) lines
  pub is_text : text ≡ codes "sequenceDiagram\n" ++ columns_text (map (λ n. n.items) picture.names.now) picture.columns.items
      ++ lines_text picture.columns.items lines
