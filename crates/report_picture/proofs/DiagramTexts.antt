-- The text of columns and lines is a diagram of a picture.
use Rattle.std.proofs.Common.{◌≡◌, ◌∙◌, ℕ, List, ◌++◌, ap, map, Result, Ok, Err, IfOk, Vec, Global}
use Rattle.std.specs.List.Sorted.{IsPermutation, IsNonDecreasingBy}
use Rattle.std.specs.declared.alloc.AllocError.{AllocError}
use lib.Chars.{codes}
use Rattle.report_picture.specs.declared.picture.Drawn.{Drawn}
use Rattle.report_picture.specs.declared.picture.Picture.{Picture}
use Rattle.report_picture.specs.Diagrams.{IsDiagramOf, columns_text, lines_text}

-- a text of the columns of a picture and of its lines, if memory held it
pub all_diagrams : (result : Result (Vec ℕ Global) AllocError) (picture : Picture) (lines written : List Drawn) → written ≡ lines
    → IsPermutation picture.lines.items lines → IsNonDecreasingBy (λ d. d.row) lines
    → IfOk result (λ text. text.items ≡ codes "sequenceDiagram\n"
    ++ columns_text (map (λ n. n.items) picture.names.now) picture.columns.items ++ lines_text picture.columns.items written)
    → IfOk result (λ text. IsDiagramOf picture text.items)
all_diagrams (Ok text) picture lines written are once downwards is = record {
  lines = lines;
  once = once;
  downwards = downwards;
  is_text = is ∙ ap (λ l. codes "sequenceDiagram\n" ++ columns_text (map (λ n. n.items) picture.names.now) picture.columns.items
      ++ lines_text picture.columns.items l) are;
}
all_diagrams (Err e) picture lines written are once downwards is = tt
