use Rattle.std.proofs.Common.{[], ◌++◌, ◌+◌, ◌∙◌, ap, ap₂, codes}
use Rattle.gathered.proofs.Adding.{adds, adds_same}
use Rattle.picture_parts.specs.Names.{with_source}
use Rattle.report_picture.specs.Elements.{attributes_text, left_of, rest_text, row_y, text_node}
use Rattle.report_picture.proofs.document.add_line.Goals as goal

pub returns : goal.returns
returns c =
    let drawn = c.args.drawn.now in
    let x = c.left_of-x.ensures ∙ ap (λ l. left_of l drawn.column) c.as_slice.ensures.value in
    let y = ap (λ n. n + 4) (c.row_y-y.ensures ∙ ap (row_y c.args.picture.now.top) c.saturating_sub.ensures) in
    adds
    (adds_same (ap₂ (λ x y. codes "<text" ++ attributes_text (text_node x y (codes "line") [] []).attributes) x y) c.add_text_at.ensures)
    (adds_same (ap (rest_text (codes "text") (with_source drawn.line.text.now drawn.source.now)) c.label_of.ensures) c.add_rest.ensures)
