use Rattle.std.proofs.Common.{ap, codes, sym}
use Rattle.gathered.proofs.Adding.{adds, adds_nothing, adds_same}
use Rattle.report_picture.specs.Elements.{attribute_text, mark_node, node_text}
use Rattle.report_picture.proofs.document.add_mark.Goals as goal

pub returns-in-Box : goal.returns-in-Box
returns-in-Box c =
    let look = adds_same (ap (attribute_text (codes "class")) c.word.ensures) c.add_attribute.ensures in
    adds_same (ap (λ m. node_text (mark_node m)) (sym c.in-Box.is))
    (adds (adds c.add.ensures.added (adds c.add_number.ensures (adds c.add_number-in-Box.ensures
    (adds c.add_number-in-Box-2.ensures (adds c.add_number-in-Box-3.ensures (adds look adds_nothing)))))) c.add_rest.ensures)

pub returns-in-Path : goal.returns-in-Path
returns-in-Path c =
    let look = adds_same (ap (attribute_text (codes "class")) c.word-in-Path.ensures) c.add_attribute-in-Path.ensures in
    adds_same (ap (λ m. node_text (mark_node m)) (sym c.in-Path.is))
    (adds (adds (adds (adds c.add-in-Path.ensures.added c.add_way.ensures) c.add-in-Path-2.ensures.added) (adds look adds_nothing))
    c.add_rest-in-Path.ensures)
