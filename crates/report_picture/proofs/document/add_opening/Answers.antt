use Rattle.std.proofs.Common.{[], ap, codes}
use Rattle.gathered.proofs.Adding.{adds, adds_nothing, adds_same, adds_then}
use Rattle.report_picture.specs.Elements.{rest_text}
use Rattle.report_picture.proofs.document.add_opening.Goals as goal

pub returns : goal.returns
returns c =
    let styled = adds_same (ap (rest_text (codes "style") []) c.style.ensures) c.add_rest.ensures in
    adds_then (codes ">\n") _
    (adds c.add.ensures.added (adds c.add_number.ensures (adds c.add_number-2.ensures adds_nothing)))
    (adds c.add-2.ensures.added styled)
