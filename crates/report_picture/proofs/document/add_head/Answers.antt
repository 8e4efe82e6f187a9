use Rattle.gathered.proofs.Adding.{adds, adds_same}
use Rattle.picture_parts.proofs.Plain.{plain_heading}
use Rattle.report_picture.proofs.Documents.{adds_text}
use Rattle.report_picture.proofs.document.add_head.Goals as goal

pub returns : goal.returns
returns c =
    let name = adds c.add_escaped.ensures c.add_numbered.ensures in
    adds_text c.add_text_at.ensures c.add.ensures.added
    (adds_same (plain_heading c.args.name.now c.args.number c.ranges.number.fits) name) c.add-2.ensures.added
