use Rattle.gathered.proofs.Adding.{adds, adds_nothing}
use Rattle.report_picture.proofs.document.add_text_at.Goals as goal

pub returns : goal.returns
returns c =
    adds c.add.ensures.added
    (adds c.add_number.ensures (adds c.add_number-2.ensures (adds c.add_attribute.ensures adds_nothing)))
