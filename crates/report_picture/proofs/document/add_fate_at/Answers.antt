use Rattle.gathered.proofs.Adding.{adds}
use Rattle.report_picture.proofs.Documents.{adds_text}
use Rattle.report_picture.proofs.document.add_fate_at.Goals as goal

pub returns : goal.returns
returns c = adds_text c.add_text_at.ensures (adds c.add.ensures.added c.add_title.ensures) c.add_fate_label.ensures c.add-2.ensures.added
