use Rattle.gathered.proofs.Adding.{adds}
use Rattle.report_picture.proofs.diagram.add_line.Goals as goal

pub returns : goal.returns
returns c =
    let head = rw c.tag_of.ensures at c.add_head.ensures in
    adds (adds head c.add.ensures.added) c.add-2.ensures.added
