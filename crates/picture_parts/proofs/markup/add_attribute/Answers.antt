use Rattle.gathered.proofs.Adding.{adds}
use Rattle.picture_parts.proofs.markup.add_attribute.Goals as goal

pub returns : goal.returns
returns c = adds (adds (adds (adds c.add.ensures.added c.add-2.ensures.added) c.add-3.ensures.added) c.add_escaped.ensures)
    c.add-4.ensures.added
