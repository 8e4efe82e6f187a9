use Rattle.gathered.proofs.Adding.{adds, adds_same, whole_text}
use Rattle.picture_parts.proofs.names.heading.Goals as goal

pub returns : goal.returns
returns c =
    whole_text c.whole.result c.new-text.ensures.bytes
    (adds (adds_same c.name_of.ensures c.add.ensures.added) (adds c.add-2.ensures.added c.add_number.ensures.added))
    c.whole.ensures.bytes c.whole.ensures.whole
