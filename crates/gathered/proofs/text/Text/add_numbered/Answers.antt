use Rattle.gathered.proofs.Adding.{adds}
use Rattle.gathered.proofs.text.Text.add_numbered.Goals as goal

pub returns : goal.returns
returns c = adds c.add.ensures.added c.add_number.ensures.added
