use Rattle.gathered.proofs.Adding.{adds}
use Rattle.picture_parts.proofs.members.add_quoted.Goals as goal

pub returns : goal.returns
returns c = adds (adds c.add.ensures.added c.add_json_escaped.ensures) c.add-2.ensures.added
