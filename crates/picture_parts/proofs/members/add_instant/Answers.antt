use Rattle.std.proofs.Common.{codes}
use Rattle.std.specs.Fmt.{decimal}
use Rattle.gathered.proofs.Adding.{adds, adds_same}
use Rattle.picture_parts.proofs.Fields.{one_number}
use Rattle.picture_parts.proofs.members.add_instant.Goals as goal

pub returns : goal.returns
returns c =
    adds_same (one_number (codes "\"ph\":\"i\",\"s\":\"t\",") (codes "\"ts\":") (decimal c.args.at) (codes ","))
    (adds (adds c.add.ensures.added c.add_number.ensures.added) c.add-2.ensures.added)
