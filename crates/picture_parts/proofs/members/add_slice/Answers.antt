use Rattle.std.proofs.Common.{codes, ◌++◌}
use Rattle.std.specs.Fmt.{decimal}
use Rattle.gathered.proofs.Adding.{adds, adds_same}
use Rattle.picture_parts.proofs.Fields.{two_numbers}
use Rattle.picture_parts.proofs.members.add_slice.Goals as goal

pub returns : goal.returns
returns c =
    adds_same (two_numbers (codes "\"ph\":\"X\",") (codes "\"ts\":") (decimal c.args.from) (codes ",") (codes "\"dur\":")
    (decimal c.args.lasts))
    (adds (adds (adds (adds c.add.ensures.added c.add_number.ensures.added) c.add-2.ensures.added) c.add_number-2.ensures.added)
    c.add-3.ensures.added)
