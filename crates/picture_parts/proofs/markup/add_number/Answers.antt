use Rattle.std.proofs.Common.{codes, sym}
use Rattle.std.specs.Fmt.{decimal}
use Rattle.gathered.proofs.Adding.{adds, adds_same}
use Rattle.picture_parts.proofs.Plain.{decimal_is_plain}
use Rattle.picture_parts.proofs.markup.add_number.Goals as goal

pub returns : goal.returns
returns c =
    adds (adds (adds (adds c.add.ensures.added c.add-2.ensures.added) c.add-3.ensures.added)
    (adds_same (sym (decimal_is_plain c.args.n c.ranges.n.fits)) c.add_number.ensures.added)) c.add-4.ensures.added
