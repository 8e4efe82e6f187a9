use Rattle.std.proofs.Common.{◌++◌, ap, sym}
use Rattle.gathered.proofs.Adding.{adds_same}
use Rattle.picture_parts.proofs.Plain.{decimal_is_plain}
use Rattle.picture_parts.proofs.markup.add_step.Goals as goal

pub returns : goal.returns
returns c =
    adds_same (ap (λ d. c.args.letter.now ++ d) (sym (decimal_is_plain c.args.n c.ranges.n.fits))) c.add_numbered.ensures
