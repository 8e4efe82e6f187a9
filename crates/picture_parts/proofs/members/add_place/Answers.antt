use Rattle.std.proofs.Common.{codes, ◌++◌, ap, sym, arith}
use Rattle.std.specs.Fmt.{decimal}
use Rattle.std.proofs.lemmas.Fmt.{decimal_digit}
use Rattle.gathered.proofs.Adding.{adds, adds_same}
use Rattle.picture_parts.specs.Members.{field_text, quoted}
use Rattle.picture_parts.proofs.Fields.{beginning}
use Rattle.picture_parts.proofs.members.add_place.Goals as goal

pub returns : goal.returns
returns c =
    let one = ap (λ d. codes "," ++ (codes "\"pid\":" ++ d ++ codes ",") ++ codes "\"tid\":") (sym (decimal_digit 1 (omega arith))) in
    adds_same (beginning (codes "{") (codes "\"name\":") (quoted c.args.name.now) (codes ",") (codes "\"cat\":")
    (quoted c.args.category.now)
    (field_text (codes "pid") (decimal 1)) (codes "\"tid\":") (decimal c.args.track))
    (adds (adds (adds (adds (adds (adds c.add.ensures.added c.add_quoted.ensures) c.add-2.ensures.added) c.add_quoted-2.ensures)
    (adds_same one c.add-3.ensures.added)) c.add_number.ensures.added) c.add-4.ensures.added)
