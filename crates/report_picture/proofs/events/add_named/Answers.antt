use Rattle.std.proofs.Common.{codes, ◌++◌, ap, ◌∙◌, []}
use Rattle.std.specs.Fmt.{decimal}
use Rattle.gathered.proofs.Adding.{adds, adds_same}
use Rattle.picture_parts.proofs.PlainJson.{plain_heading}
use Rattle.picture_parts.specs.Members.{escaped}
use Rattle.report_picture.proofs.Fields.{naming_begins, naming_beginning, naming_event}
use Rattle.report_picture.proofs.events.add_named.Goals as goal

pub returns : goal.returns
returns c =
    let t = decimal c.args.track in
    let w = codes " " ++ decimal c.args.number in
    let begins = ap (λ a. a ++ codes "\"tid\":" ++ t) naming_begins in
    let event =
    naming_event (naming_beginning (decimal 1)) (codes "\"tid\":") t (codes ",") (codes "\"ph\":\"M\",") (codes "\"args\":{\"name\":")
    (codes "\"") (escaped c.args.name.now) w (codes "}") (codes ",\n") in
    let named = ap (λ v. naming_beginning (decimal 1) ++ (codes "\"tid\":" ++ t ++ codes ",") ++ codes "\"ph\":\"M\","
    ++ (codes "\"args\":{\"name\":" ++ (codes "\"" ++ v ++ codes "\"") ++ [] ++ codes "}") ++ codes "}" ++ codes ",\n")
    (plain_heading c.args.name.now c.args.number c.ranges.number.fits) in
    adds_same (event ∙ named)
    (adds (adds (adds (adds (adds_same begins c.add_numbered.ensures) c.add.ensures.added) c.add_json_escaped.ensures)
    c.add_numbered-2.ensures) c.add-2.ensures.added)
