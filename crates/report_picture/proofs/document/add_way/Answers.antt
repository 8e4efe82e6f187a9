use Rattle.std.proofs.Common.{◌++◌, ap, codes, refl, sym}
use Rattle.std.specs.Fmt.{decimal}
use Rattle.gathered.proofs.Adding.{adds_same}
use Rattle.picture_parts.proofs.Plain.{adds_escaped, adds_step}
use Rattle.report_picture.specs.Elements.{escaped, way_text}
use Rattle.report_picture.proofs.document.add_way.Goals as goal

pub returns-in-Down : goal.returns-in-Down
returns-in-Down c =
    let begins = codes "M" ++ decimal c.in-Down.x in
    adds_same (ap (λ w. escaped (way_text w)) (sym c.in-Down.is))
    (adds_step (begins ++ codes " " ++ decimal c.in-Down.from) (codes "V") (decimal c.in-Down.to) refl
    (adds_step begins (codes " ") (decimal c.in-Down.from) refl c.add_step.ensures c.add_step-in-Down.ensures) c.add_step-in-Down-2.ensures)

pub returns-in-Bent : goal.returns-in-Bent
returns-in-Bent c =
    let begins = codes "M" ++ decimal c.in-Bent.x in
    let below = begins ++ codes " " ++ decimal c.in-Bent.level in
    let across = below ++ codes "H" ++ decimal c.in-Bent.lane in
    let down = across ++ codes "V" ++ decimal c.in-Bent.to_y in
    adds_same (ap (λ w. escaped (way_text w)) (sym c.in-Bent.is))
    (adds_escaped (down ++ codes "H" ++ decimal c.in-Bent.to_x) (codes "l-6-3m6 3l-6 3")
    (adds_step down (codes "H") (decimal c.in-Bent.to_x) refl
    (adds_step across (codes "V") (decimal c.in-Bent.to_y) refl
    (adds_step below (codes "H") (decimal c.in-Bent.lane) refl
    (adds_step begins (codes " ") (decimal c.in-Bent.level) refl c.add_step-in-Bent.ensures c.add_step-in-Bent-2.ensures)
    c.add_step-in-Bent-3.ensures) c.add_step-in-Bent-4.ensures) c.add_step-in-Bent-5.ensures)
    c.add.ensures.added)

pub returns-in-Cross : goal.returns-in-Cross
returns-in-Cross c =
    let begins = codes "M" ++ decimal c.in-Cross.x in
    adds_same (ap (λ w. escaped (way_text w)) (sym c.in-Cross.is))
    (adds_escaped (begins ++ codes " " ++ decimal c.in-Cross.y) (codes "m-4-4l8 8m-8 0l8-8")
    (adds_step begins (codes " ") (decimal c.in-Cross.y) refl c.add_step-in-Cross.ensures c.add_step-in-Cross-2.ensures)
    c.add-in-Cross.ensures.added)
