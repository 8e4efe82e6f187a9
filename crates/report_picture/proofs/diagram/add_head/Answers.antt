use Rattle.std.proofs.Common.{ap, codes, sym}
use Rattle.std.specs.Fmt.{decimal}
use Rattle.gathered.proofs.Adding.{adds, adds_same, adds_then}
use Rattle.report_picture.specs.Diagrams.{head_text}
use Rattle.report_picture.proofs.diagram.add_head.Goals as goal

pub returns-in-Some : goal.returns-in-Some
returns-in-Some c =
    adds_same (ap (head_text c.args.tag) (sym c.in-Some.is))
    (adds (adds_then (codes "->>c") (decimal c.in-Some.other) c.add_numbered.ensures c.add_numbered-in-Some.ensures) c.add.ensures.added)

pub returns-in-None : goal.returns-in-None
returns-in-None c =
    adds_same (ap (head_text c.args.tag) (sym c.in-None.is)) (adds c.add_numbered-in-None.ensures c.add-in-None.ensures.added)
