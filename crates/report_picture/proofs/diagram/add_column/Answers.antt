use Rattle.std.proofs.Common.{codes, ◌++◌}
use Rattle.std.specs.Fmt.{decimal}
use Rattle.gathered.proofs.Adding.{adds, adds_same, adds_then}
use Rattle.report_picture.proofs.diagram.add_column.Goals as goal

pub returns : goal.returns
returns c =
    let tag = decimal c.args.column.now.tag in
    let named = adds (adds_same c.name_of.ensures c.add-2.ensures.added) c.add_numbered-2.ensures in
    adds (adds_then (codes ", Job ") tag (adds (adds c.add_numbered.ensures c.add.ensures.added) named) c.add_numbered-3.ensures)
    c.add-3.ensures.added
