use Rattle.std.proofs.Common.{ap, map}
use Rattle.gathered.proofs.Adding.{adds, adds_same, whole_text}
use Rattle.report_picture.specs.Diagrams.{columns_text, lines_text}
use Rattle.report_picture.proofs.diagram.diagram_text.Goals as goal

pub returns : goal.returns
returns c =
    let names = map (λ n. n.items) c.args.picture.now.names.now in
    whole_text c.whole.result c.new-text.ensures.bytes
    (adds (adds c.add.ensures.added (adds_same (ap (columns_text names) c.as_slice-columns.ensures.value) c.add_columns.ensures))
    (adds_same (ap (λ l. lines_text l c.args.lines.now) c.as_slice-columns.ensures.value) c.add_lines.ensures))
    c.whole.ensures.bytes c.whole.ensures.whole
