use Rattle.report_picture.proofs.DiagramTexts.{all_diagrams}
use Rattle.report_picture.proofs.diagram.mermaid.Goals as goal

pub returns : goal.returns
returns c =
    all_diagrams c.diagram_text.result c.args.picture.now c.in_ok-lines.lines.items c.as_slice.result.now c.as_slice.ensures.value
    c.in_ok-lines.ensures.once c.in_ok-lines.ensures.downwards c.diagram_text.ensures
