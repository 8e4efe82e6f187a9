use Rattle.std.proofs.Common.{refl}
use Rattle.report_picture.specs.Diagrams.{line_text, lines_text}
use Rattle.report_picture.proofs.Rests.{text_added}
use Rattle.report_picture.proofs.diagram.add_lines.Goals as goal

pub loop-rest-preserved : goal.loop-rest-preserved
loop-rest-preserved c =
    text_added (lines_text c.args.columns.now) (line_text c.args.columns.now) c.loop-rest.rest.now _ (λ x xs. refl)
    c.in-len1-up.len_at_least c.loop-rest.invariant c.add_line.ensures
