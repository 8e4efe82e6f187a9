use Rattle.std.proofs.Common.{map, refl}
use Rattle.report_picture.specs.Elements.{line_node, node_text, nodes_text}
use Rattle.report_picture.proofs.Rests.{text_added}
use Rattle.report_picture.proofs.document.add_lines.Goals as goal

pub loop-rest-preserved : goal.loop-rest-preserved
loop-rest-preserved c =
    let node = line_node c.args.picture.now in
    text_added (λ l. nodes_text (map node l)) (λ d. node_text (node d)) c.loop-rest.rest.now _ (λ x xs. refl)
    c.in-len1-up.len_at_least c.loop-rest.invariant c.add_line.ensures
