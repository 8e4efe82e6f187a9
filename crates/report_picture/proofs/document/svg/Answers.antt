use Rattle.std.proofs.Common.{ap, map}
use Rattle.gathered.proofs.Adding.{adds, adds_same, whole_text}
use Rattle.report_picture.specs.Elements.{fate_nodes, head_nodes, line_node, mark_node, names_in, nodes_text}
use Rattle.report_picture.proofs.Documents.{all_documents, whole}
use Rattle.report_picture.proofs.document.svg.Goals as goal

pub returns : goal.returns
returns c =
    let p = c.args.picture.now in
    let text = whole_text c.whole.result c.new-text.ensures.bytes
    (adds_same (whole p)
    (adds (adds (adds (adds (adds c.add_opening.ensures
    (adds_same (ap (λ l. nodes_text (map mark_node l)) c.as_slice.ensures.value) c.add_marks.ensures))
    (adds_same (ap (λ l. nodes_text (fate_nodes l)) c.as_slice-2.ensures.value) c.add_fates.ensures))
    (adds_same (ap (λ l. nodes_text (head_nodes (names_in p) p.top l)) c.as_slice-columns.ensures.value) c.add_heads.ensures))
    (adds_same (ap (λ l. nodes_text (map (line_node p) l)) c.as_slice-3.ensures.value) c.add_lines.ensures))
    c.add.ensures.added))
    c.whole.ensures.bytes c.whole.ensures.whole in
    record { text = text; well_formed = all_documents c.whole.result p text }
