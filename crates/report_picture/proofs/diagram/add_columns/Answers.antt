use Rattle.std.proofs.Common.{map, refl}
use Rattle.report_picture.specs.Diagrams.{column_text, columns_text}
use Rattle.report_picture.proofs.Rests.{text_added}
use Rattle.report_picture.proofs.diagram.add_columns.Goals as goal

pub loop-rest-preserved : goal.loop-rest-preserved
loop-rest-preserved c =
    let names = map (λ n. n.items) c.args.names.now in
    text_added (columns_text names) (column_text names) c.loop-rest.rest.now _ (λ x xs. refl)
    c.in-len1-up.len_at_least c.loop-rest.invariant c.add_column.ensures
