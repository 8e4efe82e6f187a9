use Rattle.std.proofs.Common.{slice_index_or, sym, ap, ◌∙◌, arith}
use Rattle.run_report.proofs.Answered.{both_on_ok}
use Rattle.run_report.proofs.Rows.{value_in-set, row_read}
use Rattle.run_report.proofs.table.Table.set.Goals as goal

pub returns-clause-value : goal.returns-clause-value
returns-clause-value g c =
    let rows = c.args.self.now.rows.items in
    let grown = c.grow_rows.new.rows.items in
    let plain = c.args.self.now.plain in
    let grew = c.in_ok-grow_rows.ensures in
    let old_row = sym (row_read grown c.args.c c.index_mut.result.now (omega (arith, grew.reaches)) c.index_mut.ensures.value)
    ∙ c.grow_rows.ensures.stays c.args.c in
    both_on_ok c.set_in_row.result
    (λ there others. value_in-set rows grown c.args.c c.args.place c.set_in_row.new.row plain c.args.value (omega (arith, grew.reaches))
    c.grow_rows.ensures.stays there
    (λ q h. others q h ∙ ap (λ r. slice_index_or r q plain) old_row))
    c.set_in_row.ensures.there c.set_in_row.ensures.others
