use Rattle.std.proofs.Common.{get_or, ◌∙◌, ap, arith}
use Rattle.std.proofs.lemmas.List.{get_or-replicate}
use Rattle.counted_cells.proofs.NewCells.{nothing_yet, first_fits, first_laws}
use Rattle.counted_cells.proofs.counted.Counted.new.Goals as goal

pub new_history-requires-clause-legal : goal.new_history-requires-clause-legal
new_history-requires-clause-legal c = nothing_yet c.args.cells

pub new_history-requires-clause-fit : goal.new_history-requires-clause-fit
new_history-requires-clause-fit c i h =
    first_fits c.as_slice.result.now i (ap (λ l. get_or l i 0) (c.as_slice.ensures.value
    ∙ c.in_ok-words.ensures.items_if_clones_equal (λ y e. e)) ∙ get_or-replicate _ i 0 0 (omega arith))

pub invariant_of-result-2 : goal.invariant_of-result-2
invariant_of-result-2 c =
    let p = first_laws c.args.cells c.in_ok-table.seat.me.0 (ap (λ x. x.0) c.in_ok-table.ensures.seat.1) in
    record { numbered = p.numbered; small = omega arith; ungiven = p.ungiven; legal = p.legal }
