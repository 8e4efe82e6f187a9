use Rattle.std.proofs.Common.{ap}
use Rattle.gates.proofs.NewGates.{nothing_yet, first_fits_at, first_laws}
use Rattle.gates.proofs.gate.Gate.new.Goals as goal

pub new_history-requires-clause-legal : goal.new_history-requires-clause-legal
new_history-requires-clause-legal c = nothing_yet c.args.permits

pub new_history-requires-clause-fit : goal.new_history-requires-clause-fit
new_history-requires-clause-fit c i h = first_fits_at c.args.permits c.first_words-words.result i c.first_words-words.ensures.first

pub invariant_of-result-2 : goal.invariant_of-result-2
invariant_of-result-2 c =
    let p = first_laws c.args.permits c.in_ok-table.seat.me.0 (ap (λ x. x.0) c.in_ok-table.ensures.seat.1) in
    record { numbered = p.numbered; ungiven = p.ungiven; legal = p.legal; claimed = p.counted.claimed; calm = p.counted.calm }
