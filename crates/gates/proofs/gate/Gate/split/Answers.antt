use Rattle.std.proofs.Common.{ap}
use Rattle.gates.proofs.NewGates.{split_laws_at}
use Rattle.gates.proofs.gate.Gate.split.Goals as goal

pub invariant_of-result : goal.invariant_of-result
invariant_of-result c =
    let p = split_laws_at c.args.pass.now.splits c.args.pass.now.seat.me.0 c.split-seat.result.me.0 c.args.pass.now.legal
    c.split-seat.ensures.none (ap (λ x. x.0) c.split-seat.ensures.new.1) in
    record { numbered = p.numbered; ungiven = p.ungiven; legal = p.legal; claimed = p.counted.claimed; calm = p.counted.calm }
