use Rattle.gates.proofs.PassesTell.{end_answer, laws_ended}
use Rattle.std.proofs.Common.{sym, ◌∙◌}
use Rattle.gates.proofs.gate.Gate.end.Goals as goal

pub invariant_of-main : goal.invariant_of-main
invariant_of-main c =
    let f = c.args.self.now in
    let m = c.args.main.now in
    let p = laws_ended f.table.shared.key m.number m.splits m.held m.waits m.seat.me.0 c.args.pass.seat.me.0 c.end.new.main.me.0
    (c.requires.main.1 ∙ sym f.sized.1) m.numbered m.ungiven (record { claimed = m.claimed; calm = m.calm }) c.end.ensures.took in
    record { numbered = p.numbered; ungiven = p.ungiven; legal = p.legal; claimed = p.counted.claimed; calm = p.counted.calm }

pub returns-clause-ended : goal.returns-clause-ended
returns-clause-ended c =
    end_answer c.args.self.now.table.shared.key c.args.main.now.seat.me.0 c.args.pass.seat.me.0 c.end.new.main.me.0 c.end.ensures.took
