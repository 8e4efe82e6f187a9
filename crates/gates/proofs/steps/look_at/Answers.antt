use Rattle.std.proofs.Common.{sym, ◌∙◌}
use Rattle.gates.proofs.PassesTell.{laws_loaded, adds_loaded, word_found}
use Rattle.gates.proofs.steps.look_at.Goals as goal

pub invariant_of-pass : goal.invariant_of-pass
invariant_of-pass c =
    let f = c.args.gate.now in
    let q = c.args.pass.now in
    let p = laws_loaded f.table.shared.key q.number q.splits q.held 0 c.load.result q.waits q.seat.me.0 c.load.new.seat.me.0
    (c.requires.of.1 ∙ sym f.sized.1) q.numbered q.ungiven c.requires.of.2 (record { claimed = q.claimed; calm = q.calm })
    c.load.ensures.loaded in
    record { numbered = p.numbered; ungiven = p.ungiven; legal = p.legal; claimed = p.counted.claimed; calm = p.counted.calm }

pub returns-clause-adds : goal.returns-clause-adds
returns-clause-adds c =
    let q = c.args.pass.now in
    adds_loaded c.args.gate.now.table.shared.key q.number 0 c.load.result q.seat.me.0 c.load.new.seat.me.0 q.numbered.1 c.requires.of.2
    c.load.ensures.loaded

pub returns-clause-found : goal.returns-clause-found
returns-clause-found c =
    let f = c.args.gate.now in
    let q = c.args.pass.now in
    word_found f.table.shared.key c.load.result q.seat.me.0 c.load.new.seat.me.0 (c.requires.of.1 ∙ sym f.sized.1) c.load.ensures.loaded
