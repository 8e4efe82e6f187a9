use Rattle.std.proofs.Common.{ap, sym, ◌∙◌}
use Rattle.ring_channel.proofs.NobodyHolds.{end_idle_by}
use Rattle.ring_channel.proofs.SeatsEnd.{end_answer}
use Rattle.ring_channel.proofs.ring.Ring.end.Goals as goal

pub invariant_of-main-clause-idle : goal.invariant_of-main-clause-idle
invariant_of-main-clause-idle g c =
    let joined = c.join_to.ensures.joined in
    let many = sym c.args.self.now.many in
    end_idle_by c.args.self.now.table.shared.key joined.0 c.args.main.now.seat.me.0 c.args.pass.seat.me.0 c.join_to.new.main.me.0
    (c.requires.main.1 ∙ many) (c.requires.pass.1 ∙ many) c.args.main.now.idle c.args.pass.idle joined.1

pub returns-clause-ended : goal.returns-clause-ended
returns-clause-ended g c =
    let joined = c.join_to.ensures.joined in
    end_answer c.args.self.now.table.shared.key joined.0 c.args.main.now.seat.me.0 c.args.pass.seat.me.0 c.join_to.new.main.me.0 joined.1

pub returns-clause-first : goal.returns-clause-first
returns-clause-first g c h =
    let joined = c.join_to.ensures.joined in
    let ended = end_answer c.args.self.now.table.shared.key joined.0 c.args.main.now.seat.me.0 c.args.pass.seat.me.0
    c.join_to.new.main.me.0 joined.1 in
    ap (λ x. x.0) ended.giving ∙ h
