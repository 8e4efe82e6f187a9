use Rattle.std.proofs.Common.{◌∙◌, sym}
use Rattle.ring_channel.proofs.NobodyHolds.{meet_idle_by}
use Rattle.ring_channel.proofs.SeatsEnd.{meet_answer}
use Rattle.ring_channel.proofs.ring.Ring.meet.Goals as goal

pub invariant_of-a-clause-idle : goal.invariant_of-a-clause-idle
invariant_of-a-clause-idle g c =
    let met = c.meet_with.ensures.met in
    let other = c.args.b.now.seat.me.0 in
    meet_idle_by c.args.self.now.table.shared.key met.0 other.key c.args.a.now.seat.me.0 other.seen c.meet_with.new.seat.me.0
    (c.requires.a.1 ∙ sym c.args.self.now.many) c.args.a.now.idle met.1

pub returns-clause-met : goal.returns-clause-met
returns-clause-met g c =
    let met = c.meet_with.ensures.met in
    let other = c.args.b.now.seat.me.0 in
    meet_answer c.args.self.now.table.shared.key met.0 other.key c.args.a.now.seat.me.0 other c.meet_with.new.seat.me.0 met.1
