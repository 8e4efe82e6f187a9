use Rattle.parcel_channel.proofs.NobodyHolds.{meet_idle}
use Rattle.parcel_channel.proofs.SeatsEnd.{meet_answer}
use Rattle.parcel_channel.proofs.hub.ParcelHub.meet.Goals as goal

pub invariant_of-a-clause-idle : goal.invariant_of-a-clause-idle
invariant_of-a-clause-idle g c =
    let met = c.meet_with.ensures.met in
    let other = c.args.b.now.seat.me.0 in
    meet_idle c.args.self.now.table.shared.key met.0 other.key c.args.a.now.seat.me.0 other.seen c.meet_with.new.seat.me.0 c.args.a.now.idle
    met.1

pub returns-clause-values : goal.returns-clause-values
returns-clause-values g c =
    let met = c.meet_with.ensures.met in
    let other = c.args.b.now.seat.me.0 in
    meet_answer c.args.self.now.table.shared.key met.0 other.key c.args.a.now.seat.me.0 other c.meet_with.new.seat.me.0 met.1
