use Rattle.ring_channel.proofs.CalledInTurn.{waits_now, waits_not}
use Rattle.ring_channel.proofs.turns.stand_by.Goals as goal

pub returns-then-nothing-clause-waited : goal.returns-then-nothing-clause-waited
returns-then-nothing-clause-waited g c = waits_now c.args.words.now.key c.args.side c.args.seat.now.me c.stand.new.seat.me
    c.sees_nothing-nothing.new.seat.me c.sees_nothing-nothing.result c.if-nothing.true c.stand.ensures.did
    c.sees_nothing-nothing.ensures.looked

pub returns-clause-waited : goal.returns-clause-waited
returns-clause-waited g c = waits_not c.args.words.now.key c.args.side c.args.seat.now.me c.stand.new.seat.me
    c.sees_nothing-nothing.new.seat.me c.leave.new.seat.me c.sees_nothing-nothing.result c.if-nothing.false c.stand.ensures.did
    c.sees_nothing-nothing.ensures.looked c.leave.ensures.did
