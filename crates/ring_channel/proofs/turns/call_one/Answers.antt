use Rattle.std.proofs.Common.{subst}
use Rattle.ring_channel.specs.Looks.{MayName}
use Rattle.ring_channel.proofs.CalledInTurn.{named_then}
use Rattle.ring_channel.proofs.turns.call_one.Goals as goal

pub returns-in-Some-clause-named : goal.returns-in-Some-clause-named
returns-in-Some-clause-named g c = subst (MayName c.args.words.now.key c.args.side c.args.seat.now.me c.try_call.new.seat.me) c.in-Some.is
    c.try_call.ensures.named

pub returns-in-None-clause-named : goal.returns-in-None-clause-named
returns-in-None-clause-named g c = named_then c.args.words.now.key c.args.side c.call_or_all.result c.args.seat.now.me
    c.try_call.new.seat.me c.call_or_all.new.seat.me
    (subst (MayName c.args.words.now.key c.args.side c.args.seat.now.me c.try_call.new.seat.me) c.in-None.is c.try_call.ensures.named)
    c.call_or_all.ensures.named
