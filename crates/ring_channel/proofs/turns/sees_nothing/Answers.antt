use Rattle.std.proofs.Common.{sym, subst}
use Rattle.ring_channel.specs.Looks.{Looked}
use Rattle.ring_channel.proofs.turns.sees_nothing.Goals as goal

pub returns-in-Receive-clause-looked : goal.returns-in-Receive-clause-looked
returns-in-Receive-clause-looked g c = subst (λ d. Looked c.args.words.now.key d c.args.seat.now.me c.sees_bare.new.seat.me
    c.sees_bare.result) (sym c.in-Receive.is) c.sees_bare.ensures.looked

pub returns-in-Send-clause-looked : goal.returns-in-Send-clause-looked
returns-in-Send-clause-looked g c = subst (λ d. Looked c.args.words.now.key d c.args.seat.now.me c.sees_full.new.seat.me
    c.sees_full.result) (sym c.in-Send.is) c.sees_full.ensures.looked
