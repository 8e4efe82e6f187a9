use Rattle.std.proofs.Common.{eqb, eq-eqb, ne_eqb}
use Rattle.ring_channel.specs.declared.act.WaitStep.TheVariants.{Call}
use Rattle.ring_channel.proofs.CalledInTurn.{no_step, one_called}
use Rattle.ring_channel.proofs.turns.call_this.Goals as goal

pub returns-then-found-mask-clause-named : goal.returns-then-found-mask-clause-named
returns-then-found-mask-clause-named g c = one_called c.args.words.now.key c.args.side (eqb c.call-found.result c.args.mask) c.args.tag
    c.args.seat.now.me c.call-found.new.seat.me (eq-eqb c.call-found.result c.args.mask c.if-found-mask.true) c.call-found.ensures.did

pub returns-clause-named : goal.returns-clause-named
returns-clause-named g c = no_step c.args.words.now.key c.args.side (eqb c.call-found.result c.args.mask) (Call c.args.tag)
    c.args.seat.now.me c.call-found.new.seat.me (ne_eqb c.call-found.result c.args.mask c.if-found-mask.false) c.call-found.ensures.did
