use Rattle.std.proofs.Common.{eqb, eq-eqb, ne_eqb}
use Rattle.ring_channel.specs.declared.act.WaitStep.TheVariants.{NoneWaits}
use Rattle.ring_channel.proofs.CalledInTurn.{no_step, nobody_seen, may_name_then}
use Rattle.ring_channel.proofs.turns.try_call.Goals as goal

pub returns-then-mask-eq0-clause-named : goal.returns-then-mask-eq0-clause-named
returns-then-mask-eq0-clause-named g c = nobody_seen c.args.words.now.key c.args.side (eqb c.look_who-mask.result 0) c.args.seat.now.me
    c.look_who-mask.new.seat.me (eq-eqb c.look_who-mask.result 0 c.if-mask-eq0.true) c.look_who-mask.ensures.did

pub returns-in-None-clause-named : goal.returns-in-None-clause-named
returns-in-None-clause-named g c = no_step c.args.words.now.key c.args.side (eqb c.look_who-mask.result 0) NoneWaits c.args.seat.now.me
    c.look_who-mask.new.seat.me (ne_eqb c.look_who-mask.result 0 c.if-mask-eq0.false) c.look_who-mask.ensures.did

pub returns-in-Some-clause-named : goal.returns-in-Some-clause-named
returns-in-Some-clause-named g c = may_name_then c.args.words.now.key c.args.side c.call_this.result c.args.seat.now.me
    c.look_who-mask.new.seat.me c.call_this.new.seat.me
    (no_step c.args.words.now.key c.args.side (eqb c.look_who-mask.result 0) NoneWaits c.args.seat.now.me
    c.look_who-mask.new.seat.me (ne_eqb c.look_who-mask.result 0 c.if-mask-eq0.false) c.look_who-mask.ensures.did)
    c.call_this.ensures.named
