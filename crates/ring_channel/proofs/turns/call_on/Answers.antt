use Rattle.std.proofs.Common.{eqb, eq-eqb, ne_eqb}
use Rattle.ring_channel.specs.declared.act.WaitStep.TheVariants.{NoneWaits}
use Rattle.ring_channel.proofs.CalledInTurn.{no_step, none_waits, left_nothing, left_calls}
use Rattle.ring_channel.proofs.turns.call_on.Goals as goal

pub returns-then-mask-eq0-clause-looked : goal.returns-then-mask-eq0-clause-looked
returns-then-mask-eq0-clause-looked g c = none_waits c.args.words.now.key c.args.side (eqb c.look_who-mask.result 0) c.args.seat.now.me
    c.look_who-mask.new.seat.me (eq-eqb c.look_who-mask.result 0 c.if-mask-eq0.true) c.look_who-mask.ensures.did

pub returns-then-nothing-clause-looked : goal.returns-then-nothing-clause-looked
returns-then-nothing-clause-looked g c =
    let n = c.args.words.now.key in
    let b = c.look_who-mask.new.seat.me in
    left_nothing n c.args.side c.args.seat.now.me b c.leave.new.seat.me c.sees_nothing-nothing.new.seat.me c.sees_nothing-nothing.result
    c.if-nothing.true
    (no_step n c.args.side (eqb c.look_who-mask.result 0) NoneWaits c.args.seat.now.me b
    (ne_eqb c.look_who-mask.result 0 c.if-mask-eq0.false) c.look_who-mask.ensures.did) c.leave.ensures.did
    c.sees_nothing-nothing.ensures.looked

pub returns-clause-looked : goal.returns-clause-looked
returns-clause-looked g c =
    let n = c.args.words.now.key in
    let b = c.look_who-mask.new.seat.me in
    left_calls n c.args.side c.call_one.result c.args.seat.now.me b c.leave.new.seat.me c.sees_nothing-nothing.new.seat.me
    c.call_one.new.seat.me c.sees_nothing-nothing.result c.if-nothing.false
    (no_step n c.args.side (eqb c.look_who-mask.result 0) NoneWaits c.args.seat.now.me b
    (ne_eqb c.look_who-mask.result 0 c.if-mask-eq0.false) c.look_who-mask.ensures.did) c.leave.ensures.did
    c.sees_nothing-nothing.ensures.looked c.call_one.ensures.named
