use Rattle.std.proofs.Common.{◌/◌, ◌%◌, ◌*◌, eqb, ltb}
use Rattle.std.proofs.lemmas.Bool.{ltb-false}
use Rattle.ring_channel.specs.declared.act.RingSide.TheVariants.{Send}
use Rattle.ring_channel.proofs.CalledInTurn.{even_tail, looked_at}
use Rattle.ring_channel.proofs.turns.sees_full.Goals as goal

pub returns-then-tail-eq1-clause-looked : goal.returns-then-tail-eq1-clause-looked
returns-then-tail-eq1-clause-looked g c = (
  eqb (c.look_open_to_send-tail.result % 2) 0,
  c.look_open_to_send-tail.ensures.did,
  c.look_open_to_send-tail.ensures.ended c.if-tail-eq1.true,
)

pub returns-clause-looked : goal.returns-clause-looked
returns-clause-looked g c = looked_at c.args.words.now.key Send (eqb (c.look_open_to_send-tail.result % 2) 0)
    (ltb c.look_next-stamp.result (2 * (c.look_open_to_send-tail.result / 2))) c.args.seat.now.me c.look_open_to_send-tail.new.seat.me
    c.look_next-stamp.new.seat.me (even_tail c.look_open_to_send-tail.result c.if-tail-eq1.false) c.look_open_to_send-tail.ensures.did
    c.look_next-stamp.ensures.did
    (λ more. c.look_next-stamp.ensures.came (ltb-false c.look_next-stamp.result (2 * (c.look_open_to_send-tail.result / 2)) more))
