use Rattle.std.proofs.Common.{arith, ◌%◌, ◌*◌, refl, eqb, leb}
use Rattle.std.proofs.lemmas.Bool.{leb-false}
use Rattle.ring_channel.specs.declared.act.RingSide.TheVariants.{Receive}
use Rattle.ring_channel.proofs.StoreTells.{fits_now, head_few, twice_few, seated_loaded}
use Rattle.ring_channel.proofs.CalledInTurn.{even_tail, looked_by}
use Rattle.ring_channel.proofs.WaitsTold.{does_loaded}
use Rattle.ring_channel.proofs.turns.sees_bare.Goals as goal

pub overflow_mul-result : goal.overflow_mul-result
overflow_mul-result g c = let few = twice_few c.load_word-place.result
    (head_few c.args.words.now.key c.load_word-place.result c.look_open_to_receive-tail.new.seat.me.0 c.load_word-place.new.seat.me.0
    c.requires.table.0.pos c.load_word-place.ensures.loaded) in omega (arith, few)

pub returns-then-tail-eq1-clause-looked : goal.returns-then-tail-eq1-clause-looked
returns-then-tail-eq1-clause-looked g c = (
  eqb (c.look_open_to_receive-tail.result % 2) 0,
  c.look_open_to_receive-tail.ensures.did,
  c.look_open_to_receive-tail.ensures.ended c.if-tail-eq1.true,
)

pub look_first-stamp-requires-clause-seat : goal.look_first-stamp-requires-clause-seat
look_first-stamp-requires-clause-seat g c = seated_loaded c.args.words.now.key 16 c.load_word-place.result c.look_open_to_receive-tail.new.seat.me
    c.load_word-place.new.seat.me c.look_open_to_receive-tail.ensures.seat c.load_word-place.ensures.loaded

pub look_first-stamp-requires-clause-place : goal.look_first-stamp-requires-clause-place
look_first-stamp-requires-clause-place g c = (fits_now c.args.words.now.key 16 c.load_word-place.result
    c.look_open_to_receive-tail.new.seat.me.0 c.load_word-place.new.seat.me.0 c.load_word-place.ensures.loaded).head refl

pub returns-clause-looked : goal.returns-clause-looked
returns-clause-looked g c =
    let n = c.args.words.now.key in
    let e = c.look_open_to_receive-tail.new.seat.me in
    let f = c.load_word-place.new.seat.me in
    looked_by n Receive (eqb (c.look_open_to_receive-tail.result % 2) 0) (leb c.look_first-stamp.result (2 * c.load_word-place.result))
    c.args.seat.now.me e f c.look_first-stamp.new.seat.me (even_tail c.look_open_to_receive-tail.result c.if-tail-eq1.false)
    c.look_open_to_receive-tail.ensures.did
    (does_loaded n 16 c.load_word-place.result Receive e f c.look_open_to_receive-tail.ensures.seat c.load_word-place.ensures.loaded
    c.load_word-place.ensures.same.2) c.look_first-stamp.ensures.did
    (λ more. c.look_first-stamp.ensures.came (leb-false c.look_first-stamp.result (2 * c.load_word-place.result) more))
