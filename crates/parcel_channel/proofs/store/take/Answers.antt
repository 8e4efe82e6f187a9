use Rattle.std.proofs.Common.{ap, ◌∙◌, ◌∷◌, Some, None, refl}
use Rattle.atomic_table.specs.Table.{rest}
use Rattle.parcel_channel.proofs.StoreTells.{out_of, in_hand, out_state, take_told}
use Rattle.parcel_channel.proofs.OneMoveEach.{only_taken}
use Rattle.parcel_channel.proofs.store.take.Goals as goal

pub exchange-value-requires : goal.exchange-value-requires
exchange-value-requires g c =
    let o = out_of c.args.words.now.key c.args.number c.move_out.result c.args.seat.now.me c.move_out.new.seat.me c.if-move_out-ne1.false
    c.move_out.ensures.moved in (
      c.move_out.ensures.same.0 ∙ c.requires.table.1,
      (
        Some o.value,
        in_hand c.args.words.now.key c.args.number c.args.seat.now.me c.move_out.new.seat.me o,
      ),
    )

pub put_back-requires-clause-out : goal.put_back-requires-clause-out
put_back-requires-clause-out g c =
    let o = out_of c.args.words.now.key c.args.number c.move_out.result c.args.seat.now.me c.move_out.new.seat.me c.if-move_out-ne1.false
    c.move_out.ensures.moved in
    out_state c.args.words.now.key c.args.number c.args.seat.now.me c.move_out.new.seat.me c.exchange-value.new.seat.me.0
    c.requires.seat.idle (ap (λ m. m.0) c.exchange-value.ensures.3) o

pub returns-clause-answer : goal.returns-clause-answer
returns-clause-answer g c =
    let o = out_of c.args.words.now.key c.args.number c.move_out.result c.args.seat.now.me c.move_out.new.seat.me c.if-move_out-ne1.false
    c.move_out.ensures.moved in
    let hand = ap (λ m. m.1) c.exchange-value.ensures.3 ∙ ap (λ l. (c.args.number, None) ∷ rest l) o.hand in
    let back = c.put_back.ensures.put c.args.number hand refl in
    take_told c.args.words.now.key c.args.number back.0 c.args.seat.now.me c.move_out.new.seat.me c.exchange-value.new.seat.me.0
    c.put_back.new.seat.me.0 c.exchange-value.result _ c.requires.seat.idle c.requires.seat.own o c.exchange-value.ensures.2
    (ap (λ m. m.0) c.exchange-value.ensures.3) back.1

pub returns-clause-only : goal.returns-clause-only
returns-clause-only g c =
    let o = out_of c.args.words.now.key c.args.number c.move_out.result c.args.seat.now.me c.move_out.new.seat.me c.if-move_out-ne1.false
    c.move_out.ensures.moved in
    let hand = ap (λ m. m.1) c.exchange-value.ensures.3 ∙ ap (λ l. (c.args.number, None) ∷ rest l) o.hand in
    let back = c.put_back.ensures.put c.args.number hand refl in
    only_taken c.args.words.now.key c.args.number back.0 (c.args.seat.now.me.0) c.exchange-value.new.seat.me.0 c.put_back.new.seat.me.0
    c.exchange-value.result _ back.1 (take_told c.args.words.now.key c.args.number back.0 c.args.seat.now.me c.move_out.new.seat.me
    c.exchange-value.new.seat.me.0 c.put_back.new.seat.me.0 c.exchange-value.result _ c.requires.seat.idle c.requires.seat.own o
    c.exchange-value.ensures.2 (ap (λ m. m.0) c.exchange-value.ensures.3) back.1)
