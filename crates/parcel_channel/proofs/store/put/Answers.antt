use Rattle.std.proofs.Common.{ap, sym, ◌∙◌, subst, [], ◌∷◌, Some, None, refl, ◌<◌, ◌≤◌, if◌then◌else◌, Bool}
use Rattle.std.proofs.lemmas.Bool.{lt-ltb}
use Rattle.atomic_table.specs.Table.{rest}
use Rattle.parcel_channel.specs.Seen.{own_tag}
use Rattle.parcel_channel.specs.Answers.{IsSpent}
use Rattle.parcel_channel.proofs.StoreTells.{still_early, spent_before, spent_now, drawn_state, put_told}
use Rattle.parcel_channel.proofs.store.put.Goals as goal

pub draw_number-drawn-requires-clause-early : goal.draw_number-drawn-requires-clause-early
draw_number-drawn-requires-clause-early g c = still_early c.args.words.now.key c.load_count.result _ c.args.seat.now.me.0
    c.load_count.new.seat.me.0 c.load_count.ensures.loaded
    (subst (λ n. c.load_count.result < n) c.requires.table.2 c.if-load_count-parcels.false)

pub returns-then-load_count-parcels-clause-answer : goal.returns-then-load_count-parcels-clause-answer
returns-then-load_count-parcels-clause-answer g c =
    let v = c.args.seat.now.me.0 in (
      refl,
      subst (λ n. IsSpent n (own_tag v) v c.load_count.new.seat.me.0) (sym c.requires.table.2)
          (spent_before c.args.words.now.key c.load_count.result v c.load_count.new.seat.me.0 c.requires.seat.idle c.requires.seat.own
          c.load_count.ensures.loaded
          (subst (λ n. n ≤ c.load_count.result) c.requires.table.2 c.if-load_count-parcels.true)),
    )

pub returns-then-drawn-parcels-clause-answer : goal.returns-then-drawn-parcels-clause-answer
returns-then-drawn-parcels-clause-answer g c =
    let v = c.args.seat.now.me.0 in (
      refl,
      subst (λ n. IsSpent n (own_tag v) v c.draw_number-drawn.new.seat.me.0) (sym c.requires.table.2)
          (spent_now c.args.words.now.key c.load_count.result c.draw_number-drawn.result v c.load_count.new.seat.me.0
          c.draw_number-drawn.new.seat.me.0 c.requires.seat.idle c.requires.seat.own c.load_count.ensures.loaded
          c.draw_number-drawn.ensures.drawn.0
          (subst (λ n. n ≤ c.draw_number-drawn.result) c.requires.table.2 c.if-drawn-parcels.true)),
    )

pub move_in-requires-clause-hand : goal.move_in-requires-clause-hand
move_in-requires-clause-hand g c =
    let lt = subst (λ n. c.draw_number-drawn.result < n) c.requires.table.2 c.if-drawn-parcels.false in
    let hand = c.draw_number-drawn.ensures.drawn.1 ∙ ap (λ (b : Bool). if b then (c.draw_number-drawn.result, None) ∷ [] else [])
    (lt-ltb c.draw_number-drawn.result c.args.words.now.key lt) in
    (c.args.value, ap (λ m. m.1) c.exchange-before.ensures.3 ∙ ap (λ l. (c.draw_number-drawn.result, Some c.args.value) ∷ rest l) hand)

pub move_in-requires-clause-drawn : goal.move_in-requires-clause-drawn
move_in-requires-clause-drawn g c =
    drawn_state c.args.words.now.key c.draw_number-drawn.result c.load_count.new.seat.me.0 c.draw_number-drawn.new.seat.me.0
    c.exchange-before.new.seat.me.0 (ap (λ x. x.heard_tags) c.load_count.ensures.loaded.now) (ap (λ m. m.0) c.exchange-before.ensures.3)
    c.draw_number-drawn.ensures.drawn.0
    (subst (λ n. c.draw_number-drawn.result < n) c.requires.table.2 c.if-drawn-parcels.false)

pub returns-clause-answer : goal.returns-clause-answer
returns-clause-answer g c =
    let v = c.args.seat.now.me.0 in
    let lt = subst (λ n. c.draw_number-drawn.result < n) c.requires.table.2 c.if-drawn-parcels.false in
    let hand = c.draw_number-drawn.ensures.drawn.1 ∙ ap (λ (b : Bool). if b then (c.draw_number-drawn.result, None) ∷ [] else [])
    (lt-ltb c.draw_number-drawn.result c.args.words.now.key lt) in
    let moved = c.move_in.ensures.moved c.draw_number-drawn.result c.args.value (ap (λ m. m.1) c.exchange-before.ensures.3
    ∙ ap (λ l. (c.draw_number-drawn.result, Some c.args.value) ∷ rest l) hand) refl in
    let told = put_told c.args.words.now.key c.load_count.result c.draw_number-drawn.result moved.0 c.args.value v
    c.load_count.new.seat.me.0 c.draw_number-drawn.new.seat.me.0 c.exchange-before.new.seat.me.0 c.move_in.new.seat.me.0
    c.requires.seat.idle c.requires.seat.own
    c.load_count.ensures.loaded c.draw_number-drawn.ensures.drawn.0 lt (ap (λ m. m.0) c.exchange-before.ensures.3) moved.1 in
    (told.0, c.if-drawn-parcels.false)
