use Rattle.std.proofs.Common.{ℕ, arith, ap, sym, ◌∙◌, ◌≡◌, subst, [], Some, None, ◌+◌, ◌*◌, ◌%◌, ◌<◌}
use Rattle.ring_channel.specs.Seen.{own_tag, now_in}
use Rattle.ring_channel.specs.Answers.{Adds, AtMoment, IsBare, IsOver, IsSent}
use Rattle.ring_channel.proofs.StoreTells.{look, look_again, loaded_idle, taken_of, not_taken, own_take, take_bare, take_over, take_passed, take_adds, took_sent, freed_sent, at_place, in_hand, exchanged, same_value, head_few, twice_few, seated_same, seated_loaded, seated_made}
use Rattle.ring_channel.proofs.store.take_once.Goals as goal

pub overflow_mul-place : goal.overflow_mul-place
overflow_mul-place g c = let few = twice_few c.load_word-place.result
    (head_few c.args.words.now.key c.load_word-place.result c.args.seat.now.me.0 c.load_word-place.new.seat.me.0 c.requires.table.0.pos
    c.load_word-place.ensures.loaded) in omega (arith, few)

pub returns-then-tail-place-clause-answer : goal.returns-then-tail-place-clause-answer
returns-then-tail-place-clause-answer g c =
    let n = c.args.words.now.key in
    let v = c.args.seat.now.me.0 in
    let y = c.load_word-tail.new.seat.me.0 in
    let head = c.load_word-place.result in
    subst (λ k. Adds (own_tag v) [] v y × IsOver (now_in k y)) (sym c.requires.table.2)
    (take_over n head c.load_word-stamp.result c.load_word-tail.result (head % c.args.slots) v c.load_word-place.new.seat.me.0
    c.load_word-stamp.new.seat.me.0 y c.requires.table.0.pos c.requires.seat.idle c.requires.seat.own c.load_word-place.ensures.loaded
    c.load_word-stamp.ensures.loaded c.load_word-tail.ensures.loaded c.if-tail-eq1.true c.if-tail-place.true)

pub returns-then-stamp-place-clause-answer : goal.returns-then-stamp-place-clause-answer
returns-then-stamp-place-clause-answer g c =
    let n = c.args.words.now.key in
    let v = c.args.seat.now.me.0 in
    let y = c.load_word-tail.new.seat.me.0 in
    let head = c.load_word-place.result in
    subst (λ k. Adds (own_tag v) [] v y × AtMoment k (IsBare k) v y) (sym c.requires.table.2)
    (take_bare n head c.load_word-stamp.result c.load_word-tail.result (head % c.args.slots) v c.load_word-place.new.seat.me.0
    c.load_word-stamp.new.seat.me.0 y c.requires.table.0.pos c.requires.seat.idle c.requires.seat.own c.load_word-place.ensures.loaded
    c.load_word-stamp.ensures.loaded c.load_word-tail.ensures.loaded (ap (λ k. head % k) c.requires.table.2) c.if-stamp-place.true)

pub take-requires-clause-place : goal.take-requires-clause-place
take-requires-clause-place g c = head_few c.args.words.now.key c.load_word-place.result c.args.seat.now.me.0
    c.load_word-place.new.seat.me.0 c.requires.table.0.pos c.load_word-place.ensures.loaded

pub returns-then-take-place-clause-answer : goal.returns-then-take-place-clause-answer
returns-then-take-place-clause-answer g c =
    let n = c.args.words.now.key in
    let v = c.args.seat.now.me.0 in
    let d = c.load_word-stamp.new.seat.me in
    let r = c.take.new.seat.me in
    let head = c.load_word-place.result in
    let missed = not_taken n head c.take.result d r c.if-take-place.true c.take.ensures.taken in
    subst (λ k. Adds (own_tag v) [] v r.0 × AtMoment k (λ s. s.takes < (now_in k r.0).takes) v r.0) (sym c.requires.table.2)
    (take_passed n head c.load_word-stamp.result c.take.result (head % c.args.slots) v c.load_word-place.new.seat.me.0 d.0 r.0
    c.requires.table.0.pos c.requires.seat.idle c.requires.seat.own c.load_word-place.ensures.loaded c.load_word-stamp.ensures.loaded
    missed.0 c.if-take-place.true)

pub exchange-value-requires : goal.exchange-value-requires
exchange-value-requires g c =
    let n = c.args.words.now.key in
    let head = c.load_word-place.result in
    let hit = taken_of n head c.take.result c.load_word-stamp.new.seat.me c.take.new.seat.me c.if-take-place.false c.take.ensures.taken in (
      c.take.ensures.same.0 ∙ c.load_word-stamp.ensures.same.0 ∙ c.load_word-place.ensures.same.0 ∙ c.requires.table.1,
      (Some hit.value, in_hand c.take.new.seat.me.1 head n c.args.slots (Some hit.value) c.requires.table.2 hit.hand),
    )

pub free_slot-requires-clause-place : goal.free_slot-requires-clause-place
free_slot-requires-clause-place g c = head_few c.args.words.now.key c.load_word-place.result c.args.seat.now.me.0
    c.load_word-place.new.seat.me.0 c.requires.table.0.pos c.load_word-place.ensures.loaded

pub free_slot-requires-clause-out : goal.free_slot-requires-clause-out
free_slot-requires-clause-out g c =
    let n = c.args.words.now.key in
    let d = c.load_word-stamp.new.seat.me in
    let head = c.load_word-place.result in
    let hit = taken_of n head c.take.result d c.take.new.seat.me c.if-take-place.false c.take.ensures.taken in
    own_take n head d.0 c.take.new.seat.me.0 c.exchange-value.new.seat.me.0
    (loaded_idle n _ _ c.load_word-place.new.seat.me.0 d.0 c.load_word-stamp.ensures.loaded) (ap (λ m. m.0) c.exchange-value.ensures.3)
    hit.entered

pub returns-clause-answer : goal.returns-clause-answer
returns-clause-answer g c =
    let n = c.args.words.now.key in
    let a = c.args.seat.now.me in
    let v = a.0 in
    let u = c.load_word-place.new.seat.me in
    let d = c.load_word-stamp.new.seat.me in
    let r = c.take.new.seat.me in
    let e = c.exchange-value.new.seat.me in
    let y = c.free_slot.new.seat.me.0 in
    let same = c.requires.table.2 in
    let head = c.load_word-place.result in
    let own = c.requires.seat.own in
    let hit = taken_of n head c.take.result d r c.if-take-place.false c.take.ensures.taken in
    let now = ap (λ m. m.0) c.exchange-value.ensures.3 in
    let hand = exchanged r.1 e.1 head n c.args.slots (Some hit.value) None same hit.hand (ap (λ m. m.1) c.exchange-value.ensures.3) in
    let freed = c.free_slot.ensures.freed head hand (ap (λ k. 32 + head % k) same) (ap (λ k. 2 * (head + k)) same) in
    let entered = at_place n c.args.slots head freed.0 _ e.0 y same freed.1 in
    let seat_d = seated_loaded n _ _ u d (seated_loaded n 16 _ a u c.requires.seat c.load_word-place.ensures.loaded)
    c.load_word-stamp.ensures.loaded in
    let seat_e = seated_same n r e (seated_made n 16 head _ d r seat_d hit.entered) now in
    let look_u = look n 16 head v u.0 c.requires.seat.idle own c.load_word-place.ensures.loaded in
    let look_d = look_again n (32 + head % c.args.slots) c.load_word-stamp.result (own_tag v) v u.0 d.0 own look_u
    (loaded_idle n 16 head v u.0 c.load_word-place.ensures.loaded) c.load_word-stamp.ensures.loaded in
    let value_is = same_some (sym c.in-Some.is ∙ same_value r.1 _ (head % n) (head % c.args.slots) (Some hit.value) c.exchange-value.result
    hit.hand c.exchange-value.ensures.2) in
    let sent_r = took_sent n head d r c.requires.table.0.pos hit in
    let sent_e = subst (λ z. IsSent n head hit.value z) (sym now) sent_r in (
      take_adds n head freed.0 v d.0 r.0 e.0 y c.requires.seat.idle own look_d
          (loaded_idle n _ _ u.0 d.0 c.load_word-stamp.ensures.loaded) hit.entered now entered,
      subst (λ (k : ℕ × _). IsSent k.0 head k.1 y) (λ i. (sym same i, sym value_is i))
          (freed_sent n freed.0 head (own_tag e.0) hit.value e.0 y c.requires.table.0.pos seat_e.own sent_e entered),
    )
  where
    same_some : {A : Type 0} {x y : A} → Some x ≡ Some y → x ≡ y
    same_some e = cc
