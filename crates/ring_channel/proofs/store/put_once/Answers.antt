use Rattle.std.proofs.Common.{ap, sym, ◌∙◌, ◌≡◌, subst, [], Some, None, refl, ◌+◌, ◌%◌, ◌/◌}
use Rattle.ring_channel.specs.Seen.{own_tag}
use Rattle.ring_channel.specs.Answers.{Adds, AtMoment, IsFull, WentOn, IsSent}
use Rattle.ring_channel.specs.Seen.{now_in}
use Rattle.ring_channel.proofs.StoreTells.{look, look_again, loaded_idle, seated_same, seated_loaded, seated_made, claimed_of, not_claimed, own_put, put_full, put_passed, put_adds, put_sent, at_place, in_hand, exchanged, same_value}
use Rattle.ring_channel.proofs.store.put_once.Goals as goal

pub returns-then-stamp-place-clause-answer : goal.returns-then-stamp-place-clause-answer
returns-then-stamp-place-clause-answer g c =
    let n = c.args.words.now.key in
    let v = c.args.seat.now.me.0 in
    let w = c.load_word-stamp.new.seat.me.0 in
    let same = c.requires.table.2 in
    let place = c.load_word-tail.result / 2 in
    let full = subst (λ k. Adds (own_tag v) [] v w × AtMoment k (IsFull k) v w) (sym same)
    (put_full n c.load_word-tail.result c.load_word-stamp.result (place % c.args.slots) place v c.load_word-tail.new.seat.me.0 w
    c.requires.table.0.pos c.requires.seat.idle c.requires.seat.own c.load_word-tail.ensures.loaded c.load_word-stamp.ensures.loaded
    refl (ap (λ k. place % k) same) c.if-stamp-place.true) in
    (refl, full.0, full.1)

pub returns-then-claim-place-clause-same : goal.returns-then-claim-place-clause-same
returns-then-claim-place-clause-same g c =
    let missed = not_claimed c.args.words.now.key (c.load_word-tail.result / 2) c.claim.result c.args.value _ c.load_word-stamp.new.seat.me
    c.claim.new.seat.me refl c.if-claim-place.true c.claim.ensures.claimed in (
      c.claim.ensures.same.0 ∙ c.load_word-stamp.ensures.same.0 ∙ c.load_word-tail.ensures.same.0,
      c.claim.ensures.same.1 ∙ c.load_word-stamp.ensures.same.1 ∙ c.load_word-tail.ensures.same.1,
      missed.1,
    )

pub returns-then-claim-place-clause-seat : goal.returns-then-claim-place-clause-seat
returns-then-claim-place-clause-seat g c =
    let n = c.args.words.now.key in
    let a = c.args.seat.now.me in
    let b = c.load_word-tail.new.seat.me in
    let d = c.load_word-stamp.new.seat.me in
    let missed = not_claimed n (c.load_word-tail.result / 2) c.claim.result c.args.value _ d c.claim.new.seat.me refl c.if-claim-place.true
    c.claim.ensures.claimed in
    seated_loaded n 0 c.claim.result d c.claim.new.seat.me
    (seated_loaded n _ _ b d (seated_loaded n 0 _ a b c.requires.seat c.load_word-tail.ensures.loaded) c.load_word-stamp.ensures.loaded)
    missed.0

pub returns-then-claim-place-clause-answer : goal.returns-then-claim-place-clause-answer
returns-then-claim-place-clause-answer g c =
    let n = c.args.words.now.key in
    let v = c.args.seat.now.me.0 in
    let d = c.load_word-stamp.new.seat.me in
    let r = c.claim.new.seat.me in
    let place = c.load_word-tail.result / 2 in
    let missed = not_claimed n place c.claim.result c.args.value _ d r refl c.if-claim-place.true c.claim.ensures.claimed in
    let passed = subst (λ k. Adds (own_tag v) [] v r.0 × AtMoment k (WentOn (now_in k r.0)) v r.0) (sym c.requires.table.2)
    (put_passed n c.load_word-tail.result c.load_word-stamp.result c.claim.result (place % c.args.slots) v
    c.load_word-tail.new.seat.me.0 d.0 r.0 c.requires.table.0.pos c.requires.seat.idle c.requires.seat.own
    c.load_word-tail.ensures.loaded c.load_word-stamp.ensures.loaded missed.0 c.if-tail-eq1.false c.if-claim-place.true) in
    (sym (same_some c.in-Some.is), passed.0, passed.1)
  where
    same_some : {A : Type 0} {x y : A} → Some x ≡ Some y → x ≡ y
    same_some e = cc

pub exchange-before-requires : goal.exchange-before-requires
exchange-before-requires g c =
    let n = c.args.words.now.key in
    let place = c.load_word-tail.result / 2 in
    let hit = claimed_of n place c.claim.result c.args.value _ c.load_word-stamp.new.seat.me c.claim.new.seat.me refl c.if-claim-place.false
    c.claim.ensures.claimed in (
      c.claim.ensures.same.0 ∙ c.load_word-stamp.ensures.same.0 ∙ c.load_word-tail.ensures.same.0 ∙ c.requires.table.1,
      (None, in_hand c.claim.new.seat.me.1 place n c.args.slots None c.requires.table.2 hit.1),
    )

pub fill-requires-clause-seat : goal.fill-requires-clause-seat
fill-requires-clause-seat g c =
    let n = c.args.words.now.key in
    let a = c.args.seat.now.me in
    let b = c.load_word-tail.new.seat.me in
    let d = c.load_word-stamp.new.seat.me in
    let hit = claimed_of n (c.load_word-tail.result / 2) c.claim.result c.args.value _ d c.claim.new.seat.me refl c.if-claim-place.false
    c.claim.ensures.claimed in
    seated_same n c.claim.new.seat.me c.exchange-before.new.seat.me (seated_made n 0 _ _ d c.claim.new.seat.me
    (seated_loaded n _ _ b d (seated_loaded n 0 _ a b c.requires.seat c.load_word-tail.ensures.loaded) c.load_word-stamp.ensures.loaded)
    hit.0) (ap (λ m. m.0) c.exchange-before.ensures.3)

pub fill-requires-clause-hand : goal.fill-requires-clause-hand
fill-requires-clause-hand g c =
    let n = c.args.words.now.key in
    let d = c.load_word-stamp.new.seat.me in
    let place = c.load_word-tail.result / 2 in
    let hit = claimed_of n place c.claim.result c.args.value _ d c.claim.new.seat.me refl c.if-claim-place.false c.claim.ensures.claimed in
    let own = own_put n place c.args.value d.0 c.claim.new.seat.me.0 c.exchange-before.new.seat.me.0
    (loaded_idle n _ _ c.load_word-tail.new.seat.me.0 d.0 c.load_word-stamp.ensures.loaded) (ap (λ m. m.0) c.exchange-before.ensures.3)
    hit.0 in (
      c.args.value,
      exchanged c.claim.new.seat.me.1 c.exchange-before.new.seat.me.1 place n c.args.slots None (Some c.args.value) c.requires.table.2 hit.1
          (ap (λ m. m.1) c.exchange-before.ensures.3),
      own.0,
      own.1,
    )

pub unreachable-requires-in_default-before : goal.unreachable-requires-in_default-before
unreachable-requires-in_default-before g c =
    let n = c.args.words.now.key in
    let place = c.load_word-tail.result / 2 in
    let hit = claimed_of n place c.claim.result c.args.value _ c.load_word-stamp.new.seat.me c.claim.new.seat.me refl c.if-claim-place.false
    c.claim.ensures.claimed in
    c.in_default-before.not-None (same_value c.claim.new.seat.me.1 _ (place % n) (place % c.args.slots) None c.exchange-before.result hit.1
    c.exchange-before.ensures.2)

pub returns-clause-same : goal.returns-clause-same
returns-clause-same g c =
    let n = c.args.words.now.key in
    let place = c.load_word-tail.result / 2 in
    let hit = claimed_of n place c.claim.result c.args.value _ c.load_word-stamp.new.seat.me c.claim.new.seat.me refl c.if-claim-place.false
    c.claim.ensures.claimed in
    let filled = c.fill.ensures.filled place c.args.value
    (exchanged c.claim.new.seat.me.1 c.exchange-before.new.seat.me.1 place n c.args.slots None (Some c.args.value) c.requires.table.2 hit.1
    (ap (λ m. m.1) c.exchange-before.ensures.3)) (ap (λ k. 32 + place % k) c.requires.table.2) refl in (
      c.fill.ensures.same.0 ∙ c.exchange-before.ensures.0 ∙ c.claim.ensures.same.0 ∙ c.load_word-stamp.ensures.same.0
          ∙ c.load_word-tail.ensures.same.0,
      c.fill.ensures.same.1 ∙ c.exchange-before.ensures.1 ∙ c.claim.ensures.same.1 ∙ c.load_word-stamp.ensures.same.1
          ∙ c.load_word-tail.ensures.same.1,
      filled.2,
    )

pub returns-clause-seat : goal.returns-clause-seat
returns-clause-seat g c =
    let n = c.args.words.now.key in
    let a = c.args.seat.now.me in
    let b = c.load_word-tail.new.seat.me in
    let d = c.load_word-stamp.new.seat.me in
    let e = c.exchange-before.new.seat.me in
    let place = c.load_word-tail.result / 2 in
    let hit = claimed_of n place c.claim.result c.args.value _ d c.claim.new.seat.me refl c.if-claim-place.false c.claim.ensures.claimed in
    let filled = c.fill.ensures.filled place c.args.value
    (exchanged c.claim.new.seat.me.1 e.1 place n c.args.slots None (Some c.args.value) c.requires.table.2 hit.1
    (ap (λ m. m.1) c.exchange-before.ensures.3)) (ap (λ k. 32 + place % k) c.requires.table.2) refl in
    seated_made n _ filled.0 _ e c.fill.new.seat.me
    (seated_same n c.claim.new.seat.me e (seated_made n 0 _ _ d c.claim.new.seat.me
    (seated_loaded n _ _ b d (seated_loaded n 0 _ a b c.requires.seat c.load_word-tail.ensures.loaded) c.load_word-stamp.ensures.loaded)
    hit.0) (ap (λ m. m.0) c.exchange-before.ensures.3)) filled.1

pub returns-clause-answer : goal.returns-clause-answer
returns-clause-answer g c =
    let n = c.args.words.now.key in
    let x = c.args.value in
    let v = c.args.seat.now.me.0 in
    let u = c.load_word-tail.new.seat.me.0 in
    let d = c.load_word-stamp.new.seat.me in
    let e = c.exchange-before.new.seat.me in
    let y = c.fill.new.seat.me.0 in
    let same = c.requires.table.2 in
    let tail = c.load_word-tail.result in
    let place = tail / 2 in
    let hit = claimed_of n place c.claim.result x _ d c.claim.new.seat.me refl c.if-claim-place.false c.claim.ensures.claimed in
    let hand = exchanged c.claim.new.seat.me.1 e.1 place n c.args.slots None (Some x) same hit.1 (ap (λ m. m.1) c.exchange-before.ensures.3)
    in
    let filled = c.fill.ensures.filled place x hand (ap (λ k. 32 + place % k) same) refl in
    let entered = at_place n c.args.slots place filled.0 _ e.0 y same filled.1 in
    let own = c.requires.seat.own in
    let a = look n 0 tail v u c.requires.seat.idle own c.load_word-tail.ensures.loaded in
    let b = look_again n (32 + place % c.args.slots) c.load_word-stamp.result (own_tag v) v u d.0 own a
    (loaded_idle n 0 tail v u c.load_word-tail.ensures.loaded) c.load_word-stamp.ensures.loaded in (
      put_adds n place filled.0 x v d.0 c.claim.new.seat.me.0 e.0 y c.requires.seat.idle own b
          (loaded_idle n _ _ u d.0 c.load_word-stamp.ensures.loaded) hit.0 (ap (λ m. m.0) c.exchange-before.ensures.3) entered,
      subst (λ k. IsSent k place x y) (sym same) (put_sent n filled.0 place (own_tag e.0) x e.0 y c.requires.table.0.pos entered),
    )
