use Rattle.std.proofs.Common.{rules, sym, subst, ◌≡◌, ℕ, ◌+◌, ◌<◌, refl}
use Rattle.ring_channel.specs.declared.act.WaitStep.TheVariants.{CallAll}
use Rattle.ring_channel.specs.Looks.{Made}
use Rattle.ring_channel.specs.Seen.{own_tag}
use Rattle.ring_channel.proofs.MayWait.{may_wait, wait_within}
use Rattle.ring_channel.proofs.WaitsKeep.{makes_on}
use Rattle.ring_channel.proofs.WaitsTold.{does_made, seated_does, found_at}
use Rattle.ring_channel.proofs.waits.call_all.Goals as goal

pub swap-requires : goal.swap-requires
swap-requires g c =
    let n = c.args.words.now.key in
    let m = c.args.seat.now.me in
    let d = c.args.side in
    let at = c.wait_word.ensures.word in
    let within = subst (λ z. z < 32 + n) (sym at) (wait_within d n) in (
      search rules,
      subst (λ z. c.wait_word.result < z) (sym c.requires.table.0.words) within,
      makes_on n _ _ c.wait_word.result (◌≡◌ {A = ℕ} 0 0) (λ i. 0) d CallAll m c.requires.seat.key at within
          (λ old. may_wait n (own_tag m.0) c.wait_word.result old 0 d CallAll m.0 c.requires.seat.own at (λ s is. (tt, refl))),
    )

pub returns-clause-did : goal.returns-clause-did
returns-clause-did g c =
    let n = c.args.words.now.key in
    let m = c.args.seat.now.me in
    let told = c.swap.ensures.2 c.args.side c.wait_word.ensures.word refl in
    let made = subst (λ k. Made k c.wait_word.result c.swap.result c.args.side CallAll m c.swap.new.seat.me) c.requires.seat.key told in
    does_made n c.wait_word.result c.swap.result c.args.side CallAll m c.swap.new.seat.me c.requires.seat made.0 made.1

pub returns-clause-seat : goal.returns-clause-seat
returns-clause-seat g c =
    let n = c.args.words.now.key in
    let m = c.args.seat.now.me in
    let told = c.swap.ensures.2 c.args.side c.wait_word.ensures.word refl in
    let made = subst (λ k. Made k c.wait_word.result c.swap.result c.args.side CallAll m c.swap.new.seat.me) c.requires.seat.key told in
    seated_does n c.args.side _ m c.swap.new.seat.me c.requires.seat
    (does_made n c.wait_word.result c.swap.result c.args.side CallAll m c.swap.new.seat.me c.requires.seat made.0 made.1)

pub returns-clause-found : goal.returns-clause-found
returns-clause-found g c =
    let n = c.args.words.now.key in
    let m = c.args.seat.now.me in
    let told = c.swap.ensures.2 c.args.side c.wait_word.ensures.word refl in
    let made = subst (λ k. Made k c.wait_word.result c.swap.result c.args.side CallAll m c.swap.new.seat.me) c.requires.seat.key told in
    found_at n c.wait_word.result c.swap.result c.args.side CallAll m c.swap.new.seat.me c.wait_word.ensures.word made.0
