use Rattle.std.proofs.Common.{rules, ap, sym, subst, ◌∙◌, ◌≡◌, ℕ, ◌+◌, ◌-◌, ◌^◌, ◌<◌}
use Rattle.std.specs.Int.Bits.{bit_and}
use Rattle.ring_channel.specs.declared.act.WaitStep.TheVariants.{Leave}
use Rattle.ring_channel.specs.Looks.{Made}
use Rattle.ring_channel.specs.Seen.{own_tag}
use Rattle.ring_channel.proofs.MayWait.{may_wait, wait_within}
use Rattle.ring_channel.proofs.WaitsKeep.{makes_on}
use Rattle.ring_channel.proofs.WaitsTold.{does_made, seated_does}
use Rattle.ring_channel.proofs.waits.leave.Goals as goal

rest : (b t u : ℕ) → b ≡ 2 ^ t → t ≡ u → 18446744073709551615 - b ≡ 2 ^ 64 - 1 - 2 ^ u
rest b t u is same = ap (λ z. 18446744073709551615 - z) (is ∙ ap (λ z. 2 ^ z) same)

pub fetch_and-requires : goal.fetch_and-requires
fetch_and-requires g c =
    let n = c.args.words.now.key in
    let m = c.args.seat.now.me in
    let d = c.args.side in
    let at = c.wait_word.ensures.word in
    let mask = rest c.bit_of.result c.args.tag (own_tag m.0) c.bit_of.ensures.bit c.requires.tag.0 in
    let within = subst (λ z. z < 32 + n) (sym at) (wait_within d n) in (
      search rules,
      subst (λ z. c.wait_word.result < z) (sym c.requires.table.0.words) within,
      makes_on n _ _ c.wait_word.result (18446744073709551615 - c.bit_of.result ≡ 2 ^ 64 - 1 - 2 ^ own_tag m.0)
          (λ i. bit_and i (18446744073709551615 - c.bit_of.result)) d Leave m c.requires.seat.key at within
          (λ old. may_wait n (own_tag m.0) c.wait_word.result old (bit_and old (18446744073709551615 - c.bit_of.result)) d Leave m.0
          c.requires.seat.own at
          (λ s is. (subst (λ z. z < 64) c.requires.tag.0 c.requires.tag.1, (λ j. bit_and (sym is j) (mask j))))),
    )

pub returns-clause-did : goal.returns-clause-did
returns-clause-did g c =
    let n = c.args.words.now.key in
    let m = c.args.seat.now.me in
    let told = c.fetch_and.ensures.2 c.args.side c.wait_word.ensures.word
    (rest c.bit_of.result c.args.tag (own_tag m.0) c.bit_of.ensures.bit c.requires.tag.0) in
    let made = subst (λ k. Made k c.wait_word.result c.fetch_and.result c.args.side Leave m c.fetch_and.new.seat.me) c.requires.seat.key
    told in
    does_made n c.wait_word.result c.fetch_and.result c.args.side Leave m c.fetch_and.new.seat.me c.requires.seat made.0 made.1

pub returns-clause-seat : goal.returns-clause-seat
returns-clause-seat g c =
    let n = c.args.words.now.key in
    let m = c.args.seat.now.me in
    let told = c.fetch_and.ensures.2 c.args.side c.wait_word.ensures.word
    (rest c.bit_of.result c.args.tag (own_tag m.0) c.bit_of.ensures.bit c.requires.tag.0) in
    let made = subst (λ k. Made k c.wait_word.result c.fetch_and.result c.args.side Leave m c.fetch_and.new.seat.me) c.requires.seat.key
    told in
    seated_does n c.args.side _ m c.fetch_and.new.seat.me c.requires.seat
    (does_made n c.wait_word.result c.fetch_and.result c.args.side Leave m c.fetch_and.new.seat.me c.requires.seat made.0 made.1)
