use Rattle.std.proofs.Common.{rules, ap, sym, subst, ◌∙◌, ◌≡◌, ◌+◌, ◌^◌, ◌<◌}
use Rattle.std.specs.Int.Bits.{bit_or}
use Rattle.ring_channel.specs.declared.act.WaitStep.TheVariants.{Stand}
use Rattle.ring_channel.specs.Looks.{Made}
use Rattle.ring_channel.specs.Seen.{own_tag}
use Rattle.ring_channel.proofs.MayWait.{may_wait, wait_within}
use Rattle.ring_channel.proofs.WaitsKeep.{makes_on}
use Rattle.ring_channel.proofs.WaitsTold.{does_made, seated_does}
use Rattle.ring_channel.proofs.waits.stand.Goals as goal

pub fetch_or-requires : goal.fetch_or-requires
fetch_or-requires g c =
    let n = c.args.words.now.key in
    let m = c.args.seat.now.me in
    let d = c.args.side in
    let at = c.wait_word.ensures.word in
    let bit = c.bit_of.ensures.bit in
    let within = subst (λ z. z < 32 + n) (sym at) (wait_within d n) in (
      search rules,
      subst (λ z. c.wait_word.result < z) (sym c.requires.table.0.words) within,
      makes_on n _ _ c.wait_word.result (c.bit_of.result ≡ 2 ^ own_tag m.0) (λ i. bit_or i c.bit_of.result) d Stand m c.requires.seat.key at
          within
          (λ old. may_wait n (own_tag m.0) c.wait_word.result old (bit_or old c.bit_of.result) d Stand m.0 c.requires.seat.own at
          (λ s is. (
            subst (λ z. z < 64) c.requires.tag.0 c.requires.tag.1,
            (λ j. bit_or (sym is j) ((bit ∙ ap (λ t. 2 ^ t) c.requires.tag.0) j)),
          ))),
    )

pub returns-clause-did : goal.returns-clause-did
returns-clause-did g c =
    let n = c.args.words.now.key in
    let m = c.args.seat.now.me in
    let told = c.fetch_or.ensures.2 c.args.side c.wait_word.ensures.word (c.bit_of.ensures.bit ∙ ap (λ t. 2 ^ t) c.requires.tag.0) in
    let made = subst (λ k. Made k c.wait_word.result c.fetch_or.result c.args.side Stand m c.fetch_or.new.seat.me) c.requires.seat.key told
    in
    does_made n c.wait_word.result c.fetch_or.result c.args.side Stand m c.fetch_or.new.seat.me c.requires.seat made.0 made.1

pub returns-clause-seat : goal.returns-clause-seat
returns-clause-seat g c =
    let n = c.args.words.now.key in
    let m = c.args.seat.now.me in
    let told = c.fetch_or.ensures.2 c.args.side c.wait_word.ensures.word (c.bit_of.ensures.bit ∙ ap (λ t. 2 ^ t) c.requires.tag.0) in
    let made = subst (λ k. Made k c.wait_word.result c.fetch_or.result c.args.side Stand m c.fetch_or.new.seat.me) c.requires.seat.key told
    in
    seated_does n c.args.side _ m c.fetch_or.new.seat.me c.requires.seat
    (does_made n c.wait_word.result c.fetch_or.result c.args.side Stand m c.fetch_or.new.seat.me c.requires.seat made.0 made.1)
