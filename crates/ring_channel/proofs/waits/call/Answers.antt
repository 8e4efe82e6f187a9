use Rattle.std.proofs.Common.{rules, ap, sym, subst, ◌∙◌, ◌≡◌, ℕ, ◌+◌, ◌-◌, ◌^◌, ◌<◌, eqb}
use Rattle.std.specs.Int.{bit_at}
use Rattle.std.specs.Int.Bits.{bit_and}
use Rattle.ring_channel.specs.declared.act.WaitStep.TheVariants.{Call}
use Rattle.ring_channel.specs.Looks.{MadeIf}
use Rattle.ring_channel.specs.Seen.{own_tag}
use Rattle.ring_channel.proofs.MayWait.{may_wait, wait_within}
use Rattle.ring_channel.proofs.WaitsKeep.{calls_on}
use Rattle.ring_channel.proofs.WaitsTold.{does_if, seated_does}
use Rattle.ring_channel.proofs.waits.call.Goals as goal

rest : (mask b t : ℕ) → b ≡ 2 ^ t → bit_and mask (18446744073709551615 - b) ≡ bit_and mask (2 ^ 64 - 1 - 2 ^ t)
rest mask b t is = ap (λ z. bit_and mask (18446744073709551615 - z)) is

pub compare_exchange-requires : goal.compare_exchange-requires
compare_exchange-requires g c =
    let n = c.args.words.now.key in
    let m = c.args.seat.now.me in
    let d = c.args.side in
    let mask = c.args.mask in
    let tag = c.args.tag in
    let at = c.wait_word.ensures.word in
    let others = rest mask c.bit_of.result tag c.bit_of.ensures.bit in
    let within = subst (λ z. z < 32 + n) (sym at) (wait_within d n) in (
      search rules,
      subst (λ z. c.wait_word.result < z) (sym c.requires.table.0.words) within,
      calls_on n _ _ c.wait_word.result mask _ tag d m c.requires.seat.key at within c.requires.waits.0 others
          (may_wait n (own_tag m.0) c.wait_word.result mask _ d (Call tag) m.0 c.requires.seat.own at
          (λ s is. (
            subst (λ z. bit_at z tag ≡ 1) (sym is) c.requires.waits.1,
            others ∙ ap (λ z. bit_and z (2 ^ 64 - 1 - 2 ^ tag)) (sym is),
          ))),
    )

pub returns-clause-did : goal.returns-clause-did
returns-clause-did g c =
    let n = c.args.words.now.key in
    let m = c.args.seat.now.me in
    let mask = c.args.mask in
    let tag = c.args.tag in
    let told = c.compare_exchange.ensures.2 c.args.side tag c.wait_word.ensures.word c.requires.waits.0 c.requires.waits.1
    (rest mask c.bit_of.result tag c.bit_of.ensures.bit) in
    does_if (eqb c.compare_exchange.result mask) n c.wait_word.result c.compare_exchange.result c.args.side (Call tag) m
    c.compare_exchange.new.seat.me c.requires.seat
    (subst (λ k. MadeIf (eqb c.compare_exchange.result mask) k c.wait_word.result c.compare_exchange.result c.args.side (Call tag) m
    c.compare_exchange.new.seat.me) c.requires.seat.key told)

pub returns-clause-seat : goal.returns-clause-seat
returns-clause-seat g c =
    let n = c.args.words.now.key in
    let m = c.args.seat.now.me in
    let mask = c.args.mask in
    let tag = c.args.tag in
    let told = c.compare_exchange.ensures.2 c.args.side tag c.wait_word.ensures.word c.requires.waits.0 c.requires.waits.1
    (rest mask c.bit_of.result tag c.bit_of.ensures.bit) in
    seated_does n c.args.side _ m c.compare_exchange.new.seat.me c.requires.seat
    (does_if (eqb c.compare_exchange.result mask) n c.wait_word.result c.compare_exchange.result c.args.side (Call tag) m
    c.compare_exchange.new.seat.me c.requires.seat
    (subst (λ k. MadeIf (eqb c.compare_exchange.result mask) k c.wait_word.result c.compare_exchange.result c.args.side (Call tag) m
    c.compare_exchange.new.seat.me) c.requires.seat.key told))
