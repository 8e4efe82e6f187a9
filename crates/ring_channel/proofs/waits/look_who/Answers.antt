use Rattle.std.proofs.Common.{rules, sym, subst, ◌+◌, ◌<◌, eqb}
use Rattle.std.proofs.lemmas.Bool.{eqb-true}
use Rattle.ring_channel.specs.declared.act.WaitStep.TheVariants.{NoneWaits}
use Rattle.ring_channel.specs.Looks.{MadeIf}
use Rattle.ring_channel.specs.Seen.{own_tag}
use Rattle.ring_channel.proofs.MayWait.{may_see_none, wait_within}
use Rattle.ring_channel.proofs.WaitsKeep.{May, looks_on}
use Rattle.ring_channel.proofs.WaitsTold.{does_if, seated_does}
use Rattle.ring_channel.proofs.waits.look_who.Goals as goal

pub load-requires : goal.load-requires
load-requires g c =
    let n = c.args.words.now.key in
    let m = c.args.seat.now.me in
    let d = c.args.side in
    let at = c.wait_word.ensures.word in
    let within = subst (λ z. z < 32 + n) (sym at) (wait_within d n) in (
      search rules,
      subst (λ z. c.wait_word.result < z) (sym c.requires.table.0.words) within,
      looks_on n _ _ c.wait_word.result (λ i. eqb i 0) d NoneWaits m c.requires.seat.key at within
          (λ old is. subst (λ z. May n c.wait_word.result d NoneWaits m z z) (sym (eqb-true old 0 is))
          (may_see_none n (own_tag m.0) c.wait_word.result d m.0 c.requires.seat.own at)),
    )

pub returns-clause-did : goal.returns-clause-did
returns-clause-did g c =
    let n = c.args.words.now.key in
    let m = c.args.seat.now.me in
    let told = c.load.ensures.2 c.args.side c.wait_word.ensures.word in
    does_if (eqb c.load.result 0) n c.wait_word.result c.load.result c.args.side NoneWaits m c.load.new.seat.me c.requires.seat
    (subst (λ k. MadeIf (eqb c.load.result 0) k c.wait_word.result c.load.result c.args.side NoneWaits m c.load.new.seat.me)
    c.requires.seat.key told)

pub returns-clause-seat : goal.returns-clause-seat
returns-clause-seat g c =
    let n = c.args.words.now.key in
    let m = c.args.seat.now.me in
    let told = c.load.ensures.2 c.args.side c.wait_word.ensures.word in
    seated_does n c.args.side _ m c.load.new.seat.me c.requires.seat
    (does_if (eqb c.load.result 0) n c.wait_word.result c.load.result c.args.side NoneWaits m c.load.new.seat.me c.requires.seat
    (subst (λ k. MadeIf (eqb c.load.result 0) k c.wait_word.result c.load.result c.args.side NoneWaits m c.load.new.seat.me)
    c.requires.seat.key told))
