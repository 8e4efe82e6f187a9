use Rattle.std.proofs.Common.{rules, arith, ap, subst, ◌%◌, eqb}
use Rattle.std.proofs.lemmas.Bool.{eqb-true}
use Rattle.ring_channel.specs.declared.act.RingSide.TheVariants.{Receive}
use Rattle.ring_channel.specs.declared.act.WaitStep.TheVariants.{GoesOn}
use Rattle.ring_channel.specs.Looks.{MadeIf}
use Rattle.ring_channel.specs.Seen.{own_tag}
use Rattle.ring_channel.proofs.MayGoOn.{ended_by, loaded_else}
use Rattle.ring_channel.proofs.MayWait.{may_see_open}
use Rattle.ring_channel.proofs.StepsKeep.{first_word}
use Rattle.ring_channel.proofs.WaitsKeep.{looks}
use Rattle.ring_channel.proofs.WaitsTold.{does_if, seated_does, tail_if}
use Rattle.ring_channel.proofs.waits.look_open_to_receive.Goals as goal

pub load-requires : goal.load-requires
load-requires g c =
    let n = c.args.words.now.key in
    let m = c.args.seat.now.me in (
      search rules,
      omega (arith, c.requires.table.0.words),
      looks n _ _ 0 (λ i. eqb (i % 2) 0) Receive GoesOn m c.requires.seat.key (first_word n)
          (λ old even. may_see_open n (own_tag m.0) old Receive m.0 c.requires.seat.own (eqb-true (old % 2) 0 even)),
    )

pub returns-clause-did : goal.returns-clause-did
returns-clause-did g c =
    let n = c.args.words.now.key in
    let m = c.args.seat.now.me in
    does_if (eqb (c.load.result % 2) 0) n 0 c.load.result Receive GoesOn m c.load.new.seat.me c.requires.seat
    (subst (λ k. MadeIf (eqb (c.load.result % 2) 0) k 0 c.load.result Receive GoesOn m c.load.new.seat.me) c.requires.seat.key
    c.load.ensures.2)

pub returns-clause-seat : goal.returns-clause-seat
returns-clause-seat g c =
    let n = c.args.words.now.key in
    let m = c.args.seat.now.me in
    seated_does n Receive _ m c.load.new.seat.me c.requires.seat
    (does_if (eqb (c.load.result % 2) 0) n 0 c.load.result Receive GoesOn m c.load.new.seat.me c.requires.seat
    (subst (λ k. MadeIf (eqb (c.load.result % 2) 0) k 0 c.load.result Receive GoesOn m c.load.new.seat.me) c.requires.seat.key
    c.load.ensures.2))

pub returns-clause-tail : goal.returns-clause-tail
returns-clause-tail g c =
    let n = c.args.words.now.key in
    let m = c.args.seat.now.me in
    tail_if (eqb (c.load.result % 2) 0) n c.load.result Receive m c.load.new.seat.me
    (subst (λ k. MadeIf (eqb (c.load.result % 2) 0) k 0 c.load.result Receive GoesOn m c.load.new.seat.me) c.requires.seat.key
    c.load.ensures.2)

pub returns-clause-ended : goal.returns-clause-ended
returns-clause-ended g c = λ odd.
    let n = c.args.words.now.key in
    let m = c.args.seat.now.me in
    ended_by n c.load.result Receive m c.load.new.seat.me
    (loaded_else (eqb (c.load.result % 2) 0) n 0 c.load.result Receive GoesOn m c.load.new.seat.me
    (ap (λ k. eqb k 0) odd)
    (subst (λ k. MadeIf (eqb (c.load.result % 2) 0) k 0 c.load.result Receive GoesOn m c.load.new.seat.me) c.requires.seat.key
    c.load.ensures.2)) odd
