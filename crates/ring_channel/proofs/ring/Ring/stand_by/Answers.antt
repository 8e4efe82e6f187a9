use Rattle.std.proofs.Common.{sym, ap, subst, ◌∙◌}
use Rattle.worded.specs.Views.{is_bare}
use Rattle.ring_channel.specs.Seen.{own_tag}
use Rattle.ring_channel.specs.Looks.{WaitAnswer}
use Rattle.ring_channel.proofs.CallsOn.{does_same, does_idle, waited_does, wait_answer}
use Rattle.ring_channel.proofs.ring.Ring.stand_by.Goals as goal

pub invariant_of-pass-clause-idle : goal.invariant_of-pass-clause-idle
invariant_of-pass-clause-idle g c =
    let n = c.args.self.now.table.shared.key in
    let a = c.args.pass.now.seat.me in
    let r = c.stand_by.new.seat.me in
    let x = waited_does n c.args.side a r c.stand_by.result c.stand_by.ensures.waited in
    does_idle n c.args.side x.0 a r (c.requires.of.1 ∙ sym c.args.self.now.many) c.args.pass.now.idle x.1

pub returns-clause-same : goal.returns-clause-same
returns-clause-same g c =
    let n = c.args.self.now.table.shared.key in
    let x = waited_does n c.args.side c.args.pass.now.seat.me c.stand_by.new.seat.me c.stand_by.result c.stand_by.ensures.waited in
    does_same n c.args.side x.0 c.args.pass.now.seat.me c.stand_by.new.seat.me x.1

pub returns-clause-answer : goal.returns-clause-answer
returns-clause-answer g c =
    let a = c.args.pass.now.seat.me in
    let r = c.stand_by.new.seat.me in
    subst (λ k. WaitAnswer k (own_tag a.0) c.args.side a.0 r.0 c.stand_by.result) c.args.self.now.many
    (wait_answer c.args.self.now.table.shared.key c.args.side a r c.stand_by.result c.stand_by.ensures.waited)

pub invariant_of-pass-clause-bare : goal.invariant_of-pass-clause-bare
invariant_of-pass-clause-bare g c =
    let n = c.args.self.now.table.shared.key in
    let x = waited_does n c.args.side c.args.pass.now.seat.me c.stand_by.new.seat.me c.stand_by.result c.stand_by.ensures.waited in
    ap is_bare x.1.hand ∙ c.args.pass.now.bare
