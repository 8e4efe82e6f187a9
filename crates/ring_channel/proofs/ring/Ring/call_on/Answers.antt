use Rattle.std.proofs.Common.{sym, ap, subst, ◌∙◌}
use Rattle.worded.specs.Views.{is_bare}
use Rattle.ring_channel.specs.Seen.{own_tag}
use Rattle.ring_channel.specs.Looks.{CallAnswer}
use Rattle.ring_channel.proofs.CallsOn.{does_same, does_idle}
use Rattle.ring_channel.proofs.ring.Ring.call_on.Goals as goal

pub invariant_of-pass-clause-idle : goal.invariant_of-pass-clause-idle
invariant_of-pass-clause-idle g c =
    let x = c.call_on.ensures.looked in
    does_idle c.args.self.now.table.shared.key c.args.side x.steps c.args.pass.now.seat.me c.call_on.new.seat.me
    (c.requires.of.1 ∙ sym c.args.self.now.many) c.args.pass.now.idle x.does

pub invariant_of-pass-clause-bare : goal.invariant_of-pass-clause-bare
invariant_of-pass-clause-bare g c = ap is_bare c.call_on.ensures.looked.does.hand ∙ c.args.pass.now.bare

pub returns-clause-same : goal.returns-clause-same
returns-clause-same g c =
    let x = c.call_on.ensures.looked in
    does_same c.args.self.now.table.shared.key c.args.side x.steps c.args.pass.now.seat.me c.call_on.new.seat.me x.does

pub returns-clause-answer : goal.returns-clause-answer
returns-clause-answer g c =
    let x = c.call_on.ensures.looked in
    let a = c.args.pass.now.seat.me in
    let r = c.call_on.new.seat.me in
    subst (λ k. CallAnswer k (own_tag a.0) c.args.side a.0 r.0 c.call_on.result) c.args.self.now.many
    (record { steps = x.steps; how = x.how; made = x.does.adds; all = x.all })
