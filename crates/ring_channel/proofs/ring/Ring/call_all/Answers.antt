use Rattle.std.proofs.Common.{sym, ap, subst, ◌∙◌}
use Rattle.worded.specs.Views.{is_bare}
use Rattle.ring_channel.specs.Seen.{own_tag}
use Rattle.ring_channel.specs.Looks.{AllAnswer}
use Rattle.ring_channel.proofs.CallsOn.{does_same, does_idle}
use Rattle.ring_channel.proofs.ring.Ring.call_all.Goals as goal

pub invariant_of-pass-clause-idle : goal.invariant_of-pass-clause-idle
invariant_of-pass-clause-idle g c = does_idle c.args.self.now.table.shared.key c.args.side _ c.args.pass.now.seat.me c.call_all.new.seat.me
    (c.requires.of.1 ∙ sym c.args.self.now.many) c.args.pass.now.idle c.call_all.ensures.did

pub invariant_of-pass-clause-bare : goal.invariant_of-pass-clause-bare
invariant_of-pass-clause-bare g c = ap is_bare c.call_all.ensures.did.hand ∙ c.args.pass.now.bare

pub returns-clause-same : goal.returns-clause-same
returns-clause-same g c = does_same c.args.self.now.table.shared.key c.args.side _ c.args.pass.now.seat.me c.call_all.new.seat.me
    c.call_all.ensures.did

pub returns-clause-answer : goal.returns-clause-answer
returns-clause-answer g c =
    let a = c.args.pass.now.seat.me in
    let r = c.call_all.new.seat.me in
    subst (λ k. AllAnswer k (own_tag a.0) c.args.side a.0 r.0 c.call_all.result) c.args.self.now.many
    (c.call_all.ensures.did.adds, c.call_all.ensures.found)
