use Rattle.std.proofs.Common.{◌∙◌, ap, sym, subst, ◌%◌, ◌==◌}
use Rattle.worded.specs.Views.{is_bare}
use Rattle.ring_channel.specs.Seen.{own_tag, IsSeated}
use Rattle.ring_channel.specs.Answers.{CloseAnswer}
use Rattle.ring_channel.proofs.CallsTold.{close_same, closed_idle, shut_told, shut_seated}
use Rattle.ring_channel.proofs.ring.Ring.close.Goals as goal

pub invariant_of-pass-clause-idle : goal.invariant_of-pass-clause-idle
invariant_of-pass-clause-idle g c =
    let old = c.args.pass.now in
    let n = c.args.self.now.table.shared.key in
    let is = c.requires.of.1 ∙ sym c.args.self.now.many in
    let seat = subst (λ k. IsSeated k old.seat.me) is old.seated in
    let told = shut_told n c.shut.result old.seat.me c.shut.new.seat.me seat c.shut.ensures.closed in
    closed_idle n (own_tag old.seat.me.0) old.seat.me.0 c.shut.new.seat.me.0 (c.shut.result % 2 == 0) old.seated.own is (told.key ∙ is)
    old.idle told.answer

pub returns-clause-same : goal.returns-clause-same
returns-clause-same g c =
    let old = c.args.pass.now in
    let n = c.args.self.now.table.shared.key in
    let seat = subst (λ k. IsSeated k old.seat.me) (c.requires.of.1 ∙ sym c.args.self.now.many) old.seated in
    close_same n (own_tag old.seat.me.0) old.seat.me.0 c.shut.new.seat.me.0 (c.shut.result % 2 == 0)
    (shut_told n c.shut.result old.seat.me c.shut.new.seat.me seat c.shut.ensures.closed).answer

pub returns-clause-answer : goal.returns-clause-answer
returns-clause-answer g c =
    let old = c.args.pass.now in
    let n = c.args.self.now.table.shared.key in
    let seat = subst (λ k. IsSeated k old.seat.me) (c.requires.of.1 ∙ sym c.args.self.now.many) old.seated in
    subst (λ k. CloseAnswer k (own_tag old.seat.me.0) old.seat.me.0 c.shut.new.seat.me.0 (c.shut.result % 2 == 0)) c.args.self.now.many
    (shut_told n c.shut.result old.seat.me c.shut.new.seat.me seat c.shut.ensures.closed).answer

pub invariant_of-pass-clause-seated : goal.invariant_of-pass-clause-seated
invariant_of-pass-clause-seated g c =
    let old = c.args.pass.now in
    let n = c.args.self.now.table.shared.key in
    let seat = subst (λ k. IsSeated k old.seat.me) (c.requires.of.1 ∙ sym c.args.self.now.many) old.seated in
    let now = shut_seated n c.shut.result old.seat.me c.shut.new.seat.me seat c.shut.ensures.closed in
    subst (λ k. IsSeated k c.shut.new.seat.me) (sym now.key) now

pub invariant_of-pass-clause-bare : goal.invariant_of-pass-clause-bare
invariant_of-pass-clause-bare g c =
    let old = c.args.pass.now in
    let n = c.args.self.now.table.shared.key in
    let seat = subst (λ k. IsSeated k old.seat.me) (c.requires.of.1 ∙ sym c.args.self.now.many) old.seated in
    ap is_bare (shut_told n c.shut.result old.seat.me c.shut.new.seat.me seat c.shut.ensures.closed).hand ∙ old.bare

pub returns-clause-of : goal.returns-clause-of
returns-clause-of g c =
    let old = c.args.pass.now in
    let n = c.args.self.now.table.shared.key in
    let seat = subst (λ k. IsSeated k old.seat.me) (c.requires.of.1 ∙ sym c.args.self.now.many) old.seated in
    let told = shut_told n c.shut.result old.seat.me c.shut.new.seat.me seat c.shut.ensures.closed in
    (c.shut.ensures.same.0 ∙ c.requires.of.0, told.key ∙ c.requires.of.1)
