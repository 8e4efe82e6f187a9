use Rattle.std.proofs.Common.{◌∙◌}
use Rattle.ring_channel.specs.Seen.{own_tag}
use Rattle.ring_channel.proofs.CallsTold.{sent_same, sent_idle}
use Rattle.ring_channel.proofs.ring.Ring.try_send.Goals as goal

pub invariant_of-pass-clause-idle : goal.invariant_of-pass-clause-idle
invariant_of-pass-clause-idle g c =
    let old = c.args.pass.now in
    sent_idle c.args.self.now.slots c.args.self.now.places (own_tag old.seat.me.0) c.args.value old.seat.me.0 c.put_once.new.seat.me.0
    c.put_once.result old.seated.own c.requires.of.1 (c.put_once.ensures.seat.key ∙ c.args.self.now.many) old.idle c.put_once.ensures.answer

pub returns-clause-same : goal.returns-clause-same
returns-clause-same g c =
    let old = c.args.pass.now in
    sent_same c.args.self.now.slots c.args.self.now.places (own_tag old.seat.me.0) c.args.value old.seat.me.0 c.put_once.new.seat.me.0
    c.put_once.result c.put_once.ensures.answer
