use Rattle.std.proofs.Common.{◌∙◌}
use Rattle.ring_channel.specs.Seen.{own_tag}
use Rattle.ring_channel.proofs.CallsTold.{got_same, got_idle}
use Rattle.ring_channel.proofs.ring.Ring.try_receive.Goals as goal

pub invariant_of-pass-clause-idle : goal.invariant_of-pass-clause-idle
invariant_of-pass-clause-idle g c =
    let old = c.args.pass.now in
    got_idle c.args.self.now.slots (own_tag old.seat.me.0) old.seat.me.0 c.take_once.new.seat.me.0 c.take_once.result old.seated.own
    c.requires.of.1 (c.take_once.ensures.seat.key ∙ c.args.self.now.many) old.idle c.take_once.ensures.answer

pub returns-clause-same : goal.returns-clause-same
returns-clause-same g c =
    let old = c.args.pass.now in
    got_same c.args.self.now.slots (own_tag old.seat.me.0) old.seat.me.0 c.take_once.new.seat.me.0 c.take_once.result
    c.take_once.ensures.answer
