use Rattle.parcel_channel.specs.Seen.{own_tag}
use Rattle.parcel_channel.proofs.OneMoveEach.{take_tags}
use Rattle.parcel_channel.proofs.NobodyHolds.{take_idle}
use Rattle.parcel_channel.proofs.calls.take_value.Goals as goal

pub invariant_of-pass-clause-idle : goal.invariant_of-pass-clause-idle
invariant_of-pass-clause-idle g c =
    let p = c.args.pass.now in
    take_idle (own_tag p.seat.me.0) c.args.number p.seat.me.0 c.take.new.seat.me.0 c.take.result p.seated.own p.idle c.take.ensures.answer

pub returns-clause-tags : goal.returns-clause-tags
returns-clause-tags g c =
    let p = c.args.pass.now in
    take_tags (own_tag p.seat.me.0) c.args.number p.seat.me.0 c.take.new.seat.me.0 c.take.result c.take.ensures.answer
