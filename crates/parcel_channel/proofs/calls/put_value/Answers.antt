use Rattle.parcel_channel.specs.Seen.{own_tag}
use Rattle.parcel_channel.proofs.OneMoveEach.{put_tags}
use Rattle.parcel_channel.proofs.NobodyHolds.{put_idle}
use Rattle.parcel_channel.proofs.calls.put_value.Goals as goal

pub invariant_of-pass-clause-idle : goal.invariant_of-pass-clause-idle
invariant_of-pass-clause-idle g c =
    let p = c.args.pass.now in
    put_idle c.args.hub.now.parcels (own_tag p.seat.me.0) c.args.value p.seat.me.0 c.put.new.seat.me.0 c.put.result p.seated.own p.idle
    c.put.ensures.answer

pub returns-clause-tags : goal.returns-clause-tags
returns-clause-tags g c =
    let p = c.args.pass.now in
    put_tags c.args.hub.now.parcels (own_tag p.seat.me.0) c.args.value p.seat.me.0 c.put.new.seat.me.0 c.put.result c.put.ensures.answer
