use Rattle.std.proofs.Common.{ap}
use Rattle.cell_calls.specs.HubFloors.{hub_floor}
use Rattle.parcel_channel.specs.Hubs.{floor_by}
use Rattle.parcel_channel.proofs.OneMoveEach.{put_move}
use Rattle.parcel_channel.proofs.SendsTold.{tried_by, tried_told}
use Rattle.parcel_channel.proofs.hub.ParcelHub.try_send.Goals as goal

pub try_number-requires-clause-moved : goal.try_number-requires-clause-moved
try_number-requires-clause-moved g c = (
  c.args.value,
  put_move c.args.self.now.parcels c.args.pass.now.tag c.in-Ok.number c.args.value c.args.pass.now.seat.me.0 c.put_value-drawn.new.pass.seat.me.0
      c.in-Ok.ensures.answer,
)

pub returns-in-Ok-clause-answer : goal.returns-in-Ok-clause-answer
returns-in-Ok-clause-answer g c =
    let hub = c.args.self.now in
    let p = c.args.pass.now in
    let q = c.put_value-drawn.new.pass in
    let r = c.try_number.new.pass in
    let same = c.put_value-drawn.ensures.same in
    tried_told hub.parcels p.tag c.in-Ok.number c.args.value p.seat.me.0 q.seat.me.0 r.seat.me.0 (floor_by hub p) (floor_by hub r)
    c.try_number.result c.in-Ok.ensures.answer
    (tried_by q.tag p.tag c.in-Ok.number q.seat.me.0 r.seat.me.0 (floor_by hub q) (floor_by hub p) (floor_by hub r) c.try_number.result
    same.0 (ap (λ x. hub_floor hub.hub x) same.1) c.try_number.ensures.answer)
