use Rattle.parcel_channel.specs.Hubs.{floor_by}
use Rattle.parcel_channel.proofs.ClosesSeen.{closed_seen, voided_seen}
use Rattle.bridge_tests.proofs.parcels.parcel_calls.cancel.Goals as goal

pub void-voided-requires-clause-closed : goal.void-voided-requires-clause-closed
void-voided-requires-clause-closed g c =
    let hub = c.args.hub.now in
    closed_seen c.args.pass.now.tag 0 0 (floor_by hub c.args.pass.now) (floor_by hub c.close.new.pass) c.close.result c.close.ensures.answer

pub returns-clause-voided : goal.returns-clause-voided
returns-clause-voided g c =
    let hub = c.args.hub.now in
    voided_seen c.close.new.pass.tag 0 (floor_by hub c.close.new.pass) (floor_by hub c.void-voided.new.pass) c.void-voided.result
    c.void-voided.ensures.answer
