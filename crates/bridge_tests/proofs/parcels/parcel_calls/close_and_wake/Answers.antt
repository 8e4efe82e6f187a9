use Rattle.parcel_channel.specs.Hubs.{floor_by}
use Rattle.parcel_channel.proofs.ClosesSeen.{closed_seen}
use Rattle.bridge_tests.proofs.parcels.parcel_calls.close_and_wake.Goals as goal

pub wake_closed-told-requires-clause-closed : goal.wake_closed-told-requires-clause-closed
wake_closed-told-requires-clause-closed c =
    let hub = c.args.hub.now in
    closed_seen c.args.pass.now.tag 0 c.args.value (floor_by hub c.args.pass.now) (floor_by hub c.close.new.pass) c.close.result
    c.close.ensures.answer
