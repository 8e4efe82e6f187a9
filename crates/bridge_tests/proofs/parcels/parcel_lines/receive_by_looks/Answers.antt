use Rattle.std.proofs.Common.{sym, subst}
use Rattle.parcel_channel.specs.Hubs.{floor_by}
use Rattle.parcel_channel.specs.Numbers.{HoldsWait}
use Rattle.bridge_tests.proofs.parcels.parcel_lines.receive_by_looks.Goals as goal

pub await_number-requires-clause-holds : goal.await_number-requires-clause-holds
await_number-requires-clause-holds c = subst (λ t. HoldsWait t c.in-Waits.wait (floor_by c.args.hub.now c.receive.new.pass))
    (sym c.receive.ensures.same.0) c.in-Waits.ensures.answer.3
