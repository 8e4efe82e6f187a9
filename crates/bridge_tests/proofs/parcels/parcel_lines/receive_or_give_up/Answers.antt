use Rattle.std.proofs.Common.{sym, subst}
use Rattle.parcel_channel.specs.Hubs.{floor_by}
use Rattle.parcel_channel.specs.Numbers.{HoldsWait}
use Rattle.bridge_tests.proofs.parcels.parcel_lines.receive_or_give_up.Goals as goal

pub give_up-requires-clause-holds : goal.give_up-requires-clause-holds
give_up-requires-clause-holds c = subst (λ t. HoldsWait t c.in-Waits.wait (floor_by c.args.hub.now c.receive.new.pass))
    (sym c.receive.ensures.same.0) c.in-Waits.ensures.answer.3
