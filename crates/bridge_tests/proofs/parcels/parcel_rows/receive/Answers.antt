use Rattle.std.proofs.Common.{sym, subst}
use Rattle.parcel_channel.specs.Hubs.{floor_by}
use Rattle.parcel_channel.specs.Numbers.{HoldsWait}
use Rattle.bridge_tests.proofs.parcels.parcel_rows.receive.Goals as goal

pub returns-in-Waits-clause-wait : goal.returns-in-Waits-clause-wait
returns-in-Waits-clause-wait c =
    let answer = c.in-Waits.ensures.answer in (
      answer.1,
      subst (λ t. HoldsWait t c.in-Waits.wait (floor_by c.args.hub.now c.receive.new.pass)) (sym c.receive.ensures.same.0)
          answer.3,
    )
