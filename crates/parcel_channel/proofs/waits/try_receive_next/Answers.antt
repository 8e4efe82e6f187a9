use Rattle.cell_calls.specs.HubFloors.{hub_floor}
use Rattle.parcel_channel.proofs.waits.try_receive_next.Goals as goal

pub returns-in-Taken-clause-answer : goal.returns-in-Taken-clause-answer
returns-in-Taken-clause-answer c =
    (c.in-Taken._place, hub_floor c.args.hub.now c.try_receive.new.pass, c.in-Taken.ensures.answer, c.admit-admitted.ensures.admits)
