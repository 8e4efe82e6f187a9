use Rattle.cell_calls.specs.HubFloors.{hub_floor}
use Rattle.cell_words.proofs.LooksAtCells.{hub_legal}
use Rattle.parcel_channel.proofs.OwnWaits.{await_own}
use Rattle.parcel_channel.proofs.waits.receive_next.Goals as goal

pub returns-in-Taken-clause-answer : goal.returns-in-Taken-clause-answer
returns-in-Taken-clause-answer c = (
  c.in-Taken._place,
  hub_floor c.args.hub.now c.receive.new.pass,
  c.in-Taken.ensures.answer,
  c.admit-admitted.ensures.admits,
)

pub returns-in-Waiting-clause-own_wait : goal.returns-in-Waiting-clause-own_wait
returns-in-Waiting-clause-own_wait c =
    let hub = c.args.hub.now in
    let q = c.receive.new.pass in
    await_own c.args.who 0 c.in-Waiting.place (hub_floor hub c.args.pass.now) (hub_floor hub q) (hub_legal hub q c.receive.ensures.own.0)
    c.in-Waiting.ensures.answer
