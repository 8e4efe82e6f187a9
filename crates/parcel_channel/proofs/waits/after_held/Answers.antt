use Rattle.cell_words.proofs.LooksAtCells.{hub_legal}
use Rattle.cell_calls.specs.HubFloors.{hub_floor}
use Rattle.parcel_channel.proofs.AdmitsRepeat.{all_admits}
use Rattle.parcel_channel.proofs.OwnWaits.{plain_admits}
use Rattle.parcel_channel.proofs.waits.after_held.Goals as goal

pub settle_offer-ended-requires-clause-plain : goal.settle_offer-ended-requires-clause-plain
settle_offer-ended-requires-clause-plain c =
    let hub = c.args.hub.now in
    let old = hub_floor hub c.args.pass.now in
    let new = hub_floor hub c.admit-admitted.new.pass in
    plain_admits c.args.who c.args.w old new (hub_legal hub c.admit-admitted.new.pass c.admit-admitted.ensures.own.0) c.requires.plain
    (all_admits c.args.who c.admit-admitted.result old new c.admit-admitted.ensures.admits)

pub returns-clause-answer : goal.returns-clause-answer
returns-clause-answer c = (
  hub_floor c.args.hub.now c.admit-admitted.new.pass,
  c.admit-admitted.ensures.admits,
  c.settle_offer-ended.ensures.answer,
)
