use Rattle.channel_model.specs.declared.acts.Why.TheVariants as why
use Rattle.cell_words.proofs.LooksAtCells.{hub_legal}
use Rattle.cell_calls.specs.HubFloors.{hub_floor}
use Rattle.parcel_channel.proofs.WaitsHeld.{holds_own, withdraw_ready}
use Rattle.parcel_channel.proofs.hub.ParcelHub.withdraw.Goals as goal

pub withdraw-requires-clause-own_wait : goal.withdraw-requires-clause-own_wait
withdraw-requires-clause-own_wait g c = holds_own c.args.pass.now.tag _ c.requires.holds

pub returns-clause-ready : goal.returns-clause-ready
returns-clause-ready g c =
    let hub = c.args.self.now.hub in
    withdraw_ready c.args.pass.now.tag c.args.wait why.Cancelled (hub_floor hub c.args.pass.now.pass) (hub_floor hub c.withdraw.new.pass)
    c.withdraw.result
    (hub_legal hub c.withdraw.new.pass c.withdraw.ensures.own.0) c.withdraw.ensures.answer c.requires.holds
