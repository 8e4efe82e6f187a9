use Rattle.std.proofs.Common.{subst}
use Rattle.channel_model.specs.Answers.{LookAnswer}
use Rattle.cell_words.proofs.LooksAtCells.{hub_legal}
use Rattle.cell_calls.specs.HubFloors.{hub_floor}
use Rattle.parcel_channel.proofs.WaitsHeld.{holds_own, look_holds, look_ready}
use Rattle.parcel_channel.proofs.hub.ParcelHub.look.Goals as goal

pub look-requires-clause-own_wait : goal.look-requires-clause-own_wait
look-requires-clause-own_wait g c = holds_own c.args.pass.now.tag _ c.requires.holds

pub returns-clause-holds : goal.returns-clause-holds
returns-clause-holds g c =
    let hub = c.args.self.now.hub in
    look_holds c.args.pass.now.tag c.args.wait (hub_floor hub c.args.pass.now.pass) (hub_floor hub c.look.new.pass)
    (hub_legal hub c.look.new.pass c.look.ensures.own.0) c.look.ensures.answer.0 c.requires.holds

pub returns-clause-ready : goal.returns-clause-ready
returns-clause-ready g c is =
    let hub = c.args.self.now.hub in
    look_ready c.args.pass.now.tag c.args.wait (hub_floor hub c.args.pass.now.pass) (hub_floor hub c.look.new.pass)
    (hub_legal hub c.look.new.pass c.look.ensures.own.0)
    (subst (λ r. LookAnswer c.args.pass.now.tag c.args.wait (hub_floor hub c.args.pass.now.pass) (hub_floor hub c.look.new.pass) r) is
    c.look.ensures.answer) c.requires.holds
