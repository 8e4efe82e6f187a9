use Rattle.std.proofs.Common.{sym, subst}
use Rattle.parcel_channel.specs.Hubs.{floor_by}
use Rattle.waiting.specs.Stands.{AwaitsOn}
use Rattle.waiting.proofs.ReceiversEnd.{awaits_begun}
use Rattle.waiting.proofs.receiving.begin.Goals as goal

pub returns-in-Value-clause-step : goal.returns-in-Value-clause-step
returns-in-Value-clause-step g c = record { from = c.in-Value.from; admitted = c.in-Value.admitted; answer = c.in-Value.ensures.answer }

pub returns-in-Lost-clause-step : goal.returns-in-Lost-clause-step
returns-in-Lost-clause-step g c = (
  record { from = c.in-Lost.from; admitted = c.in-Lost.admitted; answer = c.in-Lost.ensures.answer },
  tt,
)

pub returns-in-Waits-clause-held : goal.returns-in-Waits-clause-held
returns-in-Waits-clause-held g c =
    let hub = c.args.hub.now in
    let p = c.args.pass.now in
    let q = c.receive.new.pass in
    let a = c.in-Waits.ensures.answer in
    subst (λ t. AwaitsOn t c.in-Waits.wait (floor_by hub q)) (sym c.receive.ensures.same.0)
    (awaits_begun p.tag c.in-Waits.wait (floor_by hub p) (floor_by hub q) a.0 a.1 a.3)
