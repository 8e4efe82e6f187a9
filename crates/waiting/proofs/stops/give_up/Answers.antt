use Rattle.std.specs.Prelude.{true}
use Rattle.std.proofs.Common.{◌∙◌}
use Rattle.parcel_channel.specs.Hubs.{floor_by}
use Rattle.waiting.proofs.StaysThen.{settle_as}
use Rattle.waiting.proofs.stops.give_up.Goals as goal

pub settle-requires-clause-ready : goal.settle-requires-clause-ready
settle-requires-clause-ready g c = c.take_back.ensures.back.ready

pub returns-clause-same : goal.returns-clause-same
returns-clause-same g c =
    let h = c.take_back.ensures.back.same in
    let k = c.settle.ensures.same in (k.0 ∙ h.0, (k.1.0 ∙ h.1.0, k.1.1 ∙ h.1.1), k.2 ∙ h.2)

pub returns-clause-given_up : goal.returns-clause-given_up
returns-clause-given_up g c =
    let hub = c.args.hub.now in
    let p = c.args.pass.now in
    let q = c.take_back.new.pass in
    let b = c.take_back.ensures.back in
    record {
      how = c.take_back.result;
      mid = floor_by hub q;
      withdrawn = b.answer;
      settled = settle_as hub c.args.wait true p q c.settle.new.pass (floor_by hub q) (floor_by hub c.settle.new.pass) c.settle.result
          b.same.0 b.values c.settle.ensures.answer;
    }
